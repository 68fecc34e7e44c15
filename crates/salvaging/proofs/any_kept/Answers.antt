-- `salvaging::any_kept` meets its contract: block after block, the answers to come tell whether any picture is kept. Assumes nothing.
use mathlib.Core.Path.{refl, sym, ap, ◌∙◌}
use Prim.Native.Nat.{ℕ}
use native.Mathlib.Omega.{arith}
use Rattle.std.specs.Slice.Iter.{chunks_exact_rest, chunks_exact_size}
use Rattle.std.specs.declared.slice.ChunksExact.{ChunksExact}
use Rattle.salvaging.proofs.Going.{call_of, any_done, any_next, any_at, any_end}
use Rattle.salvaging.proofs.Blocks.{cut_of, short_of, place_of, left_first, rest_less, block_more, block_is, at_next, left_next, left_none}
use Rattle.salvaging.proofs.any_kept.Goals as goal

pub loop-block-init : goal.loop-block-init
loop-block-init c =
    let s = c.into_iter-block-iterator.result in
    let same = c.into_iter-block-iterator.ensures.into_iter_gives in
    let size = ap (λ (s : ChunksExact ℕ). chunks_exact_size s) same ∙ c.chunks_exact-block-items.ensures.size in
    let rest = ap (λ (s : ChunksExact ℕ). chunks_exact_rest s) same ∙ c.chunks_exact-block-items.ensures.rest in (
      left_first s 0 size rest (omega arith),
      any_at (place_of c.args.blocks.now s 0 rest (omega arith))
          (record {
            place = record { whole = c.requires; begins = refl; inside = omega arith };
            same = record { collection = refl; first = refl; second = refl };
            all = refl;
          }),
    )

pub loop-block-smaller : goal.loop-block-smaller
loop-block-smaller c = rest_less c.loop-block.invariant.0 (cut_of c.loop-block.block-iterator c.next.new.self c.next.result c.in-Some.block c.next.ensures.steps c.in-Some.is)

pub returns-then-is_picture : goal.returns-then-is_picture
returns-then-is_picture c =
    let left = c.loop-block.invariant.0 in
    let cut = cut_of c.loop-block.block-iterator c.next.new.self c.next.result c.in-Some.block c.next.ensures.steps c.in-Some.is in
    any_done c.loop-block.invariant.1 (block_more left cut) c.receive-received.result (call_of (block_is left cut) (record { does = c.receive-received.ensures }))
    (sym c.is_picture.ensures ∙ c.if-is_picture.true)

pub loop-block-preserved : goal.loop-block-preserved
loop-block-preserved c =
    let left = c.loop-block.invariant.0 in
    let cut = cut_of c.loop-block.block-iterator c.next.new.self c.next.result c.in-Some.block c.next.ensures.steps c.in-Some.is in (
      left_next left cut,
      any_at (at_next left cut)
          (any_next c.loop-block.invariant.1 (block_more left cut) c.receive-received.result (call_of (block_is left cut) (record { does = c.receive-received.ensures }))
          (sym c.is_picture.ensures ∙ c.if-is_picture.false)
          (record { collection = c.receive-received.auto.collection; first = c.receive-received.auto.first; second = c.receive-received.auto.second })),
    )

pub returns : goal.returns
returns c =
    let g = c.loop-block.invariant.1 in
    any_end g (left_none c.loop-block.invariant.0 g.place (short_of c.loop-block.block-iterator c.next.new.self c.next.result c.next.ensures.steps c.in-None.is))
