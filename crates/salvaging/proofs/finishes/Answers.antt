-- `salvaging::finishes` meets its contract: block after block, until the picture is finished or can't be any more. Assumes nothing.
use mathlib.Core.Path.{◌≡◌, refl, ap, ◌∙◌}
use mathlib.Core.List.{List}
use Prim.Native.Nat.{ℕ, ◌-◌}
use native.Mathlib.Omega.{arith}
use lib.ListN.{length, take, drop, length-drop}
use Rattle.std.proofs.lemmas.List.{take_all}
use Rattle.std.specs.Slice.Iter.{chunks_exact_rest, chunks_exact_size}
use Rattle.std.specs.declared.slice.ChunksExact.{ChunksExact}
use Rattle.salvaging.proofs.Going.{call_of, looking_finished, looking_gone, looking_next, looking_at, looking_end}
use Rattle.salvaging.proofs.Blocks.{cut_of, short_of, place_of, left_first, rest_less, block_more, block_is, at_next, left_next, left_none}
use Rattle.salvaging.proofs.finishes.Goals as goal

rest_all : (list : List ℕ) (from : ℕ) → take (length list - from) (drop from list) ≡ drop from list
rest_all list from = take_all (length list - from) (drop from list) (omega (arith, length-drop from list))

pub loop-block-init : goal.loop-block-init
loop-block-init c =
    let s = c.into_iter-block-iterator.result in
    let from = c.args.from in
    let blocks = c.args.blocks.now in
    let same = c.into_iter-block-iterator.ensures.into_iter_gives in
    let size = ap (λ (s : ChunksExact ℕ). chunks_exact_size s) same ∙ c.chunks_exact-block-items.ensures.size in
    let rest = ap (λ (s : ChunksExact ℕ). chunks_exact_rest s) same ∙ c.chunks_exact-block-items.ensures.rest ∙ rest_all blocks from in
    let inside = c.requires.0.inside in (
      left_first s from size rest inside,
      looking_at (place_of blocks s from rest inside) (record { place = c.requires.0; same = record { collection = refl; first = refl; second = refl }; collects = c.requires.1; all = refl }),
    )

pub loop-block-smaller : goal.loop-block-smaller
loop-block-smaller c = rest_less c.loop-block.invariant.0 (cut_of c.loop-block.block-iterator c.next.new.self c.next.result c.in-Some.block c.next.ensures.steps c.in-Some.is)

pub returns-in-Finished : goal.returns-in-Finished
returns-in-Finished c =
    let left = c.loop-block.invariant.0 in
    let cut = cut_of c.loop-block.block-iterator c.next.new.self c.next.result c.in-Some.block c.next.ensures.steps c.in-Some.is in
    looking_finished c.loop-block.invariant.1 (block_more left cut) c.receive-received.result (call_of (block_is left cut) (record { does = c.receive-received.ensures })) c.look.ensures c.in-Finished.is

pub returns-in-Gone : goal.returns-in-Gone
returns-in-Gone c =
    let left = c.loop-block.invariant.0 in
    let cut = cut_of c.loop-block.block-iterator c.next.new.self c.next.result c.in-Some.block c.next.ensures.steps c.in-Some.is in
    looking_gone c.loop-block.invariant.1 (block_more left cut) c.receive-received.result (call_of (block_is left cut) (record { does = c.receive-received.ensures })) c.look.ensures c.in-Gone.is

pub loop-block-preserved : goal.loop-block-preserved
loop-block-preserved c =
    let left = c.loop-block.invariant.0 in
    let cut = cut_of c.loop-block.block-iterator c.next.new.self c.next.result c.in-Some.block c.next.ensures.steps c.in-Some.is in (
      left_next left cut,
      looking_at (at_next left cut)
          (looking_next c.loop-block.invariant.1 (block_more left cut) c.receive-received.result (call_of (block_is left cut) (record { does = c.receive-received.ensures })) c.look.ensures c.in-Collecting.is
          (record { collection = c.receive-received.auto.collection; first = c.receive-received.auto.first; second = c.receive-received.auto.second })),
    )

pub returns : goal.returns
returns c =
    let g = c.loop-block.invariant.1 in
    looking_end g (left_none c.loop-block.invariant.0 g.place (short_of c.loop-block.block-iterator c.next.new.self c.next.result c.next.ensures.steps c.in-None.is))
