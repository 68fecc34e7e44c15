-- `vault::blocks` meets its contract. The loop's invariant: the blocks of the parts passed stand in `out`, and what follows is as it was.
-- Assumes nothing.
use native.Mathlib.Omega.{arith}
use mathlib.Core.Path.{◌≡◌, ap, ◌∙◌}
use Prim.Native.Nat.{ℕ, ◌*◌}
use mathlib.Core.List.{◌++◌}
use lib.ListN.{drop}
use Rattle.vault.specs.declared.Header.{Header}
use Rattle.vault.specs.Parts.{part_count, first_blocks}
use Rattle.vault.proofs.BlocksStored.{none, more, lent}
use Rattle.vault.proofs.blocks.Goals as goal

pub loop-part-init : goal.loop-part-init
loop-part-init c = none _ _ _ _ _ _ _

pub overflow_mul-at : goal.overflow_mul-at
overflow_mul-at c = omega (arith, c.part_count-parts.ensures)

pub overflow_add-end : goal.overflow_add-end
overflow_add-end c = omega (arith, c.part_count-parts.ensures)

pub header_at-header-requires : goal.header_at-header-requires
header_at-header-requires c =
    let parts_are = c.part_count-parts.ensures in
    record { part_is = omega (arith, parts_are); short = omega arith; reached = omega (arith, parts_are) }

pub slice_bounds-write_block-end : goal.slice_bounds-write_block-end
slice_bounds-write_block-end c = omega (arith, c.loop-part.invariant.long, c.part_count-parts.ensures)

pub write_block-requires : goal.write_block-requires
write_block-requires c = (
  record {
    block_long = lent _ c.loop-part.part (omega (arith, c.loop-part.invariant.long, c.part_count-parts.ensures));
    part_is = omega (arith, ap (λ (h : Header). h.part) c.header_at-header.ensures, c.part_count-parts.ensures);
    held = omega arith;
  },
  omega (arith, ap (λ (h : Header). h.picture) c.header_at-header.ensures),
)

pub loop-part-preserved : goal.loop-part-preserved
loop-part-preserved c =
    more _ _ _ _ _ _ _ _ _ _ c.loop-part.invariant (omega (arith, c.part_count-parts.ensures)) (omega arith)
    c.header_at-header.ensures c.write_block.ensures

pub returns : goal.returns
returns c =
    let count = c.args.count in
    let e : c.loop-part.part ≡ part_count count = omega (arith, c.part_count-parts.ensures, c.loop-part.invariant.within) in record {
      value = c.part_count-parts.ensures;
      out_after =
          c.loop-part.invariant.is
          ∙ ap (λ (n : ℕ). first_blocks c.args.standard c.args.clip c.args.picture c.args.refresh c.args.bytes.now count n ++ drop (512 * n)
          c.args.out.now)
          e;
    }
