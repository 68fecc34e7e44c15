-- `vault::renew` meets its contract: a copy of the block, and then stores in it. Assumes nothing.
use native.Mathlib.Omega.{arith}
use mathlib.Core.Path.{◌∙◌}
use lib.ListN.{length-set}
use Rattle.vault.proofs.Renewed.{renewed_stored}
use Rattle.vault.proofs.renew.Goals as goal

pub bounds-out-2 : goal.bounds-out-2
bounds-out-2 c = simp length-set (omega arith)

pub bounds-out-3 : goal.bounds-out-3
bounds-out-3 c = simp length-set (omega arith)

pub bounds-out-508 : goal.bounds-out-508
bounds-out-508 c = simp length-set (omega arith)

pub bounds-out-509 : goal.bounds-out-509
bounds-out-509 c = simp length-set (omega arith)

pub write_sum-requires : goal.write_sum-requires
write_sum-requires c = simp length-set (omega arith)

pub returns : goal.returns
returns c =
    c.write_sum.ensures ∙ renewed_stored c.args.clip c.args.picture c.args.block.now c.requires.block_long _ c.copy_from_slice.ensures.after
