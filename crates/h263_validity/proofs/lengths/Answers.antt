-- `h263_validity::lengths` meets its contract: the three lengths are compared one after another. Assumes nothing.
use Prim.Native.Nat.{ℕ}
use mathlib.Core.Path.{ap}
use lib.Dec.{eqb}
use lib.ListN.{length}
use Rattle.laws.proofs.Choice.{stop, pass}
use Rattle.h263_validity.proofs.Steps.{equal_to, other_than}
use Rattle.h263_validity.proofs.lengths.Goals as goal

pub returns-then-head-head_length : goal.returns-then-head-head_length
returns-then-head-head_length c = stop _ (other_than _ c.head_length.ensures c.if-head-head_length.true)

pub returns-then-macroblocks-macroblocks_length : goal.returns-then-macroblocks-macroblocks_length
returns-then-macroblocks-macroblocks_length c =
    pass (equal_to _ c.head_length.ensures c.if-head-head_length.false) (stop _ (other_than _ c.macroblocks_length.ensures c.if-macroblocks-macroblocks_length.true))

pub returns : goal.returns
returns c =
    pass (equal_to _ c.head_length.ensures c.if-head-head_length.false)
    (pass (equal_to _ c.macroblocks_length.ensures c.if-macroblocks-macroblocks_length.false)
    (ap (λ (n : ℕ). eqb (length c.args.levels.now) n) c.levels_length.ensures))
