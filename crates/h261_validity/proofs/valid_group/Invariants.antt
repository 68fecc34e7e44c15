-- `h261_validity::valid_group` meets its contract: the macroblocks so far are valid, and what is left is tested of the rest. Assumes nothing.
use Prim.Native.Nat.{◌-◌}
use Rattle.h261_description.specs.Valid.{valid_macroblock, valid_macroblocks}
use Rattle.layout.proofs.Turns.{GroupSoFar}
use Rattle.h261_validity.proofs.valid_group.Given as goal

abbrev pub invariant-loop-k : goal.invariant-loop-k
invariant-loop-k l = GroupSoFar 33 (valid_macroblock l.format l.number) (valid_macroblocks 33 l.format l.number 1 l.fields l.levels) l.fields l.levels l.k
