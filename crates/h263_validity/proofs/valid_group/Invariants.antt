-- `h263_validity::valid_group` meets its contract: the macroblocks so far are valid, and what is left is tested of the rest. Assumes nothing.
use Rattle.size.specs.Place.{macroblocks_across}
use Rattle.layout.proofs.Turns.{GroupSoFar}
use Rattle.h263_description.specs.Valid.{valid_macroblock, valid_macroblocks}
use Rattle.h263_validity.proofs.valid_group.Given as goal

abbrev pub invariant-loop-k : goal.invariant-loop-k
invariant-loop-k l = GroupSoFar (macroblocks_across l.size) (valid_macroblock l.size l.intra l.number) (valid_macroblocks (macroblocks_across l.size) l.size l.intra l.number 1 l.fields l.levels) l.fields l.levels l.k
