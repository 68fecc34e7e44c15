-- `h263_validity::valid_groups` meets its contract: the groups so far are valid, and what is left is tested of the rest. Assumes nothing.
use Rattle.size.specs.Place.{macroblocks_across}
use Rattle.layout.proofs.Turns.{GroupsSoFar}
use Rattle.h263_description.specs.Value.{group_numbers}
use Rattle.h263_description.specs.Valid.{valid_macroblock, valid_groups}
use Rattle.h263_validity.proofs.valid_groups.Given as goal

abbrev pub invariant-loop-g : goal.invariant-loop-g
invariant-loop-g l = GroupsSoFar (macroblocks_across l.size) (valid_macroblock l.size l.intra) (group_numbers l.size) (valid_groups l.size l.intra (group_numbers l.size) l.fields l.levels) l.fields l.levels l.g
