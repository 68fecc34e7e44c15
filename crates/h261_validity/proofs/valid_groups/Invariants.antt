-- `h261_validity::valid_groups` meets its contract: the groups so far are valid, and what is left is tested of the rest. Assumes nothing.
use Prim.Native.Nat.{◌-◌}
use mathlib.Core.Path.{◌≡◌}
use Rattle.h261_groups.specs.Format.{group_numbers, group_count}
use Rattle.h261_description.specs.Valid.{valid_macroblock, valid_groups}
use Rattle.layout.proofs.Turns.{GroupsSoFar}
use Rattle.h261_validity.proofs.valid_groups.Given as goal

abbrev pub invariant-loop-g : goal.invariant-loop-g
invariant-loop-g l = (l.count ≡ group_count l.format) × GroupsSoFar 33 (valid_macroblock l.format) (group_numbers l.format) (valid_groups l.format (group_numbers l.format) l.fields l.levels) l.fields l.levels l.g
