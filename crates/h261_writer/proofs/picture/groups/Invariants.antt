-- `picture::groups` meets its contract. The loop's invariant: what is written is the groups before this one.
use Prim.Native.Nat.{◌-◌}
use lib.ListN.{drop}
use Rattle.h261_groups.specs.Format.{group_numbers}
use Rattle.layout.specs.Flat.{groups_in}
use Rattle.h261_writer.specs.Write.{groups_of}
use Rattle.h261_writer.proofs.GroupTurn.{GroupsSoFar}
use Rattle.h261_writer.proofs.picture.groups.Given as goal

abbrev pub invariant-loop-g : goal.invariant-loop-g
invariant-loop-g l = GroupsSoFar (groups_of (group_numbers l.format) (groups_in 33 (drop 3 l.head) l.macroblocks l.levels)) l.format l.head l.macroblocks l.levels l.initial.out l.at l.out l.place l.g
