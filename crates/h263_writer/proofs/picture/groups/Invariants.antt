-- `picture::groups` meets its contract. The loop's invariant: what is written is the groups before this one.
use Rattle.h263_writer.specs.Sound.{groups_bits}
use Rattle.h263_writer.proofs.GroupTurn.{GroupsSoFar}
use Rattle.h263_writer.proofs.picture.groups.Given as goal

abbrev pub invariant-loop-g : goal.invariant-loop-g
invariant-loop-g l = GroupsSoFar (groups_bits l.across l.down l.intra l.head l.macroblocks l.levels) l.across l.down l.intra l.head l.macroblocks l.levels l.initial.out l.at l.out l.place l.g
