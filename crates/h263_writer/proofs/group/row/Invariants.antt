-- `group::row` meets its contract. The loop's invariant: what is written is the macroblocks before this column.
use Rattle.h263_writer.specs.Sound.{row_bits}
use Rattle.h263_writer.proofs.RowTurn.{RowSoFar}
use Rattle.h263_writer.proofs.group.row.Given as goal

abbrev pub invariant-loop-k : goal.invariant-loop-k
invariant-loop-k l = RowSoFar (row_bits l.across l.intra l.gquant l.number l.macroblocks l.levels) l.macroblocks l.levels l.across l.number l.gquant l.intra l.initial.out l.at l.out l.place l.k
