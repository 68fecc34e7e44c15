-- `h263_stream::all_bits` meets its contract. Assumes nothing.
use native.Mathlib.Omega.{arith}
use Rattle.h263_stream.proofs.Dropped.{bytes_few, all_bits_lem}
use Rattle.h263_stream.proofs.all_bits.Goals as goal

pub overflow_mul-result : goal.overflow_mul-result
overflow_mul-result c = omega (arith, bytes_few c.args.size c.args.count c.room-most.ensures c.min.ensures)

pub returns : goal.returns
returns c = all_bits_lem c.args.size c.args.count c.room-most.ensures c.min.ensures
