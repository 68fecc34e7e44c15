-- By the size. Assumes nothing.
use Rattle.std.proofs.Common.{◌≤◌, arith}
use Rattle.size.specs.declared.Size.{Size}
use Rattle.size.specs.declared.Size.TheVariants.{SubQcif, Qcif, Cif}
use Rattle.size.proofs.Room.{output_most}
use Rattle.h261_groups.specs.Format.{size_of}
use Rattle.h263_stream.specs.Filled.{room_of}
use Rattle.pack.proofs.room.Goals as goal

room_most : (size : Size) → room_of size ≤ 32776
room_most SubQcif = omega arith
room_most Qcif = omega arith
room_most Cif = omega arith

pub returns-in-H261 : goal.returns-in-H261
returns-in-H261 c = omega (arith, c.output_length.ensures, output_most (size_of c.in-H261.format))

pub returns-in-H263 : goal.returns-in-H263
returns-in-H263 c = omega (arith, c.room.ensures, room_most c.in-H263.size)
