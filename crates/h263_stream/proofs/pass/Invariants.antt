-- `h263_stream::pass` meets its contract: byte by byte, up to the next code. Assumes nothing.
use Prim.Native.Nat.{◌≤◌, max}
use lib.ListN.{length}
use Rattle.h263_stream.specs.Passed.{Reaches}
use Rattle.h263_stream.proofs.pass.Given as goal

abbrev pub invariant-loop-i : goal.invariant-loop-i
invariant-loop-i l = record {
  reaches : Reaches l.bytes l.initial.next l.from l.initial.picture l.next l.i l.picture;
  most : l.i ≤ max l.from (length l.bytes);
}
