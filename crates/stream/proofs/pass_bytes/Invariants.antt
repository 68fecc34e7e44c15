-- `stream::pass_bytes` meets its contract: byte by byte, as long as it is calm. Assumes nothing.
use Prim.Native.Nat.{◌*◌, ◌≤◌}
use lib.ListN.{length}
use Rattle.stream.specs.Bytes.{Reaches}
use Rattle.stream.proofs.pass_bytes.Given as goal

abbrev pub invariant-loop-i : goal.invariant-loop-i
invariant-loop-i l = (l.i ≤ length l.bytes) × Reaches l.bytes l.initial.next (l.from * 8) l.initial.picture l.next (l.i * 8) l.picture
