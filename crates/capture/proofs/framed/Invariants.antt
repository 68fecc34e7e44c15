-- `capture::framed` meets its contract: bit after bit, what is left of the pattern is asked of what is left of the capture.
use mathlib.Core.Path.{◌≡◌}
use Prim.Native.Nat.{◌+◌, ◌-◌, ◌*◌}
use Rattle.bits.specs.Bits.{bits_of, bits_left}
use Rattle.capture.specs.Capture.{pattern, framed_by}
use Rattle.capture.proofs.framed.Given as goal

abbrev pub invariant-loop-k : goal.invariant-loop-k
invariant-loop-k l = framed_by pattern (bits_left l.capture l.count l.at) ≡ framed_by (bits_of (24 - l.k) 1776411) (bits_left l.capture l.count (l.at + 512 * l.k))
