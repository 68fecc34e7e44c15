-- `capture::lock` meets its contract: what is looked for from here on is what was looked for from the start.
use mathlib.Core.Path.{◌≡◌}
use Rattle.bits.specs.Bits.{bits_left}
use Rattle.capture.specs.Capture.{lock_from}
use Rattle.capture.proofs.lock.Given as goal

abbrev pub invariant-loop-at : goal.invariant-loop-at
invariant-loop-at l = lock_from (bits_left l.capture l.count l.at) l.at ≡ lock_from (bits_left l.capture l.count l.from) l.from
