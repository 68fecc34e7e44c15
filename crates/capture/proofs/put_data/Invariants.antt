-- `capture::put_data` meets its contract: twelve bits, then 24 a turn, each run after the one before it.
use mathlib.Core.Path.{◌≡◌}
use lib.ListN.{length}
use Rattle.capture.proofs.Gather.{PutOn}
use Rattle.capture.proofs.put_data.Given as goal

abbrev pub invariant-loop-i : goal.invariant-loop-i
invariant-loop-i l = (length l.out ≡ length l.initial.out) × PutOn l.frame l.to l.i l.initial.out l.out
