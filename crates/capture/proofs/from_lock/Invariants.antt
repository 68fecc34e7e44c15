-- `capture::from_lock` meets its contract: frame after frame, what is written so far and what the frames left give are all.
use Prim.Native.Nat.{◌+◌, ◌*◌}
use Rattle.capture.proofs.Replays.{Going}
use Rattle.capture.proofs.from_lock.Given as goal

abbrev pub invariant-loop-n : goal.invariant-loop-n
invariant-loop-n l = Going l.capture l.count l.lock l.initial.out l.initial.places (l.lock + 512 * l.n) l.tally l.out l.places
