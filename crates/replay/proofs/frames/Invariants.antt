-- Ends: each frame is 512 bits further on. Assumes nothing.
use Rattle.std.proofs.Common.{◌-◌, ◌≤◌}
use Rattle.replay.proofs.frames.Given as goal

abbrev pub invariant-loop-state : goal.invariant-loop-state
invariant-loop-state g l = l.state.waiting ≤ 524280

abbrev pub decreases-loop-state : goal.decreases-loop-state
decreases-loop-state g l = l.count - l.state.at
