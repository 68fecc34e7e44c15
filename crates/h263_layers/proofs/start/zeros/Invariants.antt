-- `h263_layers::start::zeros` meets its contract: bit by bit, zeros alone before the next. Assumes nothing.
use Prim.Native.Nat.{◌≤◌}
use Rattle.h263_layers.proofs.StartLaws.{Seen}
use Rattle.h263_layers.proofs.start.zeros.Given as goal

abbrev pub invariant-loop-seen : goal.invariant-loop-seen
invariant-loop-seen l = (l.seen ≤ 24) × Seen l.bytes l.count l.at l.seen
