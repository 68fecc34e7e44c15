-- `samples::levels::united` meets its contract: bits together are none where each number is 0. Assumes nothing.
use mathlib.Core.Path.{◌≡◌}
use Prim.Native.Nat.{◌≤◌}
use lib.Dec.{eqb}
use Rattle.quantiser.specs.Level.{bytes_from}
use Rattle.samples.proofs.Zeros.{zeros}
use Rattle.samples.proofs.levels.united.Given as goal

abbrev pub invariant-loop-k : goal.invariant-loop-k
invariant-loop-k l = (l.k ≤ l.count) × (eqb l.bits 0 ≡ zeros l.k (bytes_from l.levels l.from))
