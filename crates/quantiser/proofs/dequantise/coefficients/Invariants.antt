-- `quantiser::dequantise::coefficients` meets its contract. The loop's invariant: the first k coefficients are the definition's.
use Prim.Native.Nat.{◌≤◌}
use lib.IntN.{pos}
use Rattle.laws.specs.Rows.{Starts}
use Rattle.quantiser.specs.Level.{bytes_from, level_of, coefficient}
use Rattle.quantiser.proofs.dequantise.coefficients.Given as goal

abbrev pub invariant-loop-k : goal.invariant-loop-k
invariant-loop-k l = (l.k ≤ 64) × Starts (pos 0) 64 l.k (λ j. coefficient l.quantiser (level_of (bytes_from l.levels l.at j))) l.numbers
