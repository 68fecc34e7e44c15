-- `inverse::inverse` meets its contract: the column sums of the row sums are the double sum.
use Prim.Native.Nat.{zero-le}
use lib.IntN.{ℤ}
use Rattle.laws.specs.Integer.{Low}
use Rattle.laws.proofs.Block.{is_each}
use Rattle.inverse.proofs.Bounds.{along_low}
use Rattle.inverse.proofs.Split.{whole}
use Rattle.inverse.proofs.inverse.Goals as goal

pub columns-requires : goal.columns-requires
columns-requires c =
    is_each (λ (z : ℤ). Low 46546944 z) c.rows.ensures (record { low = zero-le }) (λ v x. along_low _ x (c.requires v))

pub returns : goal.returns
returns c = whole _ _ _ c.rows.ensures c.columns.ensures
