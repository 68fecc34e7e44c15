-- `samples::levels::output` meets its contract: the short way gives what the transform gives where the first level stands alone. Assumes nothing.
use mathlib.Core.Path.{sym, ap, subst, ◌∙◌}
use Prim.Native.Nat.{◌+◌}
use native.Mathlib.Nat.{add-zero}
use native.Mathlib.Omega.{arith}
use mathlib.Core.List.{List}
use lib.IntN.{ℤ, pos}
use lib.ListN.{get_or}
use mir.Syntax.{w32}
use Rattle.laws.specs.Integer.{Low}
use Rattle.laws.proofs.Integer.{back}
use Rattle.laws.specs.Block.{Is}
use Rattle.laws.proofs.Tabulate.{is_made}
use Rattle.quantiser.specs.Level.{bytes_from}
use Rattle.quantiser.proofs.Level.{value_low, dequantised_small}
use Rattle.inverse.specs.Inverse.{inverse_at}
use Rattle.inverse.proofs.InverseLaws.{inverse_small}
use Rattle.samples.specs.Content.{difference_of}
use Rattle.samples.proofs.Zero.{all_zero, difference_alone}
use Rattle.samples.proofs.levels.output.Goals as goal
use Rattle.samples.proofs.levels.output.Goals.{After-first}

first_low : (c : After-first) → Low 2048 c.first.result
first_low c =
    subst (λ (z : ℤ). Low 2048 z) (sym c.first.ensures) (value_low _ _ _ 0 (omega (arith, c.type_inv.levels c.args.at)))

pub alone-requires-then-alone : goal.alone-requires-then-alone
alone-requires-then-alone c = rw (back w32 tt (first_low c)) (first_low c)

pub returns-then-alone : goal.returns-then-alone
unfolding difference_of
returns-then-alone c =
    let is = difference_alone (bytes_from c.args.levels.now c.args.at) c.args.intra c.args.quantiser
    (all_zero 63 (λ k. bytes_from c.args.levels.now c.args.at (1 + k)) c.alone.ensures c.if-alone.true)
    (ap (λ n. get_or c.args.levels.now n 0) (sym (add-zero c.args.at)))
    (back w32 tt (first_low (goal.at.returns-then-alone c).After-first) ∙ c.first.ensures)
    c.alone-then-alone.ensures in
    record { is = is; small = inverse_small _ is }

pub inverse-requires : goal.inverse-requires
inverse-requires c =
    dequantised_small _ _ _
    (λ position. omega (arith, c.type_inv.levels (c.args.at + position)))
    c.dequantise.ensures

pub returns : goal.returns
unfolding difference_of
returns c = record { is = subst (λ (b : List (List ℤ)). Is (pos 0) (inverse_at b) c.inverse.result) (is_made c.dequantise.ensures) c.inverse.ensures; small = inverse_small _ c.inverse.ensures }
