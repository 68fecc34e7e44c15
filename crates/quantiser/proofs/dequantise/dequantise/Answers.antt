-- `quantiser::dequantise::dequantise` meets its contract: Figure 12 places the coefficients, and an INTRA block's first number is replaced.
use mathlib.Core.Path.{◌≡◌, ap, ◌∙◌}
use Prim.Native.Nat.{ℕ, ◌+◌}
use native.Mathlib.Omega.{arith}
use lib.ListN.{get_or}
use mir.Syntax.{w32}
use mir.Val.{to_z, of_z}
use Rattle.quantiser.proofs.Lines.{back32}
use Rattle.quantiser.specs.Level.{bytes_from, direct}
use Rattle.quantiser.proofs.Coefficients.{coded_small, whole_plain, whole_intra}
use Rattle.quantiser.proofs.dequantise.dequantise.Goals as goal
use Rattle.quantiser.proofs.dequantise.dequantise.Goals.{After-direct-start}

code : (c : After-direct-start) → to_z w32 (of_z w32 c.direct-start.result) ≡ direct (bytes_from c.args.levels.now c.args.at 0)
code c =
    let e : c.args.at ≡ c.args.at + 0 = omega arith in
    back32 c.direct-start.result c.direct-start.type_inv ∙ c.direct-start.ensures ∙ ap (λ (k : ℕ). direct (get_or c.args.levels.now k 0)) e

pub placed-block-requires : goal.placed-block-requires
placed-block-requires c =
    coded_small (bytes_from c.args.levels.now c.args.at) c.args.quantiser c.coefficients-numbers.ensures

pub returns-then-intra : goal.returns-then-intra
returns-then-intra c =
    whole_intra (bytes_from c.args.levels.now c.args.at) c.args.quantiser c.coefficients-numbers.ensures c.placed-block.ensures c.if-intra.true _ (code (goal.at.returns-then-intra c).After-direct-start)

pub returns-else-intra : goal.returns-else-intra
returns-else-intra c =
    whole_plain (bytes_from c.args.levels.now c.args.at) c.args.quantiser c.coefficients-numbers.ensures c.placed-block.ensures c.if-intra.false
