-- `h263_layers::start::zeros` meets its contract: bit by bit, zeros alone before the next. Assumes nothing.
use borrow.Author.Rules.{rules}
use native.Mathlib.Omega.{arith}
use mathlib.Core.Path.{◌≡◌, sym, ◌∙◌}
use Prim.Native.Nat.{ℕ, ◌+◌, ◌≤◌, min}
use Rattle.bits.proofs.Turns.{window_bit}
use Rattle.h263_layers.proofs.StartLaws.{seen_none, seen_all, seen_one, seen_zero}
use Rattle.h263_layers.proofs.start.zeros.Goals as goal

few : (seen zeros : ℕ) → seen ≤ 24 → zeros ≡ seen → seen ≡ min 24 zeros
few seen zeros l e = omega (arith, e)

many : (seen rest zeros : ℕ) → 24 ≤ seen → zeros ≡ seen + rest → 24 ≡ min 24 zeros
many seen rest zeros l e = omega (arith, e)

pub loop-seen-init : goal.loop-seen-init
loop-seen-init c = (search rules, seen_none _ _ _)

pub returns-then-left-seen : goal.returns-then-left-seen
returns-then-left-seen c =
    few c.loop-seen.seen _ c.loop-seen.invariant.0
    (seen_all c.args.bytes.now c.args.count c.args.at c.loop-seen.seen c.requires.inside c.loop-seen.invariant.1 c.if-left-seen.true)

pub returns-then-bits-after-eq1 : goal.returns-then-bits-after-eq1
returns-then-bits-after-eq1 c =
    let one = window_bit c.args.bytes.now c.args.at c.window-bits.result c.loop-seen.seen c.window-bits.ensures c.loop-seen-test.true in
    few c.loop-seen.seen _ c.loop-seen.invariant.0
    (seen_one c.args.bytes.now c.args.count c.args.at c.loop-seen.seen c.loop-seen.invariant.1 c.if-left-seen.false (sym one ∙ c.if-bits-after-eq1.true))

pub loop-seen-preserved : goal.loop-seen-preserved
loop-seen-preserved c =
    let bit = window_bit c.args.bytes.now c.args.at c.window-bits.result c.loop-seen.seen c.window-bits.ensures c.loop-seen-test.true in (
      search rules,
      seen_zero c.args.bytes.now c.args.count c.args.at c.loop-seen.seen c.loop-seen.invariant.1 c.if-left-seen.false (λ e. c.if-bits-after-eq1.false (bit ∙ e)),
    )

pub returns : goal.returns
returns c = many c.loop-seen.seen _ _ c.loop-seen-test.false c.loop-seen.invariant.1.zeros
