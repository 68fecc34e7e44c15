-- `h263_layers::start::ahead_at` meets its contract: by the zeros ahead and the bits left. Assumes nothing.
use native.Mathlib.Omega.{arith}
use mathlib.Core.Path.{◌≡◌, sym, ◌∙◌}
use Prim.Native.Nat.{ℕ, ◌≤◌, ◌<◌, min}
use Rattle.h263_layers.proofs.StartLaws.{cut_off_lem, all_absent, stands_alone, stands_stuffed, one_absent, far_absent}
use Rattle.h263_layers.proofs.start.ahead_at.Goals as goal

all_seen : (seen zeros : ℕ) → seen ≡ min 24 zeros → seen < 24 → zeros ≡ seen
all_seen seen zeros e l = omega (arith, e)

many_seen : (seen zeros : ℕ) → seen ≡ min 24 zeros → 24 ≤ seen → 24 ≤ zeros
many_seen seen zeros e l = omega (arith, e)

pub returns-then-seen-ge24 : goal.returns-then-seen-ge24
returns-then-seen-ge24 c =
    far_absent c.args.bytes.now c.args.count c.args.at (many_seen _ _ c.zeros-seen.ensures c.if-seen-ge24.true)

pub returns-then-seen-stuffing : goal.returns-then-seen-stuffing
returns-then-seen-stuffing c =
    let is = all_seen _ _ c.zeros-seen.ensures c.if-seen-ge24.false in
    cut_off_lem c.args.bytes.now c.args.count c.args.at (omega (arith, is, c.if-count-at.true)) (omega (arith, is, c.if-seen-stuffing.true))

pub returns-then-count-at : goal.returns-then-count-at
returns-then-count-at c =
    let is = all_seen _ _ c.zeros-seen.ensures c.if-seen-ge24.false in
    all_absent c.args.bytes.now c.args.count c.args.at (omega (arith, is, c.if-count-at.true)) (omega (arith, is, c.if-seen-stuffing.false))

pub returns-then-seen-eq16 : goal.returns-then-seen-eq16
returns-then-seen-eq16 c =
    let is = all_seen _ _ c.zeros-seen.ensures c.if-seen-ge24.false in
    stands_alone c.args.bytes.now c.args.count c.args.at (omega (arith, is, c.if-count-at.false)) (is ∙ c.if-seen-eq16.true)

pub returns-then-seen-stuffing-2 : goal.returns-then-seen-stuffing-2
returns-then-seen-stuffing-2 c =
    let is = all_seen _ _ c.zeros-seen.ensures c.if-seen-ge24.false in
    stands_stuffed c.args.bytes.now c.args.count c.args.at (omega (arith, is, c.if-count-at.false)) (λ e. c.if-seen-eq16.false (sym is ∙ e))
    (is ∙ c.if-seen-stuffing-2.true)

pub returns : goal.returns
returns c =
    let is = all_seen _ _ c.zeros-seen.ensures c.if-seen-ge24.false in
    one_absent c.args.bytes.now c.args.count c.args.at (omega (arith, is, c.if-count-at.false)) (λ e. c.if-seen-eq16.false (sym is ∙ e))
    (λ e. c.if-seen-stuffing-2.false (sym is ∙ e))
