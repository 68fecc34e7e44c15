-- `vault::unused_weight` meets its contract: the cases of a byte before, after and around bit number `used`. Assumes nothing.
use native.Mathlib.Omega.{arith}
use mathlib.Core.Path.{◌≡◌, ap, ◌∙◌}
use Prim.Native.Nat.{ℕ, ◌+◌, ◌-◌, ◌*◌, ◌%◌, ◌^◌, ◌≤◌, ◌<◌}
use lib.Dec.{eqb, eqb→eq}
use Rattle.laws.proofs.Table.{all_at}
use Rattle.vault.specs.Block.{unused}
use Rattle.vault.proofs.unused_weight.Goals as goal

shifted : (n : ℕ) → n < 9 → (1 * 2 ^ n) % 2 ^ 32 ≡ 2 ^ n
shifted n l = eqb→eq _ _ (all_at 9 (λ k. eqb ((1 * 2 ^ k) % 2 ^ 32) (2 ^ k)) tt n l)

none : (used i : ℕ) → 8 * (i + 1) ≤ used → 1 ≡ 2 ^ unused used i
none used i l = let e : 0 ≡ unused used i = omega arith in ap (λ (n : ℕ). 2 ^ n) e

all : (used i : ℕ) → 8 < 8 * (i + 1) - used → 256 ≡ 2 ^ unused used i
all used i l = let e : 8 ≡ unused used i = omega arith in ap (λ (n : ℕ). 2 ^ n) e

some : (used i : ℕ) → 8 * (i + 1) - used ≤ 8 → (1 * 2 ^ (8 * (i + 1) - used)) % 2 ^ 32 ≡ 2 ^ unused used i
some used i l =
    let e : 8 * (i + 1) - used ≡ unused used i = omega arith in
    shifted (8 * (i + 1) - used) (omega arith) ∙ ap (λ (n : ℕ). 2 ^ n) e

pub returns-then-end-used : goal.returns-then-end-used
returns-then-end-used c = none c.args.used c.args.i c.if-end-used.true

pub returns-then-bits-gt8 : goal.returns-then-bits-gt8
returns-then-bits-gt8 c = all c.args.used c.args.i c.if-bits-gt8.true

pub returns : goal.returns
returns c = some c.args.used c.args.i c.if-bits-gt8.false
