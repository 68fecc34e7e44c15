-- `vault::sum` meets its contract. The loop's invariant: the total is the exact sum of the terms passed, and at most 130050 a term, so it never wraps.
-- Assumes nothing.
use mathlib.Core.Path.{◌≡◌, refl, sym, ap, ◌∙◌}
use Prim.Native.Nat.{ℕ, ◌≤◌, ◌+◌, ◌*◌, ◌%◌}
use native.Mathlib.Omega.{arith}
use native.Mathlib.Nat.{mul-le-mul}
use native.Mathlib.Numerals.{add-one}
use mathlib.Core.List.{List}
use lib.ListN.{get_or}
use Rattle.vault.specs.Block.{weighted}
use Rattle.vault.proofs.sum.Goals as goal
use Rattle.vault.proofs.sum.Goals.{After-shared_slice_known-1}

term : (n b : ℕ) → n ≤ 510 → b ≤ 255 → n * b ≤ 130050
term n b h k = mul-le-mul h k

more : (s : List ℕ) (i : ℕ) → weighted s (i + 1) ≡ weighted s i + (i + 1) * get_or s i 0
unfolding weighted
more s i = rw add-one

small : (c : After-shared_slice_known-1) → (c.loop-i.i + 1) * get_or c.args.block.now c.loop-i.i 0 ≤ 130050
small c = term _ _ (omega arith) (omega (arith, c.type_inv.block c.loop-i.i))

pub loop-i-init : goal.loop-i-init
unfolding weighted
loop-i-init c = (refl, omega arith)

pub overflow_mul-total : goal.overflow_mul-total
overflow_mul-total c = omega (arith, small c)

pub overflow_add-total-in-loop-i : goal.overflow_add-total-in-loop-i
overflow_add-total-in-loop-i c = omega (arith, small c)

pub loop-i-preserved : goal.loop-i-preserved
loop-i-preserved c =
    let l = c.loop-i in
    (ap (λ (n : ℕ). n + (l.i + 1) * get_or c.args.block.now l.i 0) l.invariant.0 ∙ sym (more _ _), omega (arith, small c))

pub returns : goal.returns
returns c =
    let l = c.loop-i in
    let e : l.i ≡ 510 = omega arith in
    ap (λ (n : ℕ). n % 65521) (l.invariant.0 ∙ ap (weighted c.args.block.now) e)
