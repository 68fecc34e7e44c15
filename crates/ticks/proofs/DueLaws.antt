-- The two whole numbers are converted exactly, so that the due time is their quotient, rounded once; tick 3750 gives exactly 125.125.
-- Assumes nothing.
use mathlib.Core.Path.{◌≡◌, refl, sym, ap, ◌∙◌, subst}
use mathlib.Core.Bool.{Bool, false, cond}
use Prim.Native.Nat.{ℕ, suc, ◌*◌, ◌≤◌, ◌<◌, ◌^◌}
use native.Mathlib.Nat.{mul-one, mul-pos, mul_comm, mul_right_comm, mul_assoc, zero-lt-suc, ne_of_gt}
use native.Mathlib.Omega.{arith}
use lib.Dec.{eqb, lit≤}
use borrow.Author.Tests.{ne_eqb}
use lib.Ieee.{Float, nan, inf, fin, Format, binary64, up, down, unlike, div, round, of_int, of_bits}
use lib.Ieee.Back.{round_whole}
use lib.Ieee.Exact.{HasValue}
use lib.Ieee.Fits.{up_pos, down_pos}
use lib.Ieee.Positive.{first_pos}
use lib.Ieee.Scale.{round_same}
use Rattle.ticks.specs.Due.{converted, seconds_of, Exactly, ConvertedExactly, RoundedOnce, Due3750}

-- ---- every whole number up to 2^53 is converted exactly
up_to_53 : {n : ℕ} → n ≤ 2 ^ 53 → Exactly n
unfolding converted of_int
up_to_53 {n} small = round_whole binary64 false n small

-- 1001 times a u32 is below 2^42
small : {tick : ℕ} → tick < 2 ^ 32 → 1001 * tick ≤ 2 ^ 53
small fits = omega (arith, fits)

pub converted_exactly : ConvertedExactly
converted_exactly = (λ tick fits. up_to_53 (small fits), up_to_53 (lit≤ tt))

-- ---- a quotient of two whole numbers is rounded once
-- where x over u is a, and y over v is b, x v over y u is a over b
crossed : (x y u v a b : ℕ) → x * 1 ≡ a * u → y * 1 ≡ b * v → x * v * b ≡ a * (y * u)
crossed x y u v a b ex ey =
    let is_x : x ≡ a * u = sym (mul-one x) ∙ ex in
    let is_y : v * b ≡ y = mul_comm v b ∙ sym ey ∙ mul-one y in
    mul_assoc x v b ∙ ap (λ (z : ℕ). x * z) is_y ∙ ap (λ (z : ℕ). z * y) is_x ∙ mul_right_comm a u y ∙ mul_assoc a y u

-- n w over v is above 0, so n is
some : (n w v b : ℕ) → n * w * 1 ≡ suc b * v → 0 < v → 0 < n
some n w v b e above =
    let full : 0 < n * w * 1 = subst (λ (x : ℕ). 0 < x) (sym e) (mul-pos (zero-lt-suc b) above) in
    first_pos n w (subst (λ (x : ℕ). 0 < x) (mul-one (n * w)) full)

-- where x is a, and y is b + 1
quotient : (f : Format) (x y : Float) (a b : ℕ) → HasValue x false a 1 → HasValue y false (suc b) 1 → div f x y ≡ round f false a (suc b)
unfolding div
quotient f nan y a b h k = absurd h
quotient f (inf s) y a b h k = absurd h
quotient f (fin s m e) nan a b h k = absurd k
quotient f (fin s m e) (inf t) a b h k = absurd k
quotient f (fin s m e) (fin t n d) a b h k =
    let above : 0 < n = some n (up d) (down d) b k.1 (down_pos d) in
    let num = m * up e * down d in
    let den = n * up d * down e in
    ap (λ (z : Bool). cond z (cond (eqb m 0) nan (inf (unlike s t))) (round f (unlike s t) num den)) (ne_eqb n 0 (ne_of_gt above))
    ∙ ap (λ (z : Bool). round f (unlike z t) num den) h.0
    ∙ ap (λ (z : Bool). round f (unlike false z) num den) k.0
    ∙ round_same f false num den a (suc b) (mul-pos (mul-pos above (up_pos d)) (down_pos e)) (zero-lt-suc b)
    (crossed (m * up e) (n * up d) (down e) (down d) a (suc b) h.1 k.1)

pub rounded_once : RoundedOnce
unfolding seconds_of
rounded_once tick fits = quotient binary64 (converted (1001 * tick)) (converted 30000) (1001 * tick) 29999 (converted_exactly.0 tick fits) converted_exactly.1

-- ---- the exact case
pub due_3750 : Due3750
unfolding converted seconds_of div of_int of_bits
due_3750 = refl
