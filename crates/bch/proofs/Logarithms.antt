-- The powers of x modulo the two factors of the generator, and their logarithms. Assumes nothing.
use mathlib.Core.Path.{◌≡◌, refl, sym, ap, ap₂, ◌∙◌}
use mathlib.Core.Bool.{Bool}
use mathlib.Core.Logic.{◌⊎◌, inl, inr}
use mathlib.Core.List.{List}
use Prim.Native.Nat.{ℕ, zero, suc, ◌+◌, ◌^◌, ◌%◌, ◌≤◌, ◌<◌}
use native.Mathlib.Nat.{mod-lt, mod-eq_of_lt, le_of_suc-le-suc, not-suc-le-zero}
use native.Mathlib.Omega.{arith}
use lib.Dec.{T, eqb, ltb, lit<, eqb→eq, ltb→lt}
use lib.Bits.{xor_comm}
use lib.ListN.{get_or}
use Rattle.laws.specs.Choice.{both}
use Rattle.laws.proofs.Choice.{both_left, both_right}
use Rattle.laws.specs.Table.{all_b}
use Rattle.laws.proofs.Table.{all_at}
use Rattle.laws.proofs.Rows.{lt-or-ge}
use Rattle.laws.specs.Xor.{◌⊕◌}
use Rattle.laws.proofs.Xor.{additive_same}
use Rattle.bch.specs.Division.{Divisor, up, fed, raised}
use Rattle.bch.proofs.Division.{up-xor, up_lt, raised-xor, raised-add}
use Rattle.bch.specs.Code.{first, second, generator}
use Rattle.bch.specs.Locate.{part, powers_from, places_of, first_powers, second_powers, first_logs, second_logs, step}
use Rattle.bch.proofs.Syndrome.{part-xor}

-- ---- the remainder by a factor is that of the remainder by the generator
-- what part and up do in either order, tested at the powers of two
agree : Divisor → ℕ → Bool
agree d n = eqb (part d (up generator (2 ^ n))) (up d (part d (2 ^ n)))

part-raised : (d : Divisor) → T (all_b 18 (agree d)) → (n r : ℕ) → r < 2 ^ 18 → part d (raised generator n r) ≡ raised d n (part d r)
unfolding agree raised
part-raised d t zero r l = refl
part-raised d t (suc n) r l =
    part-raised d t n (up generator r) (up_lt generator r (lit< tt))
    ∙ ap (raised d n)
    (additive_same (λ r. part d (up generator r)) (λ r. up d (part d r))
    (λ a b. ap (part d) (up-xor generator a b) ∙ part-xor d (up generator a) (up generator b))
    (λ a b. ap (up d) (part-xor d a b) ∙ up-xor d (part d a) (part d b)) 18 (λ n m. eqb→eq _ _ (all_at 18 (agree d) t n m)) r l)

-- ---- what the tables of powers and logs are
pub record Powers (d : Divisor) (powers logs : List ℕ) : Type 0 where
  pub power : (n : ℕ) → n < 511 → get_or powers n 0 ≡ raised d n 1
  pub log : (n : ℕ) → n < 511 → get_or logs (raised d n 1) 0 ≡ n
  pub again : raised d 511 1 ≡ 1
  pub shared : (n : ℕ) → part d (raised generator n 1) ≡ raised d n 1
  pub below : (k : ℕ) → k < 510 → step powers logs (suc k) < 511
  pub stepped : (k : ℕ) → k < 510 → get_or powers (step powers logs (suc k)) 0 ≡ 1 ⊕ get_or powers (suc k) 0

powers_at : (d : Divisor) (k r n : ℕ) → n < k → get_or (powers_from d k r) n 0 ≡ raised d n r
unfolding powers_from raised
powers_at d zero r n l = absurd (not-suc-le-zero l)
powers_at d (suc k) r zero l = refl
powers_at d (suc k) r (suc n) l = powers_at d k (up d r) n (le_of_suc-le-suc l)

logged : List ℕ → List ℕ → ℕ → Bool
logged powers logs n = eqb (get_or logs (get_or powers n 0) 0) n

steps : List ℕ → List ℕ → ℕ → Bool
steps powers logs k =
    let z = step powers logs (suc k) in
    both (ltb z 511) (eqb (get_or powers z 0) (1 ⊕ get_or powers (suc k) 0))

tested : (d : Divisor) (powers logs : List ℕ) → powers ≡ powers_from d 511 1 → T (all_b 511 (logged powers logs)) → raised d 511 1 ≡ 1
    → T (all_b 18 (agree d)) → part d 1 ≡ 1 → T (all_b 510 (steps powers logs)) → Powers d powers logs
unfolding logged steps
tested d powers logs e t o a p s =
    record {
      power = power;
      log = λ n l. ap (λ (x : ℕ). get_or logs x 0) (sym (power n l)) ∙ eqb→eq _ n (all_at 511 (logged powers logs) t n l);
      again = o;
      shared = λ n. part-raised d a n 1 (lit< tt) ∙ ap (raised d n) p;
      below = λ k l. ltb→lt (step powers logs (suc k)) 511 (both_left (low k) (sum k) (all_at 510 (steps powers logs) s k l));
      stepped = λ k l. eqb→eq _ _ (both_right (low k) (sum k) (all_at 510 (steps powers logs) s k l));
    }
  where
    power : (n : ℕ) → n < 511 → get_or powers n 0 ≡ raised d n 1
    power n l = ap (λ (p : List ℕ). get_or p n 0) e ∙ powers_at d 511 1 n l

    low : ℕ → Bool
    low k = ltb (step powers logs (suc k)) 511

    sum : ℕ → Bool
    sum k = eqb (get_or powers (step powers logs (suc k)) 0) (1 ⊕ get_or powers (suc k) 0)

pub by_first : Powers first first_powers first_logs
unfolding first_powers first_logs powers_from places_of up raised fed part agree logged step steps
by_first = tested first first_powers first_logs refl tt refl tt refl tt

pub by_second : Powers second second_powers second_logs
unfolding second_powers second_logs powers_from places_of up raised fed part agree logged step steps
by_second = tested second second_powers second_logs refl tt refl tt refl tt

-- ---- what the logarithm of a part tells
module _ {d : Divisor} {powers logs : List ℕ} (p : Powers d powers logs) where
  round : (k : ℕ) → k < 1022 → raised d k 1 ≡ raised d (k % 511) 1
  round k l = go (lt-or-ge k 511)
    where
      go : (k < 511) ⊎ (511 ≤ k) → raised d k 1 ≡ raised d (k % 511) 1
      go (inl m) = ap (λ (n : ℕ). raised d n 1) (sym (mod-eq_of_lt m))
      go (inr m) =
          let e : k ≡ 511 + k % 511 = omega arith in
          ap (λ (n : ℕ). raised d n 1) e ∙ raised-add d 511 (k % 511) 1 ∙ ap (raised d (k % 511)) p.again

  -- one wrong bit
  pub log_one : (n : ℕ) → n < 511 → get_or logs (part d (raised generator n 1)) 0 ≡ n
  log_one n l = ap (λ (s : ℕ). get_or logs s 0) (p.shared n) ∙ p.log n l

  -- two wrong bits: x ^ n times 1 + x ^ g
  pub log_two : (k n : ℕ) → suc k + n < 511
      → get_or logs (part d (raised generator (suc k + n) 1 ⊕ raised generator n 1)) 0 ≡ (step powers logs (suc k) + n) % 511
  log_two k n l =
      let g = suc k in
      let z = step powers logs (suc k) in
      let m = p.below k (omega arith) in
      ap (λ (s : ℕ). get_or logs s 0)
      (part-xor d (raised generator (g + n) 1) (raised generator n 1)
      ∙ ap₂ ◌⊕◌ (p.shared (g + n) ∙ raised-add d g n 1) (p.shared n)
      ∙ sym (raised-xor d n (raised d g 1) 1)
      ∙ ap (raised d n) (xor_comm (raised d g 1) 1 ∙ ap (λ (s : ℕ). 1 ⊕ s) (sym (p.power g (omega arith))) ∙ sym (p.stepped k (omega arith)) ∙ p.power z m)
      ∙ sym (raised-add d z n 1) ∙ round (z + n) (omega arith))
      ∙ p.log ((z + n) % 511) (mod-lt (z + n) (lit< tt))
