-- Up to two wrong bits are found from what they leave. Assumes nothing.
use mathlib.Core.Path.{◌≡◌, refl, sym, ap, ap₂, ◌∙◌}
use mathlib.Core.Bool.{Bool, true, false}
use mathlib.Core.List.{List, [], ◌∷◌}
use Prim.Native.Nat.{ℕ, suc, ◌+◌, ◌-◌, ◌%◌, ◌≤◌, ◌<◌, max, min}
use native.Mathlib.Nat.{mod-lt, le_of_lt}
use native.Mathlib.Omega.{arith}
use borrow.Author.Tests.{ne_eqb}
use lib.Dec.{T, eqb, lit<}
use lib.Bits.{xor_zero_r}
use lib.ListN.{length, get_or}
use Rattle.laws.specs.Choice.{pick}
use Rattle.laws.specs.Table.{all_b}
use Rattle.laws.proofs.Table.{all_at}
use Rattle.laws.specs.Lists.{alike}
use Rattle.laws.proofs.Lists.{alike_equal}
use Rattle.laws.specs.Row.{row}
use Rattle.laws.specs.Xor.{◌⊕◌}
use Rattle.bch.specs.Division.{up, fed, raised}
use Rattle.bch.proofs.Word.{Falling}
use Rattle.bch.specs.Code.{first, second, generator}
use Rattle.bch.proofs.Syndrome.{sum_of}
use Rattle.bch.proofs.Logarithms.{by_first, by_second, log_one, log_two}
use Rattle.bch.specs.Locate.{part, powers_from, places_of, first_powers, second_powers, first_logs, second_logs, step, first_step, second_step, lag, lags, gaps, starts, pair_at, seek, locate}

-- ---- two wrong bits of which the last bit of the word is one: a test of every gap
found : ℕ → Bool
found k = alike (seek (first_step (suc k)) (second_step (suc k))) (suc k ∷ 0 ∷ [])

all_found : T (all_b 510 found)
unfolding found alike seek starts gaps lags places_of row first_powers second_powers first_logs second_logs step powers_from up
all_found = tt

last_found : (k : ℕ) → k < 510 → seek (first_step (suc k)) (second_step (suc k)) ≡ suc k ∷ 0 ∷ []
unfolding found
last_found k l = alike_equal (seek (first_step (suc k)) (second_step (suc k))) (suc k ∷ 0 ∷ []) (all_at 510 found all_found k l)

-- ---- and n places before that
around : (u n s : ℕ) → (u + s) % 511 + n < 511 → ((u + n) % 511 + s) % 511 ≡ (u + s) % 511 + n
around u n s l = omega arith

along : (m n s : ℕ) → (m + s) % 511 + n < 511 → (m + n + s) % 511 ≡ (m + s) % 511 + n
along m n s l = omega arith

top : (a b g n : ℕ) → max a b ≡ g → max (a + n) (b + n) ≡ g + n
top a b g n e = omega arith

bottom : (a b n : ℕ) → min a b ≡ 0 → min (a + n) (b + n) ≡ n
bottom a b n e = omega arith

moved : (b : Bool) (u g n start gap : ℕ) → g + n < 511 → pick b (u ∷ []) (pair_at u start gap) ≡ g ∷ 0 ∷ []
    → pick b ((u + n) % 511 ∷ []) (pair_at ((u + n) % 511) start gap) ≡ (g + n) ∷ n ∷ []
moved true u g n start gap l e = absurd (omega (arith, ap length e))
moved false u g n start gap l e = go ((u + start) % 511) (((u + start) % 511 + gap) % 511) refl refl (ap (λ (l : List ℕ). get_or l 0 0) e) (ap (λ (l : List ℕ). get_or l 1 0) e)
  where
    go : (a b : ℕ) → (u + start) % 511 ≡ a → (a + gap) % 511 ≡ b → max a b ≡ g → min a b ≡ 0 → pair_at ((u + n) % 511) start gap ≡ (g + n) ∷ n ∷ []
    go a b p q x y =
        let one : ((u + n) % 511 + start) % 511 ≡ a + n = around u n start (omega arith) ∙ ap (λ (k : ℕ). k + n) p in
        let other : (((u + n) % 511 + start) % 511 + gap) % 511 ≡ b + n =
        ap (λ (k : ℕ). (k + gap) % 511) one ∙ along a n gap (omega arith) ∙ ap (λ (k : ℕ). k + n) q in
        (λ i. max (one i) (other i) ∷ min (one i) (other i) ∷ []) ∙ ap₂ (λ (h k : ℕ). h ∷ k ∷ []) (top a b g n x) (bottom a b n y)

seek-moved : (u v g n : ℕ) → u ≤ 511 → g + n < 511 → seek u v ≡ g ∷ 0 ∷ [] → seek ((u + n) % 511) ((v + n) % 511) ≡ (g + n) ∷ n ∷ []
unfolding seek
seek-moved u v g n a l e =
    let same : lag ((u + n) % 511) ((v + n) % 511) ≡ lag u v = omega arith in
    rw same (moved (eqb (lag u v) 0) u g n (get_or starts (lag u v) 0) (get_or gaps (lag u v) 0) l e)

-- ---- what one or two wrong bits leave tells where they are
nothing_left : get_or first_logs (part first 0) 0 ≡ 511
unfolding first_logs first_powers places_of powers_from up part fed
nothing_left = refl

by_logs : (r u v : ℕ) → get_or first_logs (part first r) 0 ≡ u → get_or second_logs (part second r) 0 ≡ v → u < 511 → locate r ≡ seek u v
unfolding locate
by_logs r u v e f l = rw (ne_eqb r 0 (λ z. omega (arith, nothing_left, ap (λ (s : ℕ). get_or first_logs (part first s) 0) z)), e, f)

one_found : (n : ℕ) → n < 511 → locate (raised generator n 1) ≡ n ∷ []
unfolding seek
one_found n l =
    let none : lag n n ≡ 0 = omega arith in
    by_logs (raised generator n 1) n n (log_one by_first n l) (log_one by_second n l) l ∙ rw none

two_found : (k n : ℕ) → suc k + n < 511 → locate (raised generator (suc k + n) 1 ⊕ raised generator n 1) ≡ (suc k + n) ∷ n ∷ []
two_found k n l =
    by_logs _ ((first_step (suc k) + n) % 511) ((second_step (suc k) + n) % 511) (log_two by_first k n l) (log_two by_second k n l) (mod-lt _ (lit< tt))
    ∙ seek-moved (first_step (suc k)) (second_step (suc k)) (suc k) n (le_of_lt (by_first.below k (omega arith))) l (last_found k (omega arith))

pub located : (ns : List ℕ) → Falling 511 ns → length ns ≤ 2 → locate (sum_of generator ns) ≡ ns
unfolding sum_of locate
located [] h l = refl
located (n ∷ []) h l = ap locate (xor_zero_r (raised generator n 1)) ∙ one_found n h.0
located (m ∷ n ∷ []) h l =
    let e : m ≡ suc (m - suc n) + n = omega arith in
    ap (λ (s : ℕ). locate (raised generator m 1 ⊕ s)) (xor_zero_r (raised generator n 1))
    ∙ ap (λ (k : ℕ). locate (raised generator k 1 ⊕ raised generator n 1)) e
    ∙ two_found (m - suc n) n (omega arith) ∙ ap (λ (k : ℕ). k ∷ n ∷ []) (sym e)
located (m ∷ n ∷ k ∷ ns) h l = absurd (omega arith)
