-- The places of wrong bits by lookups, and the parts of the table. Assumes nothing.
use mathlib.Core.Path.{◌≡◌, refl, sym, ap, ap₂, subst, ◌∙◌}
use mathlib.Core.List.{List, [], ◌∷◌, ◌++◌}
use Prim.Native.Nat.{ℕ, suc, ◌+◌, ◌%◌, ◌≤◌, ◌<◌, max, min}
use native.Mathlib.Omega.{arith}
use borrow.Author.Tests.{eq-eqb, ne_eqb}
use lib.Dec.{T}
use lib.ListN.{length, get_or, set, replicate, length-set, get_or-append}
use lib.Seq.{get_or-append-add}
use Rattle.laws.proofs.Table.{low_b, low_at}
use Rattle.laws.specs.Row.{row}
use Rattle.bch.specs.Division.{up}
use Rattle.bch.specs.Code.{first, second}
use Rattle.bch.specs.Locate.{part, powers_from, places_of, first_powers, second_powers, first_logs, second_logs, step, lag, lags, gaps, starts, pair_at, seek, locate}
use Rattle.bch.specs.Frame.{log_tables}

-- ---- the places by the logs
pub seek_one : (u v : ℕ) → lag u v ≡ 0 → u ∷ [] ≡ seek u v
unfolding seek
seek_one u v e = rw (eq-eqb (lag u v) 0 e)

seek_two : (u v s g a b : ℕ) → (lag u v ≡ 0 → ⊥) → s ≡ get_or starts (lag u v) 0 → g ≡ get_or gaps (lag u v) 0
    → a ≡ max ((u + s) % 511) (((u + s) % 511 + g) % 511) → b ≡ min ((u + s) % 511) (((u + s) % 511 + g) % 511) → a ∷ b ∷ [] ≡ seek u v
unfolding seek
seek_two u v s g a b z e f p q =
    rw (ne_eqb (lag u v) 0 z) ((λ i. p i ∷ q i ∷ []) ∙ (λ i. pair_at u (e i) (f i)))

pub locate-none : (r : ℕ) → r ≡ 0 → [] ≡ locate r
unfolding locate
locate-none r e = rw (eq-eqb r 0 e)

pub locate-some : (r u v : ℕ) → (r ≡ 0 → ⊥) → u ≡ get_or first_logs (part first r) 0 → v ≡ get_or second_logs (part second r) 0 → seek u v ≡ locate r
unfolding locate
locate-some r u v n e f = rw (ne_eqb r 0 n) (ap₂ seek e f)

-- ---- the parts of the table
length_places : (xs : List ℕ) (n : ℕ) (t : List ℕ) → length (places_of xs n t) ≡ length t
unfolding places_of
length_places [] n t = refl
length_places (x ∷ xs) n t = length_places xs (suc n) (set t x n) ∙ length-set t x n

length-firsts : length first_logs ≡ 512
unfolding first_logs
length-firsts = length_places first_powers 0 (replicate 512 511)

length-seconds : length second_logs ≡ 512
unfolding second_logs
length-seconds = length_places second_powers 0 (replicate 512 511)

length-gaps : length gaps ≡ 512
unfolding gaps
length-gaps = length_places lags 1 (replicate 512 0)

past : (a b : List ℕ) (i : ℕ) → length a ≡ 512 → get_or (a ++ b) (512 + i) 0 ≡ get_or b i 0
past a b i e = ap (λ (n : ℕ). get_or (a ++ b) (n + i) 0) (sym e) ∙ get_or-append-add a b i 0

tables_are : log_tables ≡ first_logs ++ (second_logs ++ (gaps ++ starts))
unfolding log_tables
tables_are = refl

all_low : T (low_b 511 log_tables)
unfolding log_tables first_powers second_powers first_logs second_logs step lags gaps starts row powers_from places_of up
all_low = tt

pub low : {t : List ℕ} {r : ℕ} → t ≡ log_tables → (i : ℕ) → r ≡ get_or t i 0 → r ≤ 511
low {t} h i e = subst (λ (n : ℕ). n ≤ 511) (sym (e ∙ ap (λ (t : List ℕ). get_or t i 0) h)) (low_at 511 log_tables all_low i)

module _ {t : List ℕ} (h : t ≡ log_tables) (i : ℕ) where
  pub firsts : i < 512 → get_or t i 0 ≡ get_or first_logs i 0
  firsts l = ap (λ (l : List ℕ). get_or l i 0) (h ∙ tables_are) ∙ get_or-append first_logs _ 0 i (omega (arith, length-firsts))

  later : get_or t (512 + i) 0 ≡ get_or (second_logs ++ (gaps ++ starts)) i 0
  later = ap (λ (l : List ℕ). get_or l (512 + i) 0) (h ∙ tables_are) ∙ past first_logs _ i length-firsts

  pub seconds : i < 512 → get_or t (512 + i) 0 ≡ get_or second_logs i 0
  seconds l = later ∙ get_or-append second_logs _ 0 i (omega (arith, length-seconds))

module _ {t : List ℕ} (h : t ≡ log_tables) (i : ℕ) where
  in_gaps : i < 512 → get_or t (1024 + i) 0 ≡ get_or gaps i 0
  in_gaps l =
      let e : 1024 + i ≡ 512 + (512 + i) = omega arith in
      ap (λ (n : ℕ). get_or t n 0) e ∙ later h (512 + i) ∙ past second_logs _ i length-seconds ∙ get_or-append gaps _ 0 i (omega (arith, length-gaps))

  in_starts : get_or t (1536 + i) 0 ≡ get_or starts i 0
  in_starts =
      let e : 1536 + i ≡ 512 + (512 + (512 + i)) = omega arith in
      ap (λ (n : ℕ). get_or t n 0) e ∙ later h (512 + (512 + i)) ∙ past second_logs _ (512 + i) length-seconds ∙ past gaps _ i length-gaps

-- two places, by the lookups
pub sought_two : {t : List ℕ} (h : t ≡ log_tables) (u v s g a b : ℕ) → (lag u v ≡ 0 → ⊥) → s ≡ get_or t (1536 + lag u v) 0 → g ≡ get_or t (1024 + lag u v) 0
    → a ≡ max ((u + s) % 511) (((u + s) % 511 + g) % 511) → b ≡ min ((u + s) % 511) (((u + s) % 511 + g) % 511) → a ∷ b ∷ [] ≡ seek u v
sought_two h u v s g a b z e f p q =
    let below : lag u v < 512 = omega arith in
    seek_two u v s g a b z (e ∙ in_starts h (lag u v)) (f ∙ in_gaps h (lag u v) below) p q
