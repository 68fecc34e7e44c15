-- Of the words within two bits, the first that the generator divides is the codeword near a word, if there is one. Assumes nothing.
use mathlib.Core.Path.{◌≡◌, refl, sym, ap, subst, ◌∙◌}
use mathlib.Core.Bool.{Bool, true, false}
use mathlib.Core.Logic.{◌⊎◌, inl, inr}
use mathlib.Core.List.Memᴰ
use mathlib.Core.List.{List, [], ◌∷◌, map, Memᴰ}
use Prim.Native.Nat.{ℕ, zero, suc, ◌≤◌}
use native.Mathlib.Omega.{arith}
use borrow.Author.Tests.{eqb-true, eqb-false}
use lib.Dec.{eqb}
use lib.ListN.{length}
use Rattle.laws.specs.Choice.{pick}
use Rattle.bits.specs.Bits.{Bit, bit0, bit1}
use Rattle.bch.specs.Word.{turned, errors, distance, changes}
use Rattle.bch.specs.Code.{remainder, Outcome, mended, unmended, Mends, words_within, first_divided, corrected}
use Rattle.bch.specs.Theorems.{GivenBack, CorrectedMends}
use Rattle.bch.proofs.Word.{errors_undone, none_differ}
use Rattle.bch.proofs.Unique.{settled}

-- ---- the words within k bits are those of the same length at a distance of at most k
none_apart : (f c : List Bit) → length f ≡ length c → distance f c ≤ 0 → c ≡ f
unfolding changes
none_apart f c e l = sym (errors_undone f c e) ∙ ap (λ (ns : List ℕ). changes ns f) (empty (errors f c) l)
  where
    empty : (ns : List ℕ) → length ns ≤ 0 → ns ≡ []
    empty [] l = refl
    empty (n ∷ ns) l = absurd (omega arith)

within_has : (k : ℕ) (f c : List Bit) → length f ≡ length c → distance f c ≤ k → Memᴰ c (words_within k f)
unfolding words_within errors
within_has zero f c e l = Memᴰ.head (none_apart f c e l)
within_has (suc k) [] [] e l = Memᴰ.head refl
within_has (suc k) [] (y ∷ c) e l = absurd (omega arith)
within_has (suc k) (x ∷ f) [] e l = absurd (omega arith)
within_has (suc k) (x ∷ f) (y ∷ c) e l = go x y l (within_has (suc k) f c equal) (within_has k f c equal)
  where
    equal : length f ≡ length c
    equal = omega arith

    alike : (x : Bit) → Memᴰ c (words_within (suc k) f) → Memᴰ (x ∷ c) (words_within (suc k) (x ∷ f))
    alike x m = Memᴰ.append_left (map (λ w. turned x ∷ w) (words_within k f)) (Memᴰ.map (λ w. x ∷ w) m)

    other : (x : Bit) → Memᴰ c (words_within k f) → Memᴰ (turned x ∷ c) (words_within (suc k) (x ∷ f))
    other x m = Memᴰ.append_right (map (λ w. x ∷ w) (words_within (suc k) f)) (Memᴰ.map (λ w. turned x ∷ w) m)

    go : (x y : Bit) → distance (x ∷ f) (y ∷ c) ≤ suc k → (distance f c ≤ suc k → Memᴰ c (words_within (suc k) f))
        → (distance f c ≤ k → Memᴰ c (words_within k f)) → Memᴰ (y ∷ c) (words_within (suc k) (x ∷ f))
    go bit0 bit0 l equal_bit less_by_one = alike bit0 (equal_bit l)
    go bit0 bit1 l equal_bit less_by_one = other bit0 (less_by_one (omega arith))
    go bit1 bit0 l equal_bit less_by_one = other bit1 (less_by_one (omega arith))
    go bit1 bit1 l equal_bit less_by_one = alike bit1 (equal_bit l)

-- a word of the length of f, within k bits of it
record Within (k : ℕ) (f c : List Bit) : Type 0 where
  size : length c ≡ length f
  close : distance f c ≤ k

within_self : (k : ℕ) (f c : List Bit) → c ≡ f → Within k f c
within_self k f c e = record { size = ap length e; close = subst (λ (c : List Bit). distance f c ≤ k) (sym e) (omega (arith, none_differ f)) }

within_is : (k : ℕ) (f c : List Bit) → Memᴰ c (words_within k f) → Within k f c
unfolding words_within errors
within_is zero f c m = within_self zero f c (Memᴰ.eq_of_singleton m)
within_is (suc k) [] c m = within_self (suc k) [] c (Memᴰ.eq_of_singleton m)
within_is (suc k) (x ∷ f) c m = go (Memᴰ.append_cases (map (λ w. x ∷ w) (words_within (suc k) f)) m) (within_is (suc k) f) (within_is k f)
  where
    alike : (x : Bit) (w : List Bit) → Within (suc k) f w → Within (suc k) (x ∷ f) (x ∷ w)
    alike bit0 w h = record { size = ap suc h.size; close = h.close }
    alike bit1 w h = record { size = ap suc h.size; close = h.close }

    other : (x : Bit) (w : List Bit) → Within k f w → Within (suc k) (x ∷ f) (turned x ∷ w)
    other bit0 w h = record { size = ap suc h.size; close = omega (arith, h.close) }
    other bit1 w h = record { size = ap suc h.size; close = omega (arith, h.close) }

    go : Memᴰ c (map (λ w. x ∷ w) (words_within (suc k) f)) ⊎ Memᴰ c (map (λ w. turned x ∷ w) (words_within k f))
        → ((w : List Bit) → Memᴰ w (words_within (suc k) f) → Within (suc k) f w) → ((w : List Bit) → Memᴰ w (words_within k f) → Within k f w)
        → Within (suc k) (x ∷ f) c
    go (inl m) equal_bit less_by_one =
        let h = Memᴰ.of_map (λ w. x ∷ w) (words_within (suc k) f) m in
        subst (Within (suc k) (x ∷ f)) h.2 (alike x h.0 (equal_bit h.0 h.1))
    go (inr m) equal_bit less_by_one =
        let h = Memᴰ.of_map (λ w. turned x ∷ w) (words_within k f) m in
        subst (Within (suc k) (x ∷ f)) h.2 (other x h.0 (less_by_one h.0 h.1))

-- ---- what the search finds
divided_is : (ws : List (List Bit)) (w : List Bit) → first_divided ws ≡ mended w → Memᴰ w ws × (remainder w ≡ 0)
unfolding first_divided
divided_is [] w e = let z : ◌≡◌ {A = ℕ} 0 1 = cc in absurd (omega arith)
divided_is (v ∷ ws) w e = go (eqb (remainder v) 0) refl e (divided_is ws w)
  where
    go : (b : Bool) → eqb (remainder v) 0 ≡ b → pick b (mended v) (first_divided ws) ≡ mended w
        → (first_divided ws ≡ mended w → Memᴰ w ws × (remainder w ≡ 0)) → Memᴰ w (v ∷ ws) × (remainder w ≡ 0)
    go true t e more =
        let same : w ≡ v = cc in
        (Memᴰ.head same, ap remainder same ∙ eqb-true (remainder v) 0 t)
    go false t e more = let h = more e in (Memᴰ.tail h.0, h.1)

divided_none : (ws : List (List Bit)) → first_divided ws ≡ unmended → (w : List Bit) → Memᴰ w ws → remainder w ≡ 0 → ⊥
unfolding first_divided
divided_none [] e w m d = Memᴰ.not-nil m
divided_none (v ∷ ws) e w m d = go (eqb (remainder v) 0) refl e (Memᴰ.cases_cons m) (divided_none ws)
  where
    go : (b : Bool) → eqb (remainder v) 0 ≡ b → pick b (mended v) (first_divided ws) ≡ unmended → (w ≡ v) ⊎ Memᴰ w ws
        → (first_divided ws ≡ unmended → (w : List Bit) → Memᴰ w ws → remainder w ≡ 0 → ⊥) → ⊥
    go true t e m more = let z : ◌≡◌ {A = ℕ} 0 1 = cc in omega arith
    go false t e (inl s) more = eqb-false (remainder v) 0 t (ap remainder (sym s) ∙ d)
    go false t e (inr m) more = more e w m d

-- ---- mending
pub corrected_mends : CorrectedMends
unfolding corrected
corrected_mends f size = go (corrected f) refl
  where
    go : (o : Outcome) → first_divided (words_within 2 f) ≡ o → Mends f o
    go (mended c) e =
        let found = divided_is (words_within 2 f) c e in
        let near = within_is 2 f c found.0 in
        record { codeword = record { size = near.size ∙ size; divided = found.1 }; close = near.close }
    go unmended e =
        λ c near.
        divided_none (words_within 2 f) e c (within_has 2 f c (size ∙ sym near.codeword.size) near.close) near.codeword.divided

pub corrected_is : (f : List Bit) → length f ≡ 511 → (o : Outcome) → Mends f o → corrected f ≡ o
corrected_is f size o m = settled f size (corrected f) o (corrected_mends f size) m

pub given_back : GivenBack
given_back f size c k l = corrected_is f size (mended c) (record { codeword = k; close = l })
