-- A word changed in the places in which it differs from another is that other. Assumes nothing.
use mathlib.Core.Path.{◌≡◌, refl, ap, ◌∙◌}
use mathlib.Core.Bool.{Bool, true, false}
use mathlib.Core.List.{List, [], ◌∷◌}
use Prim.Native.Nat.{ℕ, suc, ◌+◌, ◌≤◌, ◌<◌, zero-le, suc-le-suc}
use native.Mathlib.Nat.{le_refl, le-suc}
use native.Mathlib.Omega.{arith}
use borrow.Author.Tests.{eq-eqb, ne_eqb}
use lib.Dec.{eqb}
use lib.ListN.{length}
use Rattle.laws.specs.Choice.{pick}
use Rattle.bits.specs.Bits.{Bit, bit0, bit1, same}
use Rattle.bch.specs.Word.{turned, errors, distance, changed, changes}

-- ---- each place is below the one before it, and the first below k
abbrev pub Falling : ℕ → List ℕ → Type 0
Falling k [] = Unit {0}
Falling k (n ∷ ns) = (n < k) × Falling n ns

pub falling_up : (j k : ℕ) (ns : List ℕ) → j ≤ k → Falling j ns → Falling k ns
falling_up j k [] l h = tt
falling_up j k (n ∷ ns) l h = (omega arith, h.1)

pub errors_fall : (f c : List Bit) → Falling (length f) (errors f c)
unfolding errors
errors_fall [] c = tt
errors_fall (x ∷ f) [] = tt
errors_fall (x ∷ f) (y ∷ c) = go (same x y) (errors_fall f c)
  where
    go : (b : Bool) → Falling (length f) (errors f c) → Falling (suc (length f)) (pick b (errors f c) (length f ∷ errors f c))
    go true h = falling_up (length f) (suc (length f)) (errors f c) (le-suc (length f)) h
    go false h = (le_refl (suc (length f)), h)

-- ---- changed in the places in which it differs from c, a word is c
pub length-changed : (n : ℕ) (f : List Bit) → length (changed n f) ≡ length f
unfolding changed
length-changed n [] = refl
length-changed n (x ∷ f) = go (eqb n (length f)) (length-changed n f)
  where
    go : (b : Bool) → length (changed n f) ≡ length f → length (pick b (turned x ∷ f) (x ∷ changed n f)) ≡ suc (length f)
    go true e = refl
    go false e = ap suc e

pub length-changes : (ns : List ℕ) (f : List Bit) → length (changes ns f) ≡ length f
unfolding changes
length-changes [] f = refl
length-changes (n ∷ ns) f = length-changes ns (changed n f) ∙ length-changed n f

changed_first : (x : Bit) (f : List Bit) → changed (length f) (x ∷ f) ≡ turned x ∷ f
unfolding changed
changed_first x f = rw (eq-eqb (length f) (length f) refl)

changed_later : (x : Bit) (n : ℕ) (f : List Bit) → n < length f → changed n (x ∷ f) ≡ x ∷ changed n f
unfolding changed
changed_later x n f l = rw (ne_eqb n (length f) (λ e. omega arith))

changes_later : (x : Bit) (ns : List ℕ) (k : ℕ) (f : List Bit) → Falling k ns → k ≤ length f → changes ns (x ∷ f) ≡ x ∷ changes ns f
unfolding changes
changes_later x [] k f h l = refl
changes_later x (n ∷ ns) k f h l =
    ap (changes ns) (changed_later x n f (omega arith)) ∙ changes_later x ns n (changed n f) h.1 (omega (arith, length-changed n f))

pub errors_undone : (f c : List Bit) → length f ≡ length c → changes (errors f c) f ≡ c
unfolding errors changes
errors_undone [] [] e = refl
errors_undone [] (y ∷ c) e = absurd (omega arith)
errors_undone (x ∷ f) [] e = absurd (omega arith)
errors_undone (x ∷ f) (y ∷ c) e = go x y (errors_undone f c (omega arith))
  where
    kept : (y : Bit) → changes (errors f c) f ≡ c → changes (errors f c) (y ∷ f) ≡ y ∷ c
    kept y h = changes_later y (errors f c) (length f) f (errors_fall f c) (le_refl (length f)) ∙ ap (λ (l : List Bit). y ∷ l) h

    go : (x y : Bit) → changes (errors f c) f ≡ c → changes (errors (x ∷ f) (y ∷ c)) (x ∷ f) ≡ y ∷ c
    go bit0 bit0 h = kept bit0 h
    go bit0 bit1 h = ap (changes (errors f c)) (changed_first bit0 f) ∙ kept bit1 h
    go bit1 bit0 h = ap (changes (errors f c)) (changed_first bit1 f) ∙ kept bit0 h
    go bit1 bit1 h = kept bit1 h

-- ---- a change of one place takes a word at most one place further
pub none_differ : (f : List Bit) → distance f f ≡ 0
unfolding errors
none_differ [] = refl
none_differ (bit0 ∷ f) = none_differ f
none_differ (bit1 ∷ f) = none_differ f

one_more : (n : ℕ) (f c : List Bit) → distance f (changed n c) ≤ suc (distance f c)
unfolding errors changed
one_more n [] c = zero-le
one_more n (x ∷ f) [] = zero-le
one_more n (x ∷ f) (y ∷ c) = go (eqb n (length c)) x y (one_more n f c)
  where
    go : (b : Bool) (x y : Bit) → distance f (changed n c) ≤ suc (distance f c)
        → distance (x ∷ f) (pick b (turned y ∷ c) (y ∷ changed n c)) ≤ suc (distance (x ∷ f) (y ∷ c))
    go true bit0 bit0 h = le_refl _
    go true bit0 bit1 h = omega arith
    go true bit1 bit0 h = omega arith
    go true bit1 bit1 h = le_refl _
    go false bit0 bit0 h = h
    go false bit0 bit1 h = suc-le-suc h
    go false bit1 bit0 h = suc-le-suc h
    go false bit1 bit1 h = h

many_more : (ns : List ℕ) (f c : List Bit) → distance f (changes ns c) ≤ length ns + distance f c
unfolding changes
many_more [] f c = omega arith
many_more (n ∷ ns) f c = omega (arith, many_more ns f (changed n c), one_more n f c)

pub changes_near : (ns : List ℕ) (f : List Bit) → distance f (changes ns f) ≤ length ns
changes_near ns f = omega (arith, many_more ns f f, none_differ f)
