-- A number among those listed, test by test. Assumes nothing.
use Prim.Native.Nat.{ℕ}
use mathlib.Core.Path.{◌≡◌, refl, sym, ap, ◌∙◌}
use mathlib.Core.Bool.{Bool, true, false}
use mathlib.Core.List.{List, [], ◌∷◌}
use borrow.Author.Tests.{eq-eqb, ne_eqb}
use lib.Dec.{eqb}
use Rattle.laws.specs.Choice.{either, one_of}

-- it is the first
pub one_here : (a : ℕ) (xs : List ℕ) (k : ℕ) → k ≡ a → true ≡ one_of (a ∷ xs) k
one_here a xs k e = sym (ap (λ (t : Bool). either t (one_of xs k)) (eq-eqb k a e))

-- it isn't: the others say it
pub one_past : (a : ℕ) (xs : List ℕ) (k : ℕ) {r : Bool} → (k ≡ a → ⊥) → r ≡ one_of xs k → r ≡ one_of (a ∷ xs) k
one_past a xs k n e = e ∙ sym (ap (λ (t : Bool). either t (one_of xs k)) (ne_eqb k a n))

-- there is one alone
pub one_last : (a k : ℕ) → eqb k a ≡ one_of (a ∷ []) k
one_last a k = last (eqb k a)
  where
    last : (t : Bool) → t ≡ either t false
    last true = refl
    last false = refl
