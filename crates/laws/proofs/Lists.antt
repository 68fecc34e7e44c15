-- Parts of lists, and lists that agree. Assumes nothing.
use mathlib.Core.Path.{◌≡◌, refl, sym, ap, ap₂, ◌∙◌}
use mathlib.Core.Bool.{true, false}
use mathlib.Core.List.{List, [], ◌∷◌}
use Prim.Native.Nat.{ℕ, zero, suc, ◌+◌, ◌≤◌, ◌<◌}
use native.Mathlib.Nat.{zero-add, suc-add}
use native.Mathlib.Numerals.{add-one}
use lib.Dec.{T, eqb, eqb→eq}
use lib.ListN.{length, get_or, take, drop, drop_of_length-le}
use lib.Seq.{drop-cons, take-nil}
use Rattle.laws.specs.Choice.{both}
use Rattle.laws.proofs.Choice.{both_left, both_right, second_no}
use Rattle.laws.specs.Lists.{alike}

-- the element at a place, then the rest
pub drop_on : (l : List ℕ) (i : ℕ) → i < length l → drop i l ≡ get_or l i 0 ∷ drop (i + 1) l
drop_on l i h = drop-cons l i 0 h ∙ ap (λ (n : ℕ). get_or l i 0 ∷ drop n l) (sym (add-one i))

pub drop-take : (n m : ℕ) (l : List ℕ) → drop n (take (n + m) l) ≡ take m (drop n l)
drop-take zero m l = rw (zero-add m)
drop-take (suc n) m [] = rw (suc-add n m) (sym (take-nil m))
drop-take (suc n) m (x ∷ xs) = rw (suc-add n m) (drop-take n m xs)

pub alike_equal : (xs ys : List ℕ) → T (alike xs ys) → xs ≡ ys
unfolding alike
alike_equal [] [] t = refl
alike_equal [] (y ∷ ys) t = absurd t
alike_equal (x ∷ xs) [] t = absurd t
alike_equal (x ∷ xs) (y ∷ ys) t =
    ap₂ (λ (z : ℕ) (zs : List ℕ). z ∷ zs) (eqb→eq x y (both_left (eqb x y) (alike xs ys) t)) (alike_equal xs ys (both_right (eqb x y) (alike xs ys) t))

pub alike_lengths : (xs ys : List ℕ) → (length xs ≡ length ys → ⊥) → alike xs ys ≡ false
unfolding alike
alike_lengths [] [] n = absurd (n refl)
alike_lengths [] (y ∷ ys) n = refl
alike_lengths (x ∷ xs) [] n = refl
alike_lengths (x ∷ xs) (y ∷ ys) n = second_no (eqb x y) (alike xs ys) (alike_lengths xs ys (λ e. n (ap suc e)))

-- what is left of them at a place, and past their ends
pub alike_on : (xs ys : List ℕ) (i : ℕ) → i < length xs → i < length ys
    → alike (drop i xs) (drop i ys) ≡ both (eqb (get_or xs i 0) (get_or ys i 0)) (alike (drop (i + 1) xs) (drop (i + 1) ys))
unfolding alike
alike_on xs ys i h g = λ j. alike (drop_on xs i h j) (drop_on ys i g j)

pub alike_past : (xs ys : List ℕ) (i : ℕ) → length xs ≤ i → length ys ≤ i → alike (drop i xs) (drop i ys) ≡ true
unfolding alike
alike_past xs ys i h g = λ j. alike (drop_of_length-le xs h j) (drop_of_length-le ys g j)
