-- Laws of choices and of tests joined. Assumes nothing.
use mathlib.Core.Path.{◌≡◌, refl, sym, ap, subst, ◌∙◌}
use mathlib.Core.Bool.{Bool, true, false}
use lib.Dec.{T}
use Rattle.laws.specs.Choice.{pick, opposite, both, alike, either}

pub both_left : (a b : Bool) → T (both a b) → T a
both_left true b t = tt
both_left false b t = t

pub both_right : (a b : Bool) → T (both a b) → T b
both_right true b t = t
both_right false b t = absurd t

pub both_make : (a b : Bool) → T a → T b → T (both a b)
both_make true b t u = u
both_make false b t u = t

pub both_three : (a b c : Bool) → T (both a (both b c)) → T a × T b × T c
both_three a b c t = (both_left a (both b c) t, both_left b c (both_right a (both b c) t), both_right b c (both_right a (both b c) t))

pub both_assoc : (a b c : Bool) → both a (both b c) ≡ both (both a b) c
both_assoc true b c = refl
both_assoc false b c = refl

pub both_true : (a : Bool) → both a true ≡ a
both_true true = refl
both_true false = refl

-- a test that holds is true, and what is true holds
pub T_true : (b : Bool) → T b → b ≡ true
T_true true t = refl
T_true false t = absurd t

pub true-T : (b : Bool) → b ≡ true → T b
true-T b e = subst (λ (b : Bool). T b) (sym e) tt

pub true-false : true ≡ false → ⊥
true-false e = subst T e tt

pub either_right : (a b : Bool) → a ≡ false → T (either a b) → T b
either_right true b e t = absurd (true-false e)
either_right false b e t = t

-- a test that holds, by the case of what it depends on
pub pick_yes : {b : Bool} (x y : Bool) → b ≡ true → T (pick b x y) → T x
pick_yes x y e t = subst (λ (b : Bool). T (pick b x y)) e t

pub pick_no : {b : Bool} (x y : Bool) → b ≡ false → T (pick b x y) → T y
pick_no x y e t = subst (λ (b : Bool). T (pick b x y)) e t

-- the same, where a test is known by what it equals
pub two_of : (a b : Bool) → both a b ≡ true → (a ≡ true) × (b ≡ true)
two_of true b e = (refl, e)
two_of false b e = absurd (true-false (sym e))

pub first_no : (a b : Bool) → a ≡ false → both a b ≡ false
first_no a b e = rw e

pub second_no : (a b : Bool) → b ≡ false → both a b ≡ false
second_no true b e = e
second_no false b e = refl

-- tests one after another: one that fails ends them, and past one that passes the others say it
pub stop : {a : Bool} (b : Bool) → a ≡ false → false ≡ both a b
stop {a} b e = sym (first_no a b e)

pub pass : {a b r : Bool} → a ≡ true → r ≡ b → r ≡ both a b
pass {b = b} e f = f ∙ sym (ap (λ (a : Bool). both a b) e)

-- two tests of each of two, by the one or by the other
pub crossed : (a b c d : Bool) → both (both a c) (both b d) ≡ both (both a b) (both c d)
crossed true true c d = refl
crossed true false true d = refl
crossed true false false d = refl
crossed false b c d = refl

pub if_so : (a b : Bool) → either (opposite a) b ≡ true → a ≡ true → b ≡ true
if_so true b e f = e
if_so false b e f = absurd (true-false (sym f))

pub opposite_no : (b : Bool) → T (opposite b) → b ≡ false
opposite_no true t = absurd t
opposite_no false t = refl

pub alike_same : (a b : Bool) → T (alike a b) → a ≡ b
alike_same true true t = refl
alike_same true false t = absurd t
alike_same false true t = absurd t
alike_same false false t = refl
