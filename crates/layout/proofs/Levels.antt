-- A test of each number of a list; quantisers, levels and codes. Assumes nothing.
use Prim.Native.Nat.{ℕ, zero, suc, ◌+◌, ◌*◌, ◌≤◌, ◌<◌}
use mathlib.Core.Path.{◌≡◌, refl, ap, ◌∙◌}
use mathlib.Core.Bool.{Bool, true, false}
use mathlib.Core.List.{List, [], ◌∷◌, ◌++◌}
use native.Mathlib.Omega.{arith}
use native.Mathlib.Nat.{le_of_suc-le-suc, not-suc-le-zero}
use lib.Dec.{T, leb, eqb, leb→le, eqb→eq, eqb-suc-zero}
use lib.ListN.{length, get_or, take, drop}
use lib.Seq.{take-take}
use Rattle.laws.specs.Choice.{both, either, opposite}
use Rattle.laws.proofs.Choice.{both_left, both_right, both_make, both_assoc, T_true}
use Rattle.laws.proofs.Lists.{drop-take}
use Rattle.laws.proofs.Zeros.{zeros}
use Rattle.layout.specs.Flat.{gathers}
use Rattle.layout.specs.Numbers.{all, is_zero, is_quantiser, forbidden, is_code, is_level}

pub all_index : (good : ℕ → Bool) (xs : List ℕ) → T (all good xs) → (k : ℕ) → k < length xs → T (good (get_or xs k 0))
all_index good [] t k l = absurd (not-suc-le-zero l)
all_index good (x ∷ xs) t zero l = both_left (good x) (all good xs) t
all_index good (x ∷ xs) t (suc k) l = all_index good xs (both_right (good x) (all good xs) t) k (le_of_suc-le-suc l)

pub all_take : (good : ℕ → Bool) (n : ℕ) (xs : List ℕ) → T (all good xs) → T (all good (take n xs))
all_take good zero xs t = tt
all_take good (suc n) [] t = tt
all_take good (suc n) (x ∷ xs) t =
    both_make (good x) _ (both_left (good x) (all good xs) t) (all_take good n xs (both_right (good x) (all good xs) t))

pub all_drop : (good : ℕ → Bool) (n : ℕ) (xs : List ℕ) → T (all good xs) → T (all good (drop n xs))
all_drop good zero xs t = t
all_drop good (suc n) [] t = tt
all_drop good (suc n) (x ∷ xs) t = all_drop good n xs (both_right (good x) (all good xs) t)

pub all_join : (good : ℕ → Bool) (n : ℕ) (xs : List ℕ) → T (all good (take n xs)) → T (all good (drop n xs)) → T (all good xs)
all_join good zero xs t u = u
all_join good (suc n) [] t u = tt
all_join good (suc n) (x ∷ xs) t u =
    both_make (good x) (all good xs) (both_left (good x) (all good (take n xs)) t)
    (all_join good n xs (both_right (good x) (all good (take n xs)) t) u)

pub all_none : (good : ℕ → Bool) (xs : List ℕ) → length xs ≤ 0 → T (all good xs)
all_none good [] l = tt
all_none good (x ∷ xs) l = absurd (omega arith)

pub all_append : (good : ℕ → Bool) (xs ys : List ℕ) → all good (xs ++ ys) ≡ both (all good xs) (all good ys)
all_append good [] ys = refl
all_append good (x ∷ xs) ys = ap (both (good x)) (all_append good xs ys) ∙ both_assoc (good x) (all good xs) (all good ys)

pub all-zeros : (good : ℕ → Bool) (n : ℕ) → T (good 0) → all good (zeros n) ≡ true
unfolding zeros
all-zeros good zero t = refl
all-zeros good (suc n) t = rw (T_true (good 0) t, all-zeros good n t)

-- zeros add nothing to a test that 0 passes
pub all_after : (good : ℕ → Bool) (n : ℕ) (ys : List ℕ) → T (good 0) → all good (zeros n ++ ys) ≡ all good ys
all_after good n ys t = all_append good (zeros n) ys ∙ ap (λ (b : Bool). both b (all good ys)) (all-zeros good n t)

-- n zeros are the only list of n numbers that are all 0
pub zero-all : (n : ℕ) (xs : List ℕ) → length xs ≡ n → T (all is_zero xs) → xs ≡ zeros n
unfolding zeros
zero-all zero [] e t = refl
zero-all zero (x ∷ xs) e t = absurd (omega arith)
zero-all (suc n) [] e t = absurd (omega arith)
zero-all (suc n) (x ∷ xs) e t =
    let z = eqb→eq x 0 (both_left (is_zero x) (all is_zero xs) t) in
    let others = zero-all n xs (omega arith) (both_right (is_zero x) (all is_zero xs) t) in
    (λ i. z i ∷ others i)

-- ---- quantisers
pub is_quantiser_lem : (q : ℕ) → T (is_quantiser q) → (1 ≤ q) × (q ≤ 31)
is_quantiser_lem q t = (leb→le 1 q (both_left (leb 1 q) (leb q 31) t), leb→le q 31 (both_right (leb 1 q) (leb q 31) t))

-- ---- levels and codes
pub zero_levels : (ls : List ℕ) → T (all is_zero ls) → T (all is_level ls)
zero_levels [] t = tt
zero_levels (zero ∷ ls) t = zero_levels ls t
zero_levels (suc c ∷ ls) t = let e = eqb→eq (suc c) 0 (both_left (is_zero (suc c)) (all is_zero ls) t) in absurd (omega arith)

-- a code is a level, and isn't 0; a level that isn't 0 is a code
neither : (a b : Bool) → T (opposite (either a (either b false))) → (a ≡ false) × T (opposite b)
neither true b t = absurd t
neither false true t = absurd t
neither false false t = (refl, tt)

pub code_some : (code : ℕ) → T (is_code code) → is_zero code ≡ false
code_some code t = (neither (eqb code 0) (eqb code 128) (both_right (leb code 255) (opposite (forbidden code)) t)).0

pub code_level : (code : ℕ) → T (is_code code) → T (is_level code)
code_level code t =
    both_make (leb code 255) (opposite (eqb code 128)) (both_left (leb code 255) (opposite (forbidden code)) t)
    (neither (eqb code 0) (eqb code 128) (both_right (leb code 255) (opposite (forbidden code)) t)).1

pub level_code : (c : ℕ) → T (is_level (suc c)) → T (is_code (suc c))
level_code c t =
    both_make (leb (suc c) 255) _ (both_left (leb (suc c) 255) (opposite (eqb (suc c) 128)) t)
    (rw (eqb-suc-zero c) (go (eqb (suc c) 128) (both_right (leb (suc c) 255) (opposite (eqb (suc c) 128)) t)))
  where
    go : (b : Bool) → T (opposite b) → T (opposite (either b false))
    go true t = t
    go false t = tt

-- the blocks are those of these levels: the levels of later macroblocks don't matter
pub gathers-take : (k : ℕ) (ls : List ℕ) → gathers k (take (k * 64) ls) ≡ gathers k ls
unfolding gathers
gathers-take zero ls = refl
gathers-take (suc k) ls =
    let e : suc k * 64 ≡ 64 + k * 64 = omega arith in
    rw (e, take-take 64 (64 + k * 64) ls (omega arith), drop-take 64 (k * 64) ls, gathers-take k (drop 64 ls))
