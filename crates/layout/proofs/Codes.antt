-- Laws of a level in eight bits: its sign and its size, and which codes are forbidden. Assumes nothing.
use mathlib.Core.Path.{◌≡◌, refl}
use mathlib.Core.Bool.{Bool, true, false}
use Prim.Native.Nat.{ℕ, zero, suc, ◌-◌, ◌%◌, ◌^◌, ◌<◌, ◌≤◌}
use native.Mathlib.Omega.{arith}
use borrow.Author.Tests.{eq-eqb, ne_eqb, eqb-false}
use lib.Dec.{T, eqb, ltb, leb, le→leb}
use Rattle.laws.specs.Choice.{pick, either, opposite}
use Rattle.laws.proofs.Choice.{both_make, true-false}
use Rattle.layout.specs.Numbers.{forbidden, is_code, signed_code, code_sign, code_size}

-- ---- "Levels 0 and -128 and DC codes 0 and 128 are forbidden."
pub forbidden_yes : (code : ℕ) → code < 256 → code % 128 ≡ 0 → forbidden code ≡ true
forbidden_yes code h e = go (eqb code 0) refl
  where
    go : (b : Bool) → eqb code 0 ≡ b → either b (either (eqb code 128) false) ≡ true
    go true f = refl
    go false f = let z : code ≡ 128 = omega (arith, eqb-false code 0 f) in rw (eq-eqb code 128 z)

pub forbidden_no : (code : ℕ) → (code % 128 ≡ 0 → ⊥) → forbidden code ≡ false
forbidden_no code n =
    let a : code ≡ 0 → ⊥ = λ e. n (rw e) in
    let b : code ≡ 128 → ⊥ = λ e. n (rw e) in
    rw (ne_eqb code 0 a, ne_eqb code 128 b)

pub code_of : (code : ℕ) → code ≤ 255 → forbidden code ≡ false → T (is_code code)
code_of code l e = both_make (leb code 255) (opposite (forbidden code)) (le→leb code 255 l) (rw e tt)

level_some : (code : ℕ) → forbidden code ≡ false → code ≡ 0 → ⊥
level_some zero e z = true-false e
level_some (suc n) e z = omega arith

-- ---- a code to its sign and its size, and back
pub size_some : (code : ℕ) → code < 256 → forbidden code ≡ false → 1 ≤ code_size code
size_some code h e = go (ltb code 128) (level_some code e)
  where
    go : (b : Bool) → (code ≡ 0 → ⊥) → 1 ≤ pick b code (256 - code)
    go true n = omega arith
    go false n = omega arith

pub sign_small : (code : ℕ) → code_sign code < 2 ^ 1
sign_small code = go (ltb code 128)
  where
    go : (b : Bool) → pick b 0 1 < 2
    go true = omega arith
    go false = omega arith

pub sign_back : (code : ℕ) → code < 256 → signed_code (code_sign code) (code_size code) ≡ code
sign_back code h = go (ltb code 128)
  where
    go : (b : Bool) → signed_code (pick b 0 1) (pick b code (256 - code)) ≡ code
    go true = refl
    go false = omega arith

-- ---- the code of a table's level, 1 to 15
pub signed_minus : (s level : ℕ) → (s ≡ 0 → ⊥) → signed_code s level ≡ 256 - level
signed_minus zero level n = absurd (n refl)
signed_minus (suc s) level n = refl

pub signed_byte : (s level : ℕ) → 1 ≤ level → level ≤ 255 → signed_code s level ≤ 255
signed_byte zero level some l = l
signed_byte (suc s) level some l = omega arith

pub plus_allowed : (x : ℕ) → 0 < x → x < 16 → forbidden x ≡ false
plus_allowed x h l = forbidden_no x (λ e. omega arith)

pub minus_allowed : (x : ℕ) → 0 < x → x < 16 → forbidden (256 - x) ≡ false
minus_allowed x h l = forbidden_no (256 - x) (λ e. omega arith)
