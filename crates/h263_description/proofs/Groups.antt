-- The numbers of the groups: as many as rows of macroblocks, from 0 on. Assumes nothing.
use Prim.Native.Nat.{ℕ, zero, suc, ◌+◌, ◌*◌, ◌/◌, ◌%◌, ◌≤◌, ◌<◌}
use mathlib.Core.Path.{◌≡◌, refl, ap}
use native.Mathlib.Omega.{arith}
use native.Mathlib.Nat.{div-lt_iff_lt-mul, mod-lt}
use lib.ListN.{length, get_or}
use Rattle.size.specs.declared.Size.{Size}
use Rattle.size.specs.declared.Size.TheVariants.{SubQcif, Qcif, Cif}
use Rattle.size.specs.Place.{macroblocks_across, macroblocks_down}
use Rattle.h263_description.specs.Value.{numbers_from, group_numbers}

pub numbers_count : (number k : ℕ) → length (numbers_from number k) ≡ k
numbers_count number zero = refl
numbers_count number (suc k) = ap suc (numbers_count (suc number) k)

pub numbers_at : (number k g : ℕ) → g < k → get_or (numbers_from number k) g 0 ≡ number + g
numbers_at number zero g l = absurd (omega arith)
numbers_at number (suc k) zero l = omega arith
numbers_at number (suc k) (suc g) l = let m : g < k = omega arith in omega (arith, numbers_at (suc number) k g m)

pub groups_listed : (size : Size) → length (group_numbers size) ≡ macroblocks_down size
groups_listed size = numbers_count 0 (macroblocks_down size)

-- group g has number g
pub number_at : (size : Size) (g : ℕ) → g < macroblocks_down size → get_or (group_numbers size) g 0 ≡ g
number_at size g l = omega (arith, numbers_at 0 (macroblocks_down size) g l)

-- ---- the row and the column of macroblock n
pub some_across : (size : Size) → 1 ≤ macroblocks_across size
some_across SubQcif = omega arith
some_across Qcif = omega arith
some_across Cif = omega arith

pub some_down : (size : Size) → 1 ≤ macroblocks_down size
some_down SubQcif = omega arith
some_down Qcif = omega arith
some_down Cif = omega arith

pub across_most : (size : Size) → macroblocks_across size ≤ 22
across_most SubQcif = omega arith
across_most Qcif = omega arith
across_most Cif = omega arith

pub down_most : (size : Size) → macroblocks_down size ≤ 18
down_most SubQcif = omega arith
down_most Qcif = omega arith
down_most Cif = omega arith

pub row_in : (size : Size) (n : ℕ) → n < macroblocks_down size * macroblocks_across size → n / macroblocks_across size < macroblocks_down size
row_in size n l = (div-lt_iff_lt-mul {k = macroblocks_across size} {x = n} {y = macroblocks_down size} (some_across size)).1 l

pub column_in : (size : Size) (n : ℕ) → n % macroblocks_across size < macroblocks_across size
column_in size n = mod-lt n (some_across size)
