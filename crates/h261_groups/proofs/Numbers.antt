-- Macroblocks and their numbers in sending order. Assumes nothing.
use mathlib.Core.Path.{◌≡◌, refl, ◌∙◌}
use Prim.Native.Nat.{ℕ, ◌+◌, ◌*◌, ◌/◌, ◌%◌, ◌<◌}
use native.Mathlib.Nat.{mod-one, div-add-mod'}
use native.Mathlib.Omega.{arith}
use Rattle.h261_groups.specs.declared.Format.{Format}
use Rattle.h261_groups.specs.declared.Format.TheVariants.{Qcif, Cif}
use Rattle.h261_groups.specs.Format.{size_of}
use Rattle.size.specs.Place.{macroblocks_across, macroblocks_down}
use Rattle.h261_groups.specs.Order.{macroblock_count, row_of, column_of, macroblock_at}

pub count_is : (f : Format) → macroblock_count f ≡ macroblocks_down (size_of f) * macroblocks_across (size_of f)
count_is Qcif = refl
count_is Cif = refl

-- ---- macroblocks and their numbers
split_number : (g a : ℕ) → a < 33 → ((g * 33 + a) / 33 ≡ g) × ((g * 33 + a) % 33 ≡ a)
split_number g a h = (omega arith, omega arith)

pub number_row : (f : Format) (r c : ℕ) → c < macroblocks_across (size_of f) → row_of f (macroblock_at f r c) ≡ r
number_row Qcif r c q = omega arith
number_row Cif r c q = omega arith

pub number_column : (f : Format) (r c : ℕ) → c < macroblocks_across (size_of f) → column_of f (macroblock_at f r c) ≡ c
number_column Qcif r c q = omega (arith, split_number (r / 3 * 1 + c / 11) (r % 3 * 11 + c % 11) (omega arith), mod-one (macroblock_at Qcif r c / 33))
number_column Cif r c q = omega (arith, split_number (r / 3 * 2 + c / 11) (r % 3 * 11 + c % 11) (omega arith))

-- a group's place and a macroblock's place in it, put together and taken apart
parts : (a b : ℕ) → b < 3 → ((a * 3 + b) / 3 ≡ a) × ((a * 3 + b) % 3 ≡ b)
parts a b h = (omega arith, omega arith)

parts11 : (a b : ℕ) → b < 11 → ((a * 11 + b) / 11 ≡ a) × ((a * 11 + b) % 11 ≡ b)
parts11 a b h = (omega arith, omega arith)

pub of_number : (f : Format) (n : ℕ) → macroblock_at f (row_of f n) (column_of f n) ≡ n
of_number f n = go f
  where
    s_less : n % 33 / 11 < 3
    s_less = omega arith

    t_less : n % 33 % 11 < 11
    t_less = omega arith

    join : (G q s t : ℕ) → s ≡ n % 33 / 11 → t ≡ n % 33 % 11 → (w : ℕ) → G * w + q ≡ n / 33 → (G * w + q) * 33 + (s * 11 + t) ≡ n
    join G q s t es et w e = omega arith

    go : (f : Format) → macroblock_at f (row_of f n) (column_of f n) ≡ n
    go Qcif =
        let u = parts (n / 33 / 1) (n % 33 / 11) s_less in
        let v = parts11 (n / 33 % 1) (n % 33 % 11) t_less in
        (λ i. (u.0 i * 1 + v.0 i) * 33 + (u.1 i * 11 + v.1 i)) ∙ join (n / 33 / 1) (n / 33 % 1) _ _ refl refl 1 (div-add-mod' (n / 33) 1)
    go Cif =
        let u = parts (n / 33 / 2) (n % 33 / 11) s_less in
        let v = parts11 (n / 33 % 2) (n % 33 % 11) t_less in
        (λ i. (u.0 i * 2 + v.0 i) * 33 + (u.1 i * 11 + v.1 i)) ∙ join (n / 33 / 2) (n / 33 % 2) _ _ refl refl 2 (div-add-mod' (n / 33) 2)

pub of_row : (f : Format) (n : ℕ) → n < macroblock_count f → row_of f n < macroblocks_down (size_of f)
of_row Qcif n l = omega arith
of_row Cif n l = omega arith

pub of_column : (f : Format) (n : ℕ) → column_of f n < macroblocks_across (size_of f)
of_column Qcif n = omega (arith, mod-one (n / 33))
of_column Cif n = omega arith
