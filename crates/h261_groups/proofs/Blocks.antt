-- Every index of a store belongs to exactly one row and column of one block of one macroblock. Assumes nothing.
use mathlib.Core.Path.{◌≡◌, refl, sym, ap, ◌∙◌}
use mathlib.Core.Bool.{Bool}
use Prim.Native.Nat.{ℕ, ◌+◌, ◌*◌, ◌/◌, ◌%◌, ◌-◌, ◌<◌}
use native.Mathlib.Nat.{div-add-mod'}
use native.Mathlib.Omega.{arith}
use lib.Dec.{eqb}
use lib.ListN.{get_or}
use mir.Facts.{eqb_yes}
use Rattle.laws.proofs.Table.{all_at}
use Rattle.h261_groups.specs.declared.Format.{Format}
use Rattle.h261_groups.specs.declared.Format.TheVariants.{Qcif, Cif}
use Rattle.h261_groups.specs.Format.{group_numbers, group_count, row, column, size_of}
use Rattle.size.specs.Place.{macroblocks_across, macroblocks_down, blocks_across, blocks_down, index, own, block_of, grid_of, On}
use Rattle.h261_groups.specs.Order.{groups_across, macroblock_count, row_of, column_of, macroblock_at}
use Rattle.size.proofs.Grid.{Same, index_same, Spot, spot}
use Rattle.h261_groups.proofs.Numbers.{number_row, number_column, of_number, of_row, of_column}
use Rattle.h261_groups.specs.Blocks.{Belongs, EveryIndex, PlaceOnce}
use Rattle.size.proofs.Blocks.{own_across, own_down, block_six, Placed, placed, grid_back, block_plane, block_row, block_column, on_at}

pub number_less : (f : Format) (r c : ℕ) → r < macroblocks_down (size_of f) → c < macroblocks_across (size_of f) → macroblock_at f r c < macroblock_count f
number_less Qcif r c l m = omega arith
number_less Cif r c l m = omega arith

belongs_at : (f : Format) (k p y x i j : ℕ) → On (size_of f) p y x → i < 8 → j < 8 → k ≡ index (size_of f) p (y * 8 + i) (x * 8 + j) → Belongs f k
belongs_at f k p y x i j o hi hj e = record {
  n = macroblock_at f (own p y) (own p x);
  b = block_of p y x;
  i = i;
  j = j;
  macroblock = number_less f (own p y) (own p x) (own_down (size_of f) p y o.row) hc;
  block = block_six p y x o.plane;
  row = hi;
  column = hj;
  is = e ∙ sym (λ u. index (size_of f) (ep u) (ey u * 8 + i) (ex u * 8 + j));
}
  where
    hc : own p x < macroblocks_across (size_of f)
    hc = own_across (size_of f) p x o.column

    ep : block_of p y x - 3 ≡ p
    ep = block_plane p y x

    ey : grid_of (block_of p y x - 3) (row_of f (macroblock_at f (own p y) (own p x))) (block_of p y x / 2 % 2) ≡ y
    ey = (λ u. grid_of (ep u) (number_row f (own p y) (own p x) hc u) (block_of p y x / 2 % 2)) ∙ grid_back p y (block_of p y x / 2 % 2) (own p y) refl (block_row p y x)

    ex : grid_of (block_of p y x - 3) (column_of f (macroblock_at f (own p y) (own p x))) (block_of p y x % 2) ≡ x
    ex = (λ u. grid_of (ep u) (number_column f (own p y) (own p x) hc u) (block_of p y x % 2)) ∙ grid_back p x (block_of p y x % 2) (own p x) refl (block_column p y x)

pub every_index : EveryIndex
every_index f k l = of (spot (size_of f) k l)
  where
    of : Spot (size_of f) k → Belongs f k
    of s =
        belongs_at f k s.p (s.y / 8) (s.x / 8) (s.y % 8) (s.x % 8) (on_at (size_of f) s.p s.y s.x s.plane s.row s.col) (omega arith) (omega arith)
        (s.is ∙ (λ i. index (size_of f) s.p (sym (div-add-mod' s.y 8) i) (sym (div-add-mod' s.x 8) i)))

row_less : (n : ℕ) {z i : ℕ} → z < n → i < 8 → z * 8 + i < n * 8
row_less n l h = omega arith

eight : (a b c d : ℕ) → a * 8 + b ≡ c * 8 + d → b < 8 → d < 8 → (a ≡ c) × (b ≡ d)
eight a b c d e p q = (omega arith, omega arith)

pub place_once : PlaceOnce
place_once f n b i j m a k e hn hb hi hj hm ha hk he h =
    record {
      macroblock = sym (of_number f n) ∙ (λ u. macroblock_at f (er u) (ec u)) ∙ of_number f m;
      block = sym P.number ∙ (λ u. block_of (s.plane u) (ry.0 u) (rx.0 u)) ∙ Q.number;
      row = ry.1;
      column = rx.1;
    }
  where
    P : Placed (size_of f) (row_of f n) (column_of f n) b (b - 3) (grid_of (b - 3) (row_of f n) (b / 2 % 2)) (grid_of (b - 3) (column_of f n) (b % 2))
    P = placed (size_of f) (row_of f n) (column_of f n) b (b - 3) _ _ (of_row f n hn) (of_column f n) hb refl refl refl

    Q : Placed (size_of f) (row_of f m) (column_of f m) a (a - 3) (grid_of (a - 3) (row_of f m) (a / 2 % 2)) (grid_of (a - 3) (column_of f m) (a % 2))
    Q = placed (size_of f) (row_of f m) (column_of f m) a (a - 3) _ _ (of_row f m hm) (of_column f m) ha refl refl refl

    s : Same (b - 3) (grid_of (b - 3) (row_of f n) (b / 2 % 2) * 8 + i) (grid_of (b - 3) (column_of f n) (b % 2) * 8 + j) (a - 3) (grid_of (a - 3) (row_of f m) (a / 2 % 2) * 8 + k) (grid_of (a - 3) (column_of f m) (a % 2) * 8 + e)
    s = index_same (size_of f) (b - 3) _ _ (a - 3) _ _ (row_less (blocks_down (size_of f) (b - 3)) P.on.row hi) (row_less (blocks_across (size_of f) (b - 3)) P.on.column hj)
        (row_less (blocks_down (size_of f) (a - 3)) Q.on.row hk) (row_less (blocks_across (size_of f) (a - 3)) Q.on.column he) h

    ry : (grid_of (b - 3) (row_of f n) (b / 2 % 2) ≡ grid_of (a - 3) (row_of f m) (a / 2 % 2)) × (i ≡ k)
    ry = eight _ i _ k s.row hi hk

    rx : (grid_of (b - 3) (column_of f n) (b % 2) ≡ grid_of (a - 3) (column_of f m) (a % 2)) × (j ≡ e)
    rx = eight _ j _ e s.col hj he

    er : row_of f n ≡ row_of f m
    er = sym P.row ∙ (λ u. own (s.plane u) (ry.0 u)) ∙ Q.row

    ec : column_of f n ≡ column_of f m
    ec = sym P.column ∙ (λ u. own (s.plane u) (rx.0 u)) ∙ Q.column

-- ---- groups: where "Figure 6 has them"
groups_right : Format → ℕ → Bool
groups_right f g = eqb (get_or (group_numbers f) g 0) (g / groups_across f * 2 + g % groups_across f + 1)

pub group_at : (f : Format) (g : ℕ) → g < group_count f → get_or (group_numbers f) g 0 ≡ g / groups_across f * 2 + g % groups_across f + 1
unfolding groups_right
group_at Qcif g l = eqb_yes (all_at 3 (groups_right Qcif) tt g l)
group_at Cif g l = eqb_yes (all_at 12 (groups_right Cif) tt g l)

group_in : (f : Format) (n : ℕ) → n < macroblock_count f → n / 33 < group_count f
group_in f n l = omega arith

-- the number of the group that macroblock n is of, and its address there
abbrev pub group_of : Format → ℕ → ℕ
group_of f n = get_or (group_numbers f) (n / 33) 0

abbrev pub address_of : ℕ → ℕ
address_of n = n % 33 + 1

-- the first row and column of samples of macroblock n
pub row_at : (f : Format) (n : ℕ) → n < macroblock_count f → row (group_of f n) (address_of n) ≡ row_of f n * 16
row_at f n l = ap (λ (g : ℕ). row g (address_of n)) (group_at f (n / 33) (group_in f n l)) ∙ go f
  where
    go : (f : Format) → row (n / 33 / groups_across f * 2 + n / 33 % groups_across f + 1) (address_of n) ≡ row_of f n * 16
    go Qcif = omega arith
    go Cif = omega arith

pub column_at : (f : Format) (n : ℕ) → n < macroblock_count f → column (group_of f n) (address_of n) ≡ column_of f n * 16
column_at f n l = ap (λ (g : ℕ). column g (address_of n)) (group_at f (n / 33) (group_in f n l)) ∙ go f
  where
    go : (f : Format) → column (n / 33 / groups_across f * 2 + n / 33 % groups_across f + 1) (address_of n) ≡ column_of f n * 16
    go Qcif = omega arith
    go Cif = omega arith
