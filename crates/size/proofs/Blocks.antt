-- Blocks of a plane and the macroblocks that they are of. Assumes nothing.
use mathlib.Core.Path.{◌≡◌, refl, sym, subst}
use Prim.Native.Nat.{ℕ, zero, suc, ◌*◌, ◌/◌, ◌%◌, ◌-◌, ◌≤◌, ◌<◌}
use native.Mathlib.Omega.{arith}
use Rattle.size.specs.declared.Size.{Size}
use Rattle.size.specs.declared.Size.TheVariants.{SubQcif, Qcif, Cif}
use Rattle.size.specs.Place.{macroblocks_across, macroblocks_down, side, blocks_across, blocks_down, wide, high, own, block_of, grid_of, On}
use Rattle.size.proofs.Grid.{Same}

pub own_across : (f : Size) (p x : ℕ) → x < blocks_across f p → own p x < macroblocks_across f
own_across f zero x l = omega arith
own_across f (suc p) x l = omega arith

pub own_down : (f : Size) (p y : ℕ) → y < blocks_down f p → own p y < macroblocks_down f
own_down f zero y l = omega arith
own_down f (suc p) y l = omega arith

pub block_six : (p y x : ℕ) → p < 3 → block_of p y x < 6
block_six zero y x l = omega arith
block_six (suc p) y x l = omega arith

-- two blocks with one number of one macroblock are one
pub block_same : (q z v p y x : ℕ) → block_of q z v ≡ block_of p y x → own q z ≡ own p y → own q v ≡ own p x → Same q z v p y x
block_same zero z v zero y x e a b = record { plane = refl; row = omega arith; col = omega arith }
block_same zero z v (suc p) y x e a b = absurd (omega arith)
block_same (suc q) z v zero y x e a b = absurd (omega arith)
block_same (suc q) z v (suc p) y x e a b = record { plane = omega arith; row = a; col = b }

-- ---- from a macroblock to its blocks
own_grid : (p r k : ℕ) → k < 2 → own p (grid_of p r k) ≡ r
own_grid zero r k l = omega arith
own_grid (suc p) r k l = refl

block_grid : (p r c b : ℕ) → p ≡ b - 3 → b < 6 → block_of p (grid_of p r (b / 2 % 2)) (grid_of p c (b % 2)) ≡ b
block_grid zero r c b e l = omega arith
block_grid (suc p) r c b e l = omega arith

grid_in : (n p r k : ℕ) → r < n → k < 2 → grid_of p r k < n * side p
grid_in n zero r k l h = omega arith
grid_in n (suc p) r k l h = omega arith

-- where block b of the macroblock in row r, column c is
pub record Placed (f : Size) (r c b p y x : ℕ) : Type 0 where
  pub on : On f p y x
  pub row : own p y ≡ r
  pub column : own p x ≡ c
  pub number : block_of p y x ≡ b

pub placed : (f : Size) (r c b p y x : ℕ) → r < macroblocks_down f → c < macroblocks_across f → b < 6 → p ≡ b - 3 → y ≡ grid_of p r (b / 2 % 2) → x ≡ grid_of p c (b % 2) → Placed f r c b p y x
placed f r c b p y x hr hc hb ep ey ex =
    subst (λ (n : ℕ). Placed f r c b p n x) (sym ey)
    (subst (λ (n : ℕ). Placed f r c b p (grid_of p r (b / 2 % 2)) n) (sym ex)
    (record {
      on = record { plane = omega arith; row = grid_in (macroblocks_down f) p r (b / 2 % 2) hr (omega arith); column = grid_in (macroblocks_across f) p c (b % 2) hc (omega arith) };
      row = own_grid p r (b / 2 % 2) (omega arith);
      column = own_grid p c (b % 2) (omega arith);
      number = block_grid p r c b ep hb;
    }))

pub grid_back : (p y k r : ℕ) → own p y ≡ r → (p ≡ 0 → y % 2 ≡ k) → grid_of p r k ≡ y
grid_back zero y k r e h = let g : y % 2 ≡ k = h refl in omega arith
grid_back (suc p) y k r e h = sym e

pub block_plane : (p y x : ℕ) → block_of p y x - 3 ≡ p
block_plane zero y x = omega arith
block_plane (suc p) y x = omega arith

pub block_row : (p y x : ℕ) → p ≡ 0 → y % 2 ≡ block_of p y x / 2 % 2
block_row zero y x e = omega arith
block_row (suc p) y x e = absurd (omega arith)

pub block_column : (p y x : ℕ) → p ≡ 0 → x % 2 ≡ block_of p y x % 2
block_column zero y x e = omega arith
block_column (suc p) y x e = absurd (omega arith)

-- the block that a sample is in
pub on_at : (f : Size) (p y x : ℕ) → p < 3 → y < high f p → x < wide f p → On f p (y / 8) (x / 8)
on_at f p y x hp hy hx = record { plane = hp; row = less (blocks_down f p) y hy; column = less (blocks_across f p) x hx }
  where
    less : (m z : ℕ) → z < m * 8 → z / 8 < m
    less m z q = omega arith

-- ---- rows and columns are small numbers
pub size_small : (f : Size) → (macroblocks_down f ≤ 18) × (macroblocks_across f ≤ 22)
size_small SubQcif = (omega arith, omega arith)
size_small Qcif = (omega arith, omega arith)
size_small Cif = (omega arith, omega arith)

pub on_small : {f : Size} {p y x : ℕ} → On f p y x → (y < 36) × (x < 44)
on_small {f} {p} o = let m = size_small f in go p o.row o.column m.0 m.1
  where
    go : {y x : ℕ} (p : ℕ) → y < blocks_down f p → x < blocks_across f p → macroblocks_down f ≤ 18 → macroblocks_across f ≤ 22 → (y < 36) × (x < 44)
    go zero l m d a = (omega arith, omega arith)
    go (suc p) l m d a = (omega arith, omega arith)
