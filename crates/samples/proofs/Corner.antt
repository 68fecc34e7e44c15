-- Where a part of a plane begins in a store: what lies from there on, and that there is room for it. Assumes nothing.
use mathlib.Core.Path.{◌≡◌, ap, subst, sym, ◌∙◌}
use mathlib.Core.List.{List}
use Prim.Native.Nat.{ℕ, zero, suc, ◌+◌, ◌*◌, ◌/◌, ◌%◌, ◌-◌, ◌≤◌, ◌<◌}
use native.Mathlib.Nat.{add-mul}
use native.Mathlib.Omega.{arith}
use lib.ListN.{get_or}
use Rattle.laws.specs.Rows.{Room}
use Rattle.size.specs.declared.Size.{Size}
use Rattle.size.specs.declared.Size.TheVariants.{SubQcif, Qcif, Cif}
use Rattle.size.specs.Size.{store_length}
use Rattle.size.specs.Place.{macroblocks_across, macroblocks_down, blocks_across, blocks_down, wide, high, index, cell_of, On}
use Rattle.size.proofs.Grid.{index_size}
use Rattle.samples.specs.Ready.{Inside, Fits, Copies}
use Rattle.samples.specs.Wrote.{rows_of}

-- row y, column x of plane p lie at `at`, and the plane's rows w apart
pub record Corner (f : Size) (p y x at w : ℕ) : Type 0 where
  pub place : at ≡ index f p y x
  pub stride : w ≡ wide f p

pub corner : (f : Size) (p y x : ℕ) {at w : ℕ} → at ≡ index f p y x → w ≡ wide f p → Corner f p y x at w
corner f p y x e s = record { place = e; stride = s }

-- row i, column j from there on
pub corner_cell : {f : Size} {p y x at w : ℕ} → Corner f p y x at w → (i j : ℕ) → at + i * w + j ≡ index f p (y + i) (x + j)
corner_cell {f} {p} {y} {x} a i j = (λ k. a.place k + i * a.stride k + j) ∙ along
  where
    along : index f p y x + i * wide f p + j ≡ index f p (y + i) (x + j)
    along = omega (arith, add-mul y i (wide f p))

-- from the corner of a macroblock on, in Y: rows and columns of its four blocks
pub corner_half : {f : Size} {r c at w : ℕ} → Corner f 0 (r * 16) (c * 16) at w → (y x : ℕ) → y / 2 ≡ r → x / 2 ≡ c → (i j : ℕ)
    → at + (y % 2 * 8 + i) * w + (x % 2 * 8 + j) ≡ index f 0 (y * 8 + i) (x * 8 + j)
corner_half {f} {r} {c} a y x er ec i j =
    corner_cell a (y % 2 * 8 + i) (x % 2 * 8 + j) ∙ (λ k. index f 0 (split r y i er k) (split c x j ec k))
  where
    split : (r y i : ℕ) → y / 2 ≡ r → r * 16 + (y % 2 * 8 + i) ≡ y * 8 + i
    split r y i e = omega arith

-- a store's rows from there on are a block's
pub rows_cell : {f : Size} {p at w : ℕ} (y x : ℕ) → Corner f p (y * 8) (x * 8) at w → (s : List ℕ) (i j : ℕ) → rows_of s at w i j ≡ cell_of f s p y x i j
rows_cell y x a s i j = ap (λ (k : ℕ). get_or s k 0) (corner_cell a i j)

-- ---- room
-- h rows of k samples from there on lie in the store
pub corner_room : {f : Size} {p y x at w n : ℕ} (h k : ℕ) → Corner f p y x at w → n ≡ store_length f → p < 3 → 0 < k → y + h ≤ high f p → x + k ≤ wide f p → Room h k at w n
corner_room {f} {p} {y} {x} {at} {w} {n} h k a e hp some hy hx i l =
    last (sym (corner_cell a i (k - 1))) (subst (λ (m : ℕ). index f p (y + i) (x + (k - 1)) < m) (sym e) (index_size f p (y + i) (x + (k - 1)) hp (omega arith) (omega arith)))
  where
    last : {m : ℕ} → m ≡ at + i * w + (k - 1) → m < n → at + i * w + k ≤ n
    last q r = omega arith

wide_least : (f : Size) (p : ℕ) → 8 ≤ wide f p
wide_least SubQcif zero = omega arith
wide_least SubQcif (suc p) = omega arith
wide_least Qcif zero = omega arith
wide_least Qcif (suc p) = omega arith
wide_least Cif zero = omega arith
wide_least Cif (suc p) = omega arith

wide_luminance : (f : Size) → 16 ≤ wide f 0
wide_luminance SubQcif = omega arith
wide_luminance Qcif = omega arith
wide_luminance Cif = omega arith

-- for a block, and for a macroblock's Y
block_room : {f : Size} {p y x at w n : ℕ} → Corner f p (y * 8) (x * 8) at w → On f p y x → n ≡ store_length f → Room 8 8 at w n
block_room {f} {p} a o e = corner_room 8 8 a e o.plane (omega arith) (less (blocks_down f p) o.row) (less (blocks_across f p) o.column)
  where
    less : (m : ℕ) {k : ℕ} → k < m → k * 8 + 8 ≤ m * 8
    less m l = omega arith

pub block_fits : {f : Size} {p y x at w n : ℕ} → Corner f p (y * 8) (x * 8) at w → On f p y x → n ≡ store_length f → Fits 8 at w n
block_fits {f} {p} a o e = record { apart = omega (arith, a.stride, wide_least f p); room = block_room a o e }

pub block_copies : {f : Size} {p y x at w n m : ℕ} → Corner f p (y * 8) (x * 8) at w → On f p y x → n ≡ store_length f → m ≡ store_length f → Copies 8 at n at m w
block_copies a o e d = record { most = omega arith; source = block_room a o e; target = block_fits a o d }

four_room : {f : Size} {r c at w n : ℕ} → Corner f 0 (r * 16) (c * 16) at w → r < macroblocks_down f → c < macroblocks_across f → n ≡ store_length f → Room 16 16 at w n
four_room {f} a hr hc e = corner_room 16 16 a e (omega arith) (omega arith) (less (macroblocks_down f) hr) (less (macroblocks_across f) hc)
  where
    less : (m : ℕ) {k : ℕ} → k < m → k * 16 + 16 ≤ m * 2 * 8
    less m l = omega arith

pub four_copies : {f : Size} {r c at w n m : ℕ} → Corner f 0 (r * 16) (c * 16) at w → r < macroblocks_down f → c < macroblocks_across f → n ≡ store_length f → m ≡ store_length f → Copies 16 at n at m w
four_copies {f} a hr hc e d = record {
  most = omega arith;
  source = four_room a hr hc e;
  target = record { apart = omega (arith, a.stride, wide_luminance f); room = four_room a hr hc d };
}

-- where a block begins is inside
pub block_inside : {f : Size} {p y x : ℕ} → On f p y x → Inside f p (y * 8) (x * 8)
block_inside {f} {p} o = record { plane = o.plane; row = less (blocks_down f p) o.row; column = less (blocks_across f p) o.column }
  where
    less : (m : ℕ) {k : ℕ} → k < m → k * 8 < m * 8
    less m l = omega arith
