-- A block that is predicted: where its vector points, what is put, and that it is the block of the grid. Assumes nothing.
use mathlib.Core.Path.{◌≡◌, sym, ap, subst, ◌∙◌}
use mathlib.Core.Bool.{Bool, true, false}
use mathlib.Core.List.{List}
use Prim.Native.Nat.{ℕ, ◌+◌, ◌*◌, ◌/◌, ◌%◌, ◌≤◌, ◌<◌}
use native.Mathlib.Omega.{arith}
use lib.IntN.{pos}
use lib.ListN.{get_or}
use Rattle.laws.specs.Rows.{Put}
use Rattle.laws.proofs.Rows.{put_as}
use Rattle.size.specs.declared.Size.{Size}
use Rattle.size.specs.Size.{store_length}
use Rattle.size.specs.Place.{wide, high, On}
use Rattle.quantiser.specs.Sample.{sample_of}
use Rattle.samples.specs.Content.{difference_of}
use Rattle.samples.specs.Ready.{Inside}
use Rattle.samples.specs.Wrote.{Wrote, block_from, rows_of}
use Rattle.samples.proofs.Added.{put_over}
use Rattle.samples.proofs.Corner.{Corner, corner_cell, corner_room, block_fits}
use Rattle.samples.proofs.Wrote.{wrote}
use Rattle.layout.specs.Value.{Vector}
use Rattle.h263_description.specs.Moved.{half_place, Aims}
use Rattle.h263_halves.specs.Half.{half_sample}
use Rattle.h263_halves.specs.Ready.{Halves}
use Rattle.h263_halves.proofs.Half.{half_among}
use Rattle.h263_render.specs.Sample.{plane_in, source, predictions_from}

-- ---- the block at (y, x) of plane p, moved by its vector to row `down`, column `along`, in half samples
module _ (size : Size) (p y x : ℕ) (v : Vector) {down along : ℕ} (ed : down ≡ half_place p (y * 8) v.vertical) (ea : along ≡ half_place p (x * 8) v.horizontal) (aims : Aims size p y x v) where
  -- the last sample that is used, each way
  lowest : down / 2 + (8 + down % 2) ≤ high size p
  lowest = go (subst (λ (h : ℕ). (h + 1) / 2 + 8 ≤ high size p) (sym ed) aims.down.within)
    where
      go : (down + 1) / 2 + 8 ≤ high size p → down / 2 + (8 + down % 2) ≤ high size p
      go l = omega arith

  rightmost : along / 2 + (8 + along % 2) ≤ wide size p
  rightmost = go (subst (λ (h : ℕ). (h + 1) / 2 + 8 ≤ wide size p) (sym ea) aims.across.within)
    where
      go : (along + 1) / 2 + 8 ≤ wide size p → along / 2 + (8 + along % 2) ≤ wide size p
      go l = omega arith

  pub moved_inside : On size p y x → Inside size p (down / 2) (along / 2)
  moved_inside o = record { plane = o.plane; row = less (down / 2) (down % 2) lowest; column = less (along / 2) (along % 2) rightmost }
    where
      less : (a b : ℕ) {n : ℕ} → a + (8 + b) ≤ n → a < n
      less a b l = omega arith

  pub moved_halves : {from to w n m : ℕ} → Corner size p (down / 2) (along / 2) from w → Corner size p (y * 8) (x * 8) to w → On size p y x → n ≡ store_length size → m ≡ store_length size
      → Halves from to w (along % 2) (down % 2) n m
  moved_halves c a o e f = record {
    rightmost = omega arith;
    lowest = omega arith;
    source = corner_room (8 + down % 2) (8 + along % 2) c e o.plane (omega arith) lowest rightmost;
    target = block_fits a o f;
  }

  -- a half sample of the rows from there on is the one at the moved place
  moved_source : {from w : ℕ} → Corner size p (down / 2) (along / 2) from w → (s : List ℕ) (i j : ℕ) → i < 8 → j < 8
      → half_sample (rows_of s from w) (2 * i + down % 2) (2 * j + along % 2) ≡ source size s v p y x i j
  moved_source {from} {w} c s i j l m =
      half_among (rows_of s from w) (2 * i + down % 2) (2 * j + along % 2) (floor i down) (ceiling i down) (floor j along) (ceiling j along)
      ∙ (λ z. (cell i j z + cell i (j + along % 2) z + cell (i + down % 2) j z + cell (i + down % 2) (j + along % 2) z + 2) / 4)
      ∙ sym
      (half_among (plane_in size s p) (half_place p (y * 8 + i) v.vertical) (half_place p (x * 8 + j) v.horizontal) (floor_at i down (row l)) (ceiling_at i down (row l))
      (floor_at j along (column m)) (ceiling_at j along (column m)))
    where
      floor : (n h : ℕ) → (2 * n + h % 2) / 2 ≡ n
      floor n h = omega arith

      ceiling : (n h : ℕ) → (2 * n + h % 2 + 1) / 2 ≡ n + h % 2
      ceiling n h = omega arith

      floor_at : (n h : ℕ) {k : ℕ} → k ≡ h + 2 * n → k / 2 ≡ h / 2 + n
      floor_at n h e = omega arith

      ceiling_at : (n h : ℕ) {k : ℕ} → k ≡ h + 2 * n → (k + 1) / 2 ≡ h / 2 + (n + h % 2)
      ceiling_at n h e = omega arith

      row : i < 8 → half_place p (y * 8 + i) v.vertical ≡ down + 2 * i
      row l = aims.down.forward i l ∙ ap (λ (h : ℕ). h + 2 * i) (sym ed)

      column : j < 8 → half_place p (x * 8 + j) v.horizontal ≡ along + 2 * j
      column m = aims.across.forward j m ∙ ap (λ (h : ℕ). h + 2 * j) (sym ea)

      cell : (a b : ℕ) → rows_of s from w a b ≡ plane_in size s p (down / 2 + a) (along / 2 + b)
      cell a b = ap (λ (k : ℕ). get_or s k 0) (corner_cell c a b)

  -- and so what is put is the source
  pub source_put : {from to w : ℕ} {t u : List ℕ} → Corner size p (down / 2) (along / 2) from w → (s : List ℕ)
      → Put 8 8 to w (λ i j. half_sample (rows_of s from w) (2 * i + down % 2) (2 * j + along % 2)) t u → Put 8 8 to w (source size s v p y x) t u
  source_put c s h = put_as (moved_source c s) h

-- ---- what is sent, by itself or over the prediction, is the block
module _ (size : Size) (p y x : ℕ) (v : Vector) (s : List ℕ) (bytes : ℕ → ℕ) (q : ℕ) {to w : ℕ} (a : Corner size p (y * 8) (x * 8) to w) (o : On size p y x) where
  WroteSent : List ℕ → List ℕ → Bool → Type 0
  WroteSent t u intra = Wrote size p y x (λ i j. sample_of (predictions_from size s intra v p y x i j) (difference_of bytes intra q i j)) t u

  pub intra_block : {intra : Bool} {t u : List ℕ} → intra ≡ true → Put 8 8 to w (λ i j. sample_of (pos 0) (difference_of bytes true q i j)) t u
      → Wrote size p y x (λ i j. sample_of (predictions_from size s intra v p y x i j) (difference_of bytes intra q i j)) t u
  unfolding WroteSent
  intra_block {t = t} {u = u} e h = subst (WroteSent t u) (sym e) (wrote a o h)

  pub inter_block : {intra : Bool} {t m u : List ℕ} → intra ≡ false → Put 8 8 to w (source size s v p y x) t m
      → Put 8 8 to w (λ i j. sample_of (block_from m to w i j) (difference_of bytes false q i j)) m u
      → Wrote size p y x (λ i j. sample_of (predictions_from size s intra v p y x i j) (difference_of bytes intra q i j)) t u
  unfolding WroteSent
  inter_block {t = t} {u = u} e h r = subst (WroteSent t u) (sym e) (wrote a o (put_over (λ i j n. sample_of (pos n) (difference_of bytes false q i j)) h r))
