-- A block that is predicted: where its vector points, what is put, and that it is the block of the grid. Assumes nothing.
use mathlib.Core.Path.{◌≡◌, sym, subst, ◌∙◌}
use mathlib.Core.Bool.{true, false}
use mathlib.Core.List.{List}
use Prim.Native.Nat.{ℕ, ◌+◌, ◌*◌, ◌≤◌, ◌<◌}
use native.Mathlib.Omega.{arith}
use lib.IntN.{ℤ, pos}
use lib.ListN.{get_or}
use Rattle.laws.specs.Rows.{Put, Room}
use Rattle.laws.proofs.Rows.{put_as}
use Rattle.size.specs.declared.Size.{Size}
use Rattle.size.specs.Size.{store_length}
use Rattle.size.specs.Place.{wide, high, index, On}
use Rattle.quantiser.specs.Sample.{sample_of}
use Rattle.samples.specs.Content.{difference_of}
use Rattle.samples.specs.Ready.{Inside}
use Rattle.samples.specs.Wrote.{Wrote, block_from}
use Rattle.samples.proofs.Added.{put_over}
use Rattle.samples.proofs.Corner.{Corner, corner, corner_cell, corner_room}
use Rattle.samples.proofs.Wrote.{wrote, wrote_as}
use Rattle.h261_groups.specs.declared.Format.{Format}
use Rattle.h261_groups.specs.Format.{size_of}
use Rattle.layout.specs.Value.{Vector}
use Rattle.h261_description.specs.Moved.{moved_place, Aims}
use Rattle.h261_render.specs.declared.Prediction.{Prediction}
use Rattle.h261_render.specs.declared.Prediction.TheVariants.{Intra}
use Rattle.h261_render.specs.Sample.{source, predicted, predictions_from}
use Rattle.h261_render.specs.Turn.{intra_of}

-- corners by the format's size
pub corner_for : (f : Format) (p y x : ℕ) {z : Size} {at w : ℕ} → z ≡ size_of f → at ≡ index z p y x → w ≡ wide z p → Corner (size_of f) p y x at w
corner_for f p y x {z} {at} {w} e ea ew = subst (λ (g : Size). Corner g p y x at w) e (corner z p y x ea ew)

pub inside_for : (f : Format) {p y x : ℕ} {z : Size} → z ≡ size_of f → Inside (size_of f) p y x → Inside z p y x
inside_for f {p} {y} {x} e h = subst (λ (g : Size). Inside g p y x) (sym e) h

-- what is put at a place of the store for a prediction from another of the reference
abbrev PutFor : Prediction → List ℕ → ℕ → (ℕ → ℕ) → ℕ → ℕ → ℕ → List ℕ → List ℕ → Type 0
PutFor k s from bytes q to w t u = Put 8 8 to w (λ i j. sample_of (predicted k (block_from s from w) i j) (difference_of bytes (intra_of k) q i j)) t u

-- what is sent by itself
pub drawn_alone : {k : Prediction} (s : List ℕ) (from : ℕ) (bytes : ℕ → ℕ) (q : ℕ) {to w : ℕ} {t u : List ℕ} → k ≡ Intra
    → Put 8 8 to w (λ i j. sample_of (pos 0) (difference_of bytes true q i j)) t u → PutFor k s from bytes q to w t u
drawn_alone s from bytes q {to} {w} {t} {u} e r = subst (λ (k : Prediction). PutFor k s from bytes q to w t u) (sym e) r

-- what is sent over a prediction that was put
pub drawn_over : {k : Prediction} (m : Prediction) (s : List ℕ) (from : ℕ) (bytes : ℕ → ℕ) (q : ℕ) {to w : ℕ} {g : ℕ → ℕ → ℕ} {t u v : List ℕ} → k ≡ m → intra_of m ≡ false
    → ((i j : ℕ) → i < 8 → j < 8 → pos (g i j) ≡ predicted m (block_from s from w) i j) → Put 8 8 to w g t u
    → Put 8 8 to w (λ i j. sample_of (block_from u to w i j) (difference_of bytes false q i j)) u v → PutFor k s from bytes q to w t v
drawn_over m s from bytes q {to} {w} {t = t} {v = v} e n h p r =
    subst (λ (k : Prediction). PutFor k s from bytes q to w t v) (sym e)
    (put_as (λ i j a b z. sample_of (h i j a b z) (difference_of bytes (sym n z) q i j)) (put_over (λ i j n. sample_of (pos n) (difference_of bytes false q i j)) p r))

-- ---- the block at (y, x) of plane p, moved by its vector to row my, column mx
module _ (f : Format) (p y x : ℕ) (v : Vector) {my mx : ℕ} (ey : my ≡ moved_place p (y * 8) v.vertical) (ex : mx ≡ moved_place p (x * 8) v.horizontal) where
  down : Aims f p y x v → my + 8 ≤ high (size_of f) p
  down a = subst (λ (k : ℕ). k + 8 ≤ high (size_of f) p) (sym ey) a.bottom

  along : Aims f p y x v → mx + 8 ≤ wide (size_of f) p
  along a = subst (λ (k : ℕ). k + 8 ≤ wide (size_of f) p) (sym ex) a.right

  pub moved_inside : On (size_of f) p y x → Aims f p y x v → Inside (size_of f) p my mx
  moved_inside o a = record { plane = o.plane; row = less (down a); column = less (along a) }
    where
      less : {k n : ℕ} → k + 8 ≤ n → k < n
      less l = omega arith

  pub moved_room : {at w n : ℕ} → Corner (size_of f) p my mx at w → On (size_of f) p y x → Aims f p y x v → n ≡ store_length (size_of f) → Room 8 8 at w n
  moved_room c o a e = corner_room 8 8 c e o.plane (omega arith) (down a) (along a)

  -- what lies there is the source
  moved_source : {at w : ℕ} → Corner (size_of f) p my mx at w → (s : List ℕ) → block_from s at w ≡ source f s v p y x
  moved_source c s z i j =
      pos (get_or s ((corner_cell c i j ∙ (λ r. index (size_of f) p (ey r + i) (ex r + j))) z) 0)

  -- and so what is put is the block
  pub block_drawn : {from to w : ℕ} {t u : List ℕ} → Corner (size_of f) p my mx from w → Corner (size_of f) p (y * 8) (x * 8) to w → (k : Prediction) (s : List ℕ) (e : ℕ → ℕ → ℤ)
      → On (size_of f) p y x → Put 8 8 to w (λ i j. sample_of (predicted k (block_from s from w) i j) (e i j)) t u
      → Wrote (size_of f) p y x (λ i j. sample_of (predictions_from f s k v p y x i j) (e i j)) t u
  block_drawn c a k s e o r = wrote_as (λ i j l n z. sample_of (predicted k (moved_source c s z) i j) (e i j)) (wrote a o r)
