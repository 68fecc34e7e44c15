-- The four cases of a half sample: none, to the right, down, both; the rows of each are the one formula's. Assumes nothing.
use mathlib.Core.Path.{◌≡◌, sym, ap, subst, ◌∙◌}
use mathlib.Core.List.{List}
use Prim.Native.Nat.{ℕ, ◌+◌, ◌*◌, ◌/◌, ◌≤◌, ◌<◌}
use native.Mathlib.Omega.{arith}
use lib.ListN.{get_or}
use Rattle.laws.specs.Rows.{Begins, Put, Room}
use Rattle.laws.proofs.Rows.{put_as}
use Rattle.samples.specs.Wrote.{rows_of}
use Rattle.h263_halves.specs.Half.{Plane, half_sample}
use Rattle.h263_halves.specs.Ready.{Among, Halves}

-- ---- a sample by its two sides each way
module _ (s : Plane) (k h : ℕ) {y z x v : ℕ} (up : k / 2 ≡ y) (down : (k + 1) / 2 ≡ z) (left : h / 2 ≡ x) (right : (h + 1) / 2 ≡ v) where
  pub half_among : half_sample s k h ≡ (s y x + s y v + s z x + s z v + 2) / 4
  unfolding half_sample
  half_among i = (s (up i) (left i) + s (up i) (right i) + s (down i) (left i) + s (down i) (right i) + 2) / 4

-- where both sides are one, (2n + 2m + 2) / 4 = (n + m + 1) / 2
pub half_whole : (s : Plane) (k h : ℕ) {y x : ℕ} → k / 2 ≡ y → (k + 1) / 2 ≡ y → h / 2 ≡ x → (h + 1) / 2 ≡ x → half_sample s k h ≡ s y x
half_whole s k h {y} {x} a b c d = half_among s k h a b c d ∙ one (s y x)
  where
    one : (n : ℕ) → (n + n + n + n + 2) / 4 ≡ n
    one n = omega arith

half_down : (s : Plane) (k h : ℕ) {y z x : ℕ} → k / 2 ≡ y → (k + 1) / 2 ≡ z → h / 2 ≡ x → (h + 1) / 2 ≡ x → half_sample s k h ≡ (s y x + s z x + 1) / 2
half_down s k h {y} {z} {x} a b c d = half_among s k h a b c d ∙ two (s y x) (s z x)
  where
    two : (n m : ℕ) → (n + n + m + m + 2) / 4 ≡ (n + m + 1) / 2
    two n m = omega arith

-- ---- rows of means and of sums
-- eight sums of a sample and the next one, from a place on
abbrev pub Sums : List ℕ → ℕ → List ℕ → Type 0
Sums s at row = Begins 8 8 (λ j. get_or s (at + j) 0 + get_or s (at + j + 1) 0) row

pub sums_at : (s : List ℕ) {a b : ℕ} {row : List ℕ} → a ≡ b → Sums s a row → Sums s b row
sums_at s {row = row} e h = subst (λ (n : ℕ). Sums s n row) e h

pub mean_byte : {a b : ℕ} → a ≤ 255 → b ≤ 255 → (a + b + 1) / 2 ≤ 255
mean_byte l m = omega arith

module _ (s : List ℕ) {row : List ℕ} (byte : (n : ℕ) → get_or s n 0 ≤ 255) where
  pub means_bytes : (a b : ℕ) → Begins 8 8 (λ j. (get_or s (a + j) 0 + get_or s (b + j) 0 + 1) / 2) row → (j : ℕ) → j < 8 → get_or row j 0 ≤ 255
  means_bytes a b h j l = go (h.first j l) (mean_byte (byte (a + j)) (byte (b + j)))
    where
      go : {n m : ℕ} → n ≡ m → m ≤ 255 → n ≤ 255
      go e k = omega arith

  pub sums_low : (at : ℕ) → Sums s at row → Among row
  sums_low at h j l = go (h.first j l) (byte (at + j)) (byte (at + j + 1))
    where
      go : {n a b : ℕ} → n ≡ a + b → a ≤ 255 → b ≤ 255 → n ≤ 510
      go e k m = omega arith

-- the mean of two rows of sums
pub among_bytes : (a b : List ℕ) {row : List ℕ} → Among a → Among b → Begins 8 8 (λ j. (get_or a j 0 + get_or b j 0 + 2) / 4) row → (j : ℕ) → j < 8 → get_or row j 0 ≤ 255
among_bytes a b p q h j l = go (h.first j l) (p j l) (q j l)
  where
    go : {n a b : ℕ} → n ≡ (a + b + 2) / 4 → a ≤ 510 → b ≤ 510 → n ≤ 255
    go e k m = omega arith

-- ---- places in half samples, and the samples on their sides
even : (n : ℕ) → (2 * n + 0) / 2 ≡ n
even n = omega arith

even_up : (n : ℕ) → (2 * n + 0 + 1) / 2 ≡ n
even_up n = omega arith

odd : (n : ℕ) → (2 * n + 1) / 2 ≡ n
odd n = omega arith

odd_up : (n : ℕ) → (2 * n + 1 + 1) / 2 ≡ n + 1
odd_up n = omega arith

module _ (s : List ℕ) (from w : ℕ) where
  at : ℕ → ℕ
  at n = get_or s n 0

  -- a sample, the next one in its row, and those below them
  right : (i j : ℕ) → from + i * w + j + 1 ≡ from + i * w + (j + 1)
  right i j = omega arith

  -- row i between its samples
  pub row_right : (i : ℕ) {a : List ℕ} → Sums s (from + i * w) a → (j : ℕ) → j < 8 → (get_or a j 0 + get_or a j 0 + 2) / 4 ≡ half_sample (rows_of s from w) (2 * i + 0) (2 * j + 1)
  unfolding at
  row_right i {a} p j l =
      two (get_or a j 0) (at (from + i * w + j)) (at (from + i * w + j + 1)) (p.first j l) (ap at (right i j))
      ∙ sym (half_among (rows_of s from w) (2 * i + 0) (2 * j + 1) (even i) (even_up i) (odd j) (odd_up j))
    where
      two : (m c d : ℕ) {o : ℕ} → m ≡ c + d → d ≡ o → (m + m + 2) / 4 ≡ (c + o + c + o + 2) / 4
      two m c d x u = omega arith

  -- between it and the next row
  pub row_down : (i j : ℕ) → (get_or s (from + i * w + j) 0 + get_or s (from + (i + 1) * w + j) 0 + 1) / 2 ≡ half_sample (rows_of s from w) (2 * i + 1) (2 * j + 0)
  row_down i j = sym (half_down (rows_of s from w) (2 * i + 1) (2 * j + 0) (odd i) (odd_up i) (even j) (even_up j))

  -- among four samples each
  pub row_both : (i : ℕ) {next : ℕ} {a b : List ℕ} → next ≡ from + (i + 1) * w → Sums s (from + i * w) a → Sums s next b
      → (j : ℕ) → j < 8 → (get_or a j 0 + get_or b j 0 + 2) / 4 ≡ half_sample (rows_of s from w) (2 * i + 1) (2 * j + 1)
  unfolding at
  row_both i {next} {a} {b} e p q j l =
      four (get_or a j 0) (get_or b j 0) (at (from + i * w + j)) (at (from + i * w + j + 1)) (at (next + j)) (at (next + j + 1)) (p.first j l) (q.first j l) (ap at (right i j)) (ap at below) (ap at beyond)
      ∙ sym (half_among (rows_of s from w) (2 * i + 1) (2 * j + 1) (odd i) (odd_up i) (odd j) (odd_up j))
    where
      below : next + j ≡ from + (i + 1) * w + j
      below = omega arith

      beyond : next + j + 1 ≡ from + (i + 1) * w + (j + 1)
      beyond = omega arith

      four : (m n c d e f : ℕ) {o g h : ℕ} → m ≡ c + d → n ≡ e + f → d ≡ o → e ≡ g → f ≡ h → (m + n + 2) / 4 ≡ (c + o + g + h + 2) / 4
      four m n c d e f x y u v z = omega arith

  -- ---- what is put: the block that begins half a sample to the right and below, in each case
  abbrev PutHalves : ℕ → List ℕ → List ℕ → ℕ → ℕ → Type 0
  PutHalves to t u right down = Put 8 8 to w (λ i j. half_sample (rows_of s from w) (2 * i + down) (2 * j + right)) t u

  pub put_whole : {to : ℕ} {t u : List ℕ} → Put 8 8 to w (rows_of s from w) t u → PutHalves to t u 0 0
  put_whole h = put_as (λ i j l m. sym (half_whole (rows_of s from w) (2 * i + 0) (2 * j + 0) (even i) (even_up i) (even j) (even_up j))) h

  pub put_case : {to right down r d : ℕ} {t u : List ℕ} → right ≡ r → down ≡ d → PutHalves to t u r d → PutHalves to t u right down
  put_case {to} {t = t} {u = u} er ed h = coe 0 1 (i. PutHalves to t u (sym er i) (sym ed i)) h

-- ---- what each case asks for
module _ {from to w right down n m : ℕ} (h : Halves from to w right down n m) where
  pub room_here : Room 8 8 from w n
  room_here i l = omega (arith, h.source i (omega arith))

  pub halves_case : {r d : ℕ} → right ≡ r → down ≡ d → Halves from to w r d n m
  halves_case er ed = coe 0 1 (i. Halves from to w (er i) (ed i) n m) h
