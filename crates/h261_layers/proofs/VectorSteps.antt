-- A vector from its pairs: of two differences that are the same modulo 32 the one that lands in -15..15, and the picture's edges. Assumes nothing.
use mathlib.Core.Path.{◌≡◌, refl, sym, ap, ◌∙◌}
use mathlib.Core.Bool.{Bool, true, false, cond}
use mathlib.Core.List.{List}
use Prim.Native.Nat.{ℕ, zero, suc, ◌+◌, ◌-◌, ◌%◌, ◌≤◌, ◌<◌}
use native.Mathlib.Omega.{arith}
use borrow.Author.Tests.{eq-eqb, ne_eqb, le-leb, lt-leb, ltb-true, ltb-false}
use lib.Dec.{T, eqb, leb, ltb, eqb→eq, ltb→lt, leb→le}
use lib.IntN.{ℤ, pos, negsuc, nat_abs, ◌+ℤ◌}
use Rattle.laws.specs.Choice.{pick, both, opposite}
use Rattle.laws.proofs.Choice.{both_left, both_right, second_no}
use Rattle.laws.specs.Table.{all_b, eq_z}
use Rattle.laws.proofs.Table.{all_at, eq_z_yes}
use Rattle.refusals.specs.declared.Reason.TheVariants.{VectorOut}
use Rattle.refusals.specs.Number.{refusal}
use Rattle.bits.specs.Bits.{Bit, bits_left}
use Rattle.bits.specs.Places.{counted, stop_in}
use Rattle.bits.specs.Read.{got, refused, fine, against, ReaderIn, ◌>>=◌, done}
use Rattle.bits.specs.Answer.{Placed}
use Rattle.bits.specs.declared.Place.{Place}
use Rattle.bits.specs.declared.Stopped.{Stopped}
use Rattle.bits.specs.Code.{word}
use Rattle.bits.proofs.Codes.{each}
use Rattle.bits.proofs.Logic.{Reads, reads_word}
use Rattle.h261_words.specs.Tables.{table3}
use Rattle.size.specs.Size.{width, height}
use Rattle.h261_groups.specs.Format.{column, row, size_of}
use Rattle.h261_groups.specs.declared.Format.{Format}
use Rattle.layout.specs.Value.{Vector}
use Rattle.h261_description.specs.Vector.{in_range, ahead, back, inside, in_picture}
use Rattle.h261_layers.specs.Answer.{Kept, KeptVector, component_of, vector_of}
use Rattle.h261_layers.specs.Vector.{pair_of, component, component_read, components_read, pointing, vector_read}
use Rattle.fields.proofs.Row.{Row}
use Rattle.fields.proofs.Meaning.{judged_refused, judged_fine, judged_against, onward}
use Rattle.h261_layers.proofs.Layers.{component_reads}

-- ---- where a pair lands: one test over all preceding components and all pairs
abbrev lands : ℤ → ℤ → ℕ → Bool
lands a b k = pick (in_range a) (both (opposite (eqb k 0)) (eq_z a (component_of k))) (pick (in_range b) (both (opposite (eqb k 0)) (eq_z b (component_of k))) (eqb k 0))

abbrev right : ℕ → ℕ → Bool
right p n = lands (component_of (suc p) +ℤ (pair_of n).printed) (component_of (suc p) +ℤ (pair_of n).other) ((suc p + n + 16) % 32)

all_right : T (all_b 31 (λ p. all_b 32 (λ n. right p n)))
all_right = tt

from_test : (x y : Bool) (a b : ℤ) (k : ℕ) (z : Bool) → eqb k 0 ≡ z → T (pick x (both (opposite z) (eq_z a (component_of k))) (pick y (both (opposite z) (eq_z b (component_of k))) z))
    → pick x (fine a) (pick y (fine b) (against VectorOut)) ≡ pick z (against VectorOut) (fine (component_of k))
from_test true y a b k true e t = absurd t
from_test true y a b k false e t = ap (λ (w : ℤ). fine w) (eq_z_yes a (component_of k) t)
from_test false true a b k true e t = absurd t
from_test false true a b k false e t = ap (λ (w : ℤ). fine w) (eq_z_yes b (component_of k) t)
from_test false false a b k true e t = refl
from_test false false a b k false e t = absurd t

landed : (p n : ℕ) → Kept p → n < 32 → component (component_of p) (pair_of n) ≡ pick (eqb ((p + n + 16) % 32) 0) (against VectorOut) (fine (component_of ((p + n + 16) % 32)))
landed zero n h l = absurd (omega (arith, h.low))
landed (suc p) n h l =
    let a = component_of (suc p) +ℤ (pair_of n).printed in
    let b = component_of (suc p) +ℤ (pair_of n).other in
    let k = (suc p + n + 16) % 32 in
    let t = all_at 32 (λ n. right p n) (all_at 31 (λ p. all_b 32 (λ n. right p n)) all_right p (omega (arith, h.high))) n l in
    from_test (in_range a) (in_range b) a b k (eqb k 0) refl t

table3_below : T (each (λ m. ltb m 32) table3.entries)
unfolding table3
table3_below = tt

pub pair_reads : {bound : ℕ} → Reads bound 1 (λ m left. T (ltb m 32)) (λ P. word table3)
pair_reads = reads_word (λ m. ltb m 32) table3 table3_below

module _ (p : ℕ) (h : Kept p) (bs : List Bit) (at : Place) where
  pub component-refused : (r : Stopped) → word {P = counted} table3 bs at ≡ refused r → refused r ≡ component_read {P = counted} (component_of p) bs at
  unfolding component_read
  component-refused r e = sym (judged_refused (word table3) (λ n. component (component_of p) (pair_of n)) bs at r e)

  module _ (n : ℕ) (cs : List Bit) (q : Place) (e : word {P = counted} table3 bs at ≡ got n cs q) (l : n < 32) where
    pub component_out : (p + n + 16) % 32 ≡ 0 → refused (stop_in counted (refusal VectorOut at.bit) q) ≡ component_read {P = counted} (component_of p) bs at
    unfolding component_read
    component_out z = sym (judged_against (word table3) (λ n. component (component_of p) (pair_of n)) bs at n cs q e VectorOut (landed p n h l ∙ rw (eq-eqb ((p + n + 16) % 32) 0 z)))

    pub component_in : ((p + n + 16) % 32 ≡ 0 → ⊥) → got (component_of ((p + n + 16) % 32)) cs q ≡ component_read {P = counted} (component_of p) bs at
    unfolding component_read
    component_in z = sym (judged_fine (word table3) (λ n. component (component_of p) (pair_of n)) bs at n cs q e (component_of ((p + n + 16) % 32)) (landed p n h l ∙ rw (ne_eqb ((p + n + 16) % 32) 0 z)))

-- what is in range is kept as 1 to 31
pub kept_of : (x : ℕ) → T (in_range (component_of x)) → Kept x
kept_of x t = go (ltb x 16) refl t
  where
    go : (b : Bool) → ltb x 16 ≡ b → T (leb (nat_abs (cond b (negsuc (16 - suc x)) (pos (x - 16)))) 15) → Kept x
    go true e h = let l = ltb-true x 16 e in let m = leb→le (suc (16 - suc x)) 15 h in record { low = omega arith; high = omega arith }
    go false e h = let l = ltb-false x 16 e in let m = leb→le (x - 16) 15 h in record { low = omega arith; high = omega arith }

pub component_kept : (s : List ℕ) (n : ℕ) (p : Place) (before : ℤ) (x : ℕ) (q : Place) → p.bit ≤ n → component_read {P = counted} before (bits_left s n p.bit) p ≡ got (component_of x) (bits_left s n q.bit) q → Kept x
component_kept s n p before x q l e = kept_of x (onward s n p (component_of x) q (component_reads before) l e).good

pub pair_below : (s : List ℕ) (n : ℕ) (p : Place) (m : ℕ) (q : Place) → p.bit ≤ n → word {P = counted} table3 (bits_left s n p.bit) p ≡ got m (bits_left s n q.bit) q → m < 32
pair_below s n p m q l e = ltb→lt m 32 (onward s n p m q pair_reads l e).good

-- ---- the picture's edges, for components that are kept
abbrev moves : ℕ → Bool
moves h = both (eqb (ahead (component_of h)) (h - 16)) (eqb (back (component_of h)) (16 - h))

all_moves : T (all_b 32 moves)
all_moves = tt

ahead_is : (h : ℕ) → Kept h → ahead (component_of h) ≡ h - 16
ahead_is h k = eqb→eq (ahead (component_of h)) (h - 16) (both_left (eqb (ahead (component_of h)) (h - 16)) (eqb (back (component_of h)) (16 - h)) (all_at 32 moves all_moves h (omega (arith, k.high))))

back_is : (h : ℕ) → Kept h → back (component_of h) ≡ 16 - h
back_is h k = eqb→eq (back (component_of h)) (16 - h) (both_right (eqb (ahead (component_of h)) (h - 16)) (eqb (back (component_of h)) (16 - h)) (all_at 32 moves all_moves h (omega (arith, k.high))))

module _ (end from h : ℕ) (k : Kept h) where
  before_edge : from + h < 16 → inside end from (component_of h) ≡ false
  before_edge l = rw (ahead_is h k, back_is h k, lt-leb (16 - h) from (omega arith))

  past_edge : end < from + h → inside end from (component_of h) ≡ false
  past_edge l = rw (ahead_is h k, back_is h k, lt-leb (from + (h - 16) + 16) (end + (16 - h)) (omega arith)) (second_no (leb (16 - h) from) false refl)

  between : 16 ≤ from + h → from + h ≤ end → inside end from (component_of h) ≡ true
  between l m = rw (ahead_is h k, back_is h k, le-leb (16 - h) from (omega arith), le-leb (from + (h - 16) + 16) (end + (16 - h)) (omega arith))

-- ---- both components
abbrev pub after_first : Vector → ℤ → ReaderIn counted Vector
after_first before h = component_read before.vertical >>= λ v. done (record { horizontal = h; vertical = v })

pub components_begun : (before : Vector) (s : List ℕ) (n : ℕ) (p : Place) → Placed s n p
    → Row (components_read before (bits_left s n p.bit) p) s n (component_read before.horizontal >>= after_first before) p
unfolding components_read
components_begun before s n p w = record { placed = w; same = refl }

module _ (f : Format) (number address : ℕ) (before : Vector) (bs : List Bit) (at : Place) where
  pub vector_refused : (r : Stopped) → refused r ≡ components_read {P = counted} before bs at → refused r ≡ vector_read {P = counted} f number address before bs at
  unfolding vector_read
  vector_refused r e = sym (judged_refused (components_read before) (pointing f number address) bs at r (sym e))

-- both were got
pub record BothRead (before : Vector) (s : List ℕ) (n : ℕ) (at : Place) (h v : ℕ) (q : Place) : Type 0 where
  pub both : got (vector_of h v) (bits_left s n q.bit) q ≡ components_read {P = counted} before (bits_left s n at.bit) at
  pub kept : KeptVector h v

module _ (f : Format) (number address : ℕ) {before : Vector} {s : List ℕ} {n : ℕ} {at : Place} {h v : ℕ} {q : Place} (b : BothRead before s n at h v q) where
  judged_so : (yes : Bool) → in_picture f number address (vector_of h v) ≡ yes
      → vector_read {P = counted} f number address before (bits_left s n at.bit) at ≡ pick yes (got (vector_of h v) (bits_left s n q.bit) q) (refused (stop_in counted (refusal VectorOut at.bit) q))
  unfolding vector_read
  judged_so true i = judged_fine (components_read before) (pointing f number address) (bits_left s n at.bit) at (vector_of h v) (bits_left s n q.bit) q (sym b.both) (vector_of h v) (rw i)
  judged_so false i = judged_against (components_read before) (pointing f number address) (bits_left s n at.bit) at (vector_of h v) (bits_left s n q.bit) q (sym b.both) VectorOut (rw i)

  pub vector_left : column number address + h < 16 → refused (stop_in counted (refusal VectorOut at.bit) q) ≡ vector_read {P = counted} f number address before (bits_left s n at.bit) at
  vector_left l = sym (judged_so false (rw (before_edge (width (size_of f)) (column number address) h b.kept.horizontally l)))

  pub vector_right : width (size_of f) < column number address + h → refused (stop_in counted (refusal VectorOut at.bit) q) ≡ vector_read {P = counted} f number address before (bits_left s n at.bit) at
  vector_right l = sym (judged_so false (rw (past_edge (width (size_of f)) (column number address) h b.kept.horizontally l)))

  pub vector_above : row number address + v < 16 → refused (stop_in counted (refusal VectorOut at.bit) q) ≡ vector_read {P = counted} f number address before (bits_left s n at.bit) at
  vector_above l = sym (judged_so false (rw (before_edge (height (size_of f)) (row number address) v b.kept.vertically l) (second_no (inside (width (size_of f)) (column number address) (component_of h)) false refl)))

  pub vector_below : height (size_of f) < row number address + v → refused (stop_in counted (refusal VectorOut at.bit) q) ≡ vector_read {P = counted} f number address before (bits_left s n at.bit) at
  vector_below l = sym (judged_so false (rw (past_edge (height (size_of f)) (row number address) v b.kept.vertically l) (second_no (inside (width (size_of f)) (column number address) (component_of h)) false refl)))

  pub vector_inside : 16 ≤ column number address + h → column number address + h ≤ width (size_of f) → 16 ≤ row number address + v → row number address + v ≤ height (size_of f)
      → got (vector_of h v) (bits_left s n q.bit) q ≡ vector_read {P = counted} f number address before (bits_left s n at.bit) at
  vector_inside l m c w =
      sym (judged_so true (rw (between (width (size_of f)) (column number address) h b.kept.horizontally l m, between (height (size_of f)) (row number address) v b.kept.vertically c w)))
