-- A vector from its two words: of two differences that are the same modulo 64 the one that lands in -32..31, and the picture's edges. Assumes nothing.
use mathlib.Core.Path.{◌≡◌, refl, sym, ap, ◌∙◌}
use mathlib.Core.Bool.{Bool, true, false}
use mathlib.Core.List.{List}
use Prim.Native.Nat.{ℕ, suc, ◌+◌, ◌-◌, ◌*◌, ◌%◌, ◌≤◌, ◌<◌}
use native.Mathlib.Omega.{arith}
use borrow.Author.Tests.{lt-ltb, le-ltb}
use lib.Dec.{T, ltb}
use lib.IntN.{ℤ, pos, negsuc, neg_ℤ, nat_abs, sub_ℕ, ◌+ℤ◌, +ℤ_assoc, -ℤ-+ℤ_cancel}
use Rattle.laws.specs.Choice.{pick, opposite}
use Rattle.laws.proofs.Choice.{second_no}
use Rattle.laws.proofs.Integer.{sub_below, sub_above}
use Rattle.refusals.specs.declared.Reason.TheVariants.{VectorOut}
use Rattle.refusals.specs.Number.{refusal}
use Rattle.bits.specs.Bits.{Bit, bits_left}
use Rattle.bits.specs.Places.{counted, stop_in}
use Rattle.bits.specs.Read.{got, refused, fine, against, ReaderIn, ◌>>=◌, done}
use Rattle.bits.specs.Answer.{Placed}
use Rattle.bits.specs.declared.Place.{Place}
use Rattle.bits.specs.declared.Stopped.{Stopped}
use Rattle.bits.specs.Code.{word}
use Rattle.size.specs.declared.Size.{Size}
use Rattle.size.specs.Size.{width, height}
use Rattle.size.proofs.Grid.{width_is, height_is}
use Rattle.layout.specs.Value.{Vector}
use Rattle.fields.proofs.Row.{Row}
use Rattle.fields.proofs.Meaning.{judged_refused, judged_fine, judged_against, onward}
use Rattle.h263_words.specs.Tables.{mvd}
use Rattle.h263_words.proofs.WordReads.{mvd_reads}
use Rattle.h263_description.specs.Vector.{between, in_range, inside, row, column, in_picture}
use Rattle.h263_description.specs.Landing.{component_of, away_of, residue_of, wrapped_sum, Landed}
use Rattle.h263_description.proofs.Landing.{each_lands, component_range, residue_component, residue_low}
use Rattle.h263_description.proofs.Groups.{some_across, some_down}
use Rattle.h263_layers.specs.Answer.{vector_of}
use Rattle.h263_layers.specs.Vector.{pair_of, component, component_read, components_read, pointing, vector_read}
use Rattle.h263_layers.proofs.Layers.{component_reads}

-- ---- where a word lands
landed : (p n : ℕ) → p ≤ 63 → n < 64 → component (component_of p) (pair_of n) ≡ fine (component_of ((p + n + 32) % 64))
unfolding wrapped_sum
landed p n l m = go (in_range (component_of p +ℤ component_of n)) refl
  where
    lands : Landed (component_of p) n
    lands = each_lands (component_of p) n (component_range p (omega arith)) m

    same : component_of (wrapped_sum (residue_of (component_of p)) n) ≡ component_of (wrapped_sum p n)
    same = ap (λ (k : ℕ). component_of (wrapped_sum k n)) (residue_component p (omega arith))

    go : (b : Bool) → in_range (component_of p +ℤ component_of n) ≡ b
        → pick b (fine (component_of p +ℤ component_of n)) (pick (in_range (component_of p +ℤ away_of n)) (fine (component_of p +ℤ away_of n)) (against VectorOut)) ≡ fine (component_of (wrapped_sum p n))
    go true e = ap (λ (z : ℤ). fine z) (lands.printed e ∙ same)
    go false e =
        ap (λ (b : Bool). pick b (fine (component_of p +ℤ away_of n)) (against VectorOut)) (lands.other e).0
        ∙ ap (λ (z : ℤ). fine z) ((lands.other e).1 ∙ same)

module _ (p : ℕ) (bs : List Bit) (at : Place) where
  pub component-refused : (r : Stopped) → word {P = counted} mvd bs at ≡ refused r → refused r ≡ component_read {P = counted} (component_of p) bs at
  unfolding component_read
  component-refused r e = sym (judged_refused (word mvd) (λ n. component (component_of p) (pair_of n)) bs at r e)

  pub component_in : p ≤ 63 → (n : ℕ) (cs : List Bit) (q : Place) → word {P = counted} mvd bs at ≡ got n cs q → n < 64
      → got (component_of ((p + n + 32) % 64)) cs q ≡ component_read {P = counted} (component_of p) bs at
  unfolding component_read
  component_in l n cs q e m = sym (judged_fine (word mvd) (λ n. component (component_of p) (pair_of n)) bs at n cs q e (component_of ((p + n + 32) % 64)) (landed p n l m))

pub word_below : (s : List ℕ) (n : ℕ) (p : Place) (m : ℕ) (q : Place) → p.bit ≤ n → word {P = counted} mvd (bits_left s n p.bit) p ≡ got m (bits_left s n q.bit) q → m < 64
word_below s n p m q l e = (onward s n p m q mvd_reads l e).good

-- what is in range is kept as 0 to 63
pub component_low : (x : ℕ) → T (in_range (component_of x)) → x ≤ 63
component_low x t =
    let same : residue_of (component_of x) ≡ x = ap nat_abs (-ℤ-+ℤ_cancel (pos x) (pos 32)) in
    omega (arith, residue_low (component_of x) t, same)

pub component_kept : (s : List ℕ) (n : ℕ) (p : Place) (predicted : ℤ) (x : ℕ) (q : Place) → p.bit ≤ n
    → component_read {P = counted} predicted (bits_left s n p.bit) p ≡ got (component_of x) (bits_left s n q.bit) q → x ≤ 63
component_kept s n p predicted x q l e = component_low x (onward s n p (component_of x) q (component_reads predicted) l e).good

-- ---- the picture's edges: twice the first sample's place and what is kept, which is 32 more than where the first half sample lies
moved_sum : (a h : ℕ) → pos a +ℤ component_of h ≡ sub_ℕ (a + h) 32
moved_sum a h = sym (+ℤ_assoc (pos a) (pos h) (negsuc 31))

module _ (end from h : ℕ) where
  abbrev judged : ℤ → Bool
  judged z = between (pos 0) (pos (2 * (end - 16))) z

  before_edge : from * 2 + h < 32 → inside end from (component_of h) ≡ false
  before_edge l =
      let short : 2 * from + h < 32 = omega arith in
      let some : 32 - (2 * from + h) ≡ suc (31 - (2 * from + h)) = omega arith in
      ap judged (moved_sum (2 * from) h ∙ sub_above (2 * from + h) 32 short ∙ ap (λ (k : ℕ). neg_ℤ (pos k)) some)

  module _ (l : 32 ≤ from * 2 + h) where
    moved_on : inside end from (component_of h) ≡ judged (pos (2 * from + h - 32))
    moved_on = ap judged (moved_sum (2 * from) h ∙ sub_below (2 * from + h) 32 (omega arith))

    past_edge : 16 ≤ end → end * 2 < from * 2 + h → inside end from (component_of h) ≡ false
    past_edge some m = moved_on ∙ rw (lt-ltb (2 * (end - 16)) (2 * from + h - 32) (omega arith)) (second_no (opposite (ltb (2 * from + h - 32) 0)) false refl)

    between_edges : from * 2 + h ≤ end * 2 → inside end from (component_of h) ≡ true
    between_edges m = moved_on ∙ rw (le-ltb (2 * from + h - 32) 0 (omega arith), le-ltb (2 * (end - 16)) (2 * from + h - 32) (omega arith))

-- ---- both components
abbrev pub after_first : Vector → ℤ → ReaderIn counted Vector
after_first predicted h = component_read predicted.vertical >>= λ v. done (record { horizontal = h; vertical = v })

pub components_begun : (predicted : Vector) (s : List ℕ) (n : ℕ) (p : Place) → Placed s n p
    → Row (components_read predicted (bits_left s n p.bit) p) s n (component_read predicted.horizontal >>= after_first predicted) p
unfolding components_read
components_begun predicted s n p w = record { placed = w; same = refl }

module _ (size : Size) (number address : ℕ) (predicted : Vector) (bs : List Bit) (at : Place) where
  pub vector_refused : (r : Stopped) → refused r ≡ components_read {P = counted} predicted bs at → refused r ≡ vector_read {P = counted} size number address predicted bs at
  unfolding vector_read
  vector_refused r e = sym (judged_refused (components_read predicted) (pointing size number address) bs at r (sym e))

-- both were got
pub record BothRead (predicted : Vector) (s : List ℕ) (n : ℕ) (at : Place) (h v : ℕ) (q : Place) : Type 0 where
  pub both : got (vector_of h v) (bits_left s n q.bit) q ≡ components_read {P = counted} predicted (bits_left s n at.bit) at
  pub horizontally : h ≤ 63
  pub vertically : v ≤ 63

module _ (size : Size) (number address : ℕ) {predicted : Vector} {s : List ℕ} {n : ℕ} {at : Place} {h v : ℕ} {q : Place} (b : BothRead predicted s n at h v q) where
  judged_so : (yes : Bool) → in_picture size number address (vector_of h v) ≡ yes
      → vector_read {P = counted} size number address predicted (bits_left s n at.bit) at
      ≡ pick yes (got (vector_of h v) (bits_left s n q.bit) q) (refused (stop_in counted (refusal VectorOut at.bit) q))
  unfolding vector_read
  judged_so true i =
      judged_fine (components_read predicted) (pointing size number address) (bits_left s n at.bit) at (vector_of h v) (bits_left s n q.bit) q (sym b.both) (vector_of h v) (rw i)
  judged_so false i =
      judged_against (components_read predicted) (pointing size number address) (bits_left s n at.bit) at (vector_of h v) (bits_left s n q.bit) q (sym b.both) VectorOut (rw i)

  abbrev Out : Type 0
  Out = refused (stop_in counted (refusal VectorOut at.bit) q) ≡ vector_read {P = counted} size number address predicted (bits_left s n at.bit) at

  not_across : inside (width size) (column address) (component_of h) ≡ false → Out
  not_across e = sym (judged_so false (rw e))

  not_down : inside (height size) (row number) (component_of v) ≡ false → Out
  not_down e = sym (judged_so false (second_no (inside (width size) (column address) (component_of h)) (inside (height size) (row number) (component_of v)) e))

  wide-some : 16 ≤ width size
  wide-some = omega (arith, width_is size, some_across size)

  high_some : 16 ≤ height size
  high_some = omega (arith, height_is size, some_down size)

  pub vector_left : (address - 1) * 32 + h < 32 → Out
  vector_left l = not_across (before_edge (width size) (column address) h (omega arith))

  pub vector_right : 32 ≤ (address - 1) * 32 + h → width size * 2 < (address - 1) * 32 + h → Out
  vector_right l m = not_across (past_edge (width size) (column address) h (omega arith) wide-some (omega arith))

  pub vector_above : number * 32 + v < 32 → Out
  vector_above l = not_down (before_edge (height size) (row number) v (omega arith))

  pub vector_below : 32 ≤ number * 32 + v → height size * 2 < number * 32 + v → Out
  vector_below l m = not_down (past_edge (height size) (row number) v (omega arith) high_some (omega arith))

  pub vector_inside : 32 ≤ (address - 1) * 32 + h → (address - 1) * 32 + h ≤ width size * 2 → 32 ≤ number * 32 + v → number * 32 + v ≤ height size * 2
      → got (vector_of h v) (bits_left s n q.bit) q ≡ vector_read {P = counted} size number address predicted (bits_left s n at.bit) at
  vector_inside l m c w =
      sym (judged_so true (rw (between_edges (width size) (column address) h (omega arith) (omega arith), between_edges (height size) (row number) v (omega arith) (omega arith))))
