-- What reading a picture comes to: N judged, and the answer, the buffers and the number of reads by what was read in counted places. Assumes nothing.
use Rattle.std.specs.Prelude.{Ok}
use mathlib.Core.Path.{◌≡◌, refl, sym, ap, subst, ◌∙◌}
use mathlib.Core.Bool.{Bool, true, false}
use mathlib.Core.List.{List}
use Prim.Native.Nat.{ℕ, ◌+◌, ◌*◌, ◌/◌, ◌%◌, ◌≤◌, ◌<◌}
use native.Mathlib.Omega.{arith}
use borrow.Author.Tests.{lt-ltb, le-ltb, ltb-false}
use lib.Dec.{T, ltb}
use Rattle.laws.specs.Choice.{either}
use Rattle.refusals.specs.Told.{told_verdict, verdict_on, found_or}
use Rattle.bits.specs.Bits.{bits_left}
use Rattle.bits.specs.Places.{counted}
use Rattle.bits.specs.Read.{ReadIn, Read, got, refused}
use Rattle.bits.specs.declared.Place.{Place}
use Rattle.bits.specs.declared.Stopped.{Stopped}
use Rattle.fields.specs.Answer.{found, leaving, refused_picture}
use Rattle.fields.specs.declared.PictureRead.{PictureRead}
use Rattle.fields.specs.declared.CountedRead.{CountedRead}
use Rattle.fields.specs.declared.CountedRead.TheVariants.{Got}
use Rattle.fields.proofs.Told.{is_place}
use Rattle.fields.proofs.Uncounted.{uncounted, count_in}

-- ---- N
module _ (len n limit : ℕ) where
  pub above_slice : len < n / 8 + (n % 8 + 7) / 8 → true ≡ either (ltb (8 * len) n) (ltb limit n)
  above_slice l = rw (lt-ltb (8 * len) n (omega arith))

  pub above_limit : n / 8 + (n % 8 + 7) / 8 ≤ len → ltb limit n ≡ either (ltb (8 * len) n) (ltb limit n)
  above_limit l = rw (le-ltb (8 * len) n (omega arith))

no_either : (a b : Bool) → either a b ≡ false → (a ≡ false) × (b ≡ false)
no_either true b e = absurd (subst (λ (x : Bool). T x) e tt)
no_either false b e = (refl, e)

-- the bytes have N bits, and N is low
pub not_above : (len n limit : ℕ) → either (ltb (8 * len) n) (ltb limit n) ≡ false → (n ≤ 8 * len) × (n ≤ limit)
not_above len n limit e = let h = no_either (ltb (8 * len) n) (ltb limit n) e in (ltb-false (8 * len) n h.0, ltb-false limit n h.1)

-- by the limit as the code has it
pub above_by : {a : Bool} (len n : ℕ) {k limit : ℕ} → a ≡ either (ltb (8 * len) n) (ltb k n) → k ≡ limit → a ≡ either (ltb (8 * len) n) (ltb limit n)
above_by len n w e = w ∙ ap (λ (m : ℕ). either (ltb (8 * len) n) (ltb m n)) e

-- ---- the answer, and what is left where z stands on a refusal: of what was read in counted places they are so of what the rules give
abbrev pub Answers : {A : Type 0} → A → Read A → ℕ → PictureRead → A → Type 0
Answers z y reads r d = (told_verdict r.verdict ≡ verdict_on (found y)) × ((d ≡ found_or z (found y)) × (r.reads ≡ reads))

module _ {A : Type 0} (z : A) {x : ReadIn counted A} {y : Read A} {k : ℕ} (is : uncounted x ≡ y) (count : count_in x ≡ k) where
  answers : (r : PictureRead) (d : A) (w : ReadIn counted A) → w ≡ x → told_verdict r.verdict ≡ verdict_on (found (uncounted w)) → d ≡ found_or z (found (uncounted w)) → r.reads ≡ count_in w → Answers z y k r d
  answers r d w e v b c =
      let same : uncounted w ≡ y = ap (λ (u : ReadIn counted A). uncounted u) e ∙ is in
      (v ∙ ap (λ (u : Read A). verdict_on (found u)) same, (b ∙ ap (λ (u : Read A). found_or z (found u)) same, c ∙ ap (λ (u : ReadIn counted A). count_in u) e ∙ count))

  pub answers-refused : {w : Stopped} {r : PictureRead} {d : A} → x ≡ refused w → r ≡ refused_picture w → d ≡ z → Answers z y k r d
  answers-refused {w} {r} {d} e told left = answers r d (refused w) (sym e) (ap (λ (u : PictureRead). told_verdict u.verdict) told) left (ap (λ (u : PictureRead). u.reads) told)

  pub answers_laid : (s : List ℕ) (n : ℕ) (r : CountedRead (Unit {0})) (d : A) → leaving s n r d ≡ x → (p : Place) → r ≡ Got tt p → Answers z y k (record { verdict = Ok tt; reads = p.reads }) d
  answers_laid s n r d v p e = answers (record { verdict = Ok tt; reads = p.reads }) d (got d (bits_left s n p.bit) p) (sym (is_place s n d r p v e)) refl refl refl
