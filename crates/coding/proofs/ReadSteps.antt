-- Reading in scratch and copying on acceptance, on plain values. Assumes nothing.
use Rattle.std.specs.Prelude.{Result, Ok, Err}
use Rattle.refusals.specs.declared.Refusal.{Refusal}
use mathlib.Core.Path.{◌≡◌, refl, sym, ap, ◌∙◌}
use mathlib.Core.Bool.{Bool, true, false}
use mathlib.Core.List.{List}
use Prim.Native.Nat.{ℕ}
use Rattle.laws.specs.Choice.{pick}
use Rattle.laws.proofs.Choice.{true-T}
use Rattle.refusals.specs.declared.Reason.TheVariants.{Length}
use Rattle.refusals.specs.Number.{refusal, number, read_table}
use Rattle.refusals.specs.Told.{Told, accepted, refused_by, refused, told_verdict, verdict_on, found_or}
use Rattle.refusals.proofs.Told.{told_apart}
use Rattle.layout.specs.Flat.{Flat, flat}
use Rattle.layout.specs.Valid.{has_lengths, Lengths}
use Rattle.layout.proofs.LaidOut.{has_lengths_lem}
use Rattle.coding.specs.declared.Kind.{Kind}
use Rattle.coding.specs.Kind.{shape_of, coding_of, reads_of}
use Rattle.coding.specs.Described.{read_of, read_count, ReadSays, ReadLeaves, ReadCounts}

-- ---- what the three buffers are in the end
module _ (v : Result (Unit {0}) Refusal) (x : Told Flat) (w : told_verdict v ≡ verdict_on x) where
  -- what the scratch holds, once it is copied
  pub accepted_buffers : v ≡ Ok tt → (scratch : Flat) {header fields coefficients : List ℕ} → flat header fields coefficients ≡ found_or scratch x
      → (before : Flat) {head macroblocks levels : List ℕ} → head ≡ header → macroblocks ≡ fields → levels ≡ coefficients → flat head macroblocks levels ≡ found_or before x
  accepted_buffers a scratch b before h m l = (λ i. flat (h i) (m i) (l i)) ∙ by x w b
    where
      by : {d : Flat} (x : Told Flat) → told_verdict v ≡ verdict_on x → d ≡ found_or scratch x → d ≡ found_or before x
      by (accepted d) w b = b
      by (refused_by numbers) w b = absurd (told_apart (sym (ap told_verdict a) ∙ w))

  pub refused_buffers : {why : Refusal} → v ≡ Err why → (before : Flat) → before ≡ found_or before x
  refused_buffers a before = by x w
    where
      by : (x : Told Flat) → told_verdict v ≡ verdict_on x → before ≡ found_or before x
      by (accepted d) w = absurd (told_apart (sym w ∙ ap told_verdict a))
      by (refused_by numbers) w = refl

-- ---- by the lengths
module _ (k : Kind) (bytes : List ℕ) (n : ℕ) (before : Flat) {o : Bool} (e : o ≡ has_lengths (shape_of k) before) where
  read_on : (b : Bool) → o ≡ b → read_of k bytes n before ≡ pick b ((coding_of k).read bytes n) (refused 1 0)
  unfolding read_of
  read_on b h = ap (λ (b : Bool). pick b ((coding_of k).read bytes n) (refused 1 0)) (sym e ∙ h)

  count_on : (b : Bool) → o ≡ b → read_count k bytes n before ≡ pick b (reads_of k bytes n) 0
  unfolding read_count
  count_on b h = ap (λ (b : Bool). pick b (reads_of k bytes n) 0) (sym e ∙ h)

  pub unfit : o ≡ false → (ReadSays k bytes n before (Err (refusal Length 0))) × ((ReadLeaves k bytes n before before) × (ReadCounts k bytes n before 0))
  unfolding number read_table
  unfit h = (sym (ap verdict_on (read_on false h)), (sym (ap (found_or before) (read_on false h)), sym (count_on false h)))

  module _ (h : o ≡ true) where
    pub lengths_are : Lengths (shape_of k) before
    lengths_are = has_lengths_lem (shape_of k) before (true-T _ (sym e ∙ h))

    pub fit : (v : Result (Unit {0}) Refusal) {after : Flat} {reads : ℕ} → told_verdict v ≡ verdict_on ((coding_of k).read bytes n) → after ≡ found_or before ((coding_of k).read bytes n) → reads ≡ reads_of k bytes n
        → (ReadSays k bytes n before v) × ((ReadLeaves k bytes n before after) × (ReadCounts k bytes n before reads))
    fit v w b c = (w ∙ sym (ap verdict_on (read_on true h)), (b ∙ sym (ap (found_or before) (read_on true h)), c ∙ sym (count_on true h)))
