-- The store that bits give over a reference, and the TR of its picture. Assumes nothing.
use Rattle.std.specs.Prelude.{ℕ, ◌≡◌, Bool, true, List, eqb, length, Option, Some, None, Result, Ok, Err}
use Rattle.laws.specs.Choice.{pick, both, alike}
use Rattle.refusals.specs.declared.Refusal.{Refusal}
use Rattle.size.specs.Size.{store_length}
use Rattle.refusals.specs.Told.{numbers_of, Told, accepted, refused_by, refused, told_verdict, verdict_on, found_or}
use Rattle.layout.specs.Flat.{Flat, flat, zeros}
use Rattle.coding.specs.declared.Kind.{Kind}
use Rattle.coding.specs.Coding.{Coding}
use Rattle.coding.specs.Kind.{kind_size, shape_of, coding_of}

-- ---- a picture that is drawn, told by its TR; nothing of the answer is lost by that
abbrev pub told_drawn : Result ℕ Refusal → Told ℕ
told_drawn (Ok tr) = accepted tr
told_drawn (Err why) = refused_by (numbers_of why)

abbrev pub DrawnToldOnce : Type 0
DrawnToldOnce = (a b : Result ℕ Refusal) → told_drawn a ≡ told_drawn b → a ≡ b

-- "The mark stands exactly on those": a picture's mark is that of its description; without one nothing is judged
abbrev pub true_mark : {D : Type 0} → Coding D → Option Bool → D → Bool
true_mark c None d = true
true_mark c (Some marked) d = alike (c.refresh d) marked

-- refusal 24: "accepted picture, untrue refresh mark"
abbrev pub judged_mark : {D : Type 0} → Coding D → Option Bool → Told D → Told D
judged_mark c mark (accepted d) = pick (true_mark c mark d) (accepted d) (refused 24 0)
judged_mark c mark (refused_by numbers) = refused_by numbers

-- TR of what is found
abbrev pub tr_by : {D : Type 0} → Coding D → Told D → Told ℕ
tr_by c (accepted d) = accepted (c.tr d)
tr_by c (refused_by numbers) = refused_by numbers

-- what is found, drawn over a reference
abbrev pub drawn_by : {D : Type 0} → Coding D → List ℕ → Told D → Told (List ℕ)
drawn_by c reference (accepted d) = accepted (c.render d reference)
drawn_by c reference (refused_by numbers) = refused_by numbers

-- the verdict of the rules and, on acceptance, every sample
unfoldable pub drawn_store : Kind → List ℕ → ℕ → List ℕ → Told (List ℕ)
drawn_store k bytes n reference = drawn_by (coding_of k) reference ((coding_of k).read bytes n)

-- ---- a picture that came with a mark: read, then the mark judged, then drawn
abbrev pub marked_read : Kind → Option Bool → List ℕ → ℕ → Told Flat
marked_read k mark bytes n = judged_mark (coding_of k) mark ((coding_of k).read bytes n)

unfoldable pub marked_tr : Kind → Option Bool → List ℕ → ℕ → Told ℕ
marked_tr k mark bytes n = tr_by (coding_of k) (marked_read k mark bytes n)

unfoldable pub marked_store : Kind → Option Bool → List ℕ → ℕ → List ℕ → Told (List ℕ)
marked_store k mark bytes n reference = drawn_by (coding_of k) reference (marked_read k mark bytes n)

-- refusal 1: "a lent buffer hasn't its named length"
unfoldable pub decoded : Kind → List ℕ → ℕ → List ℕ → ℕ → Told (List ℕ)
decoded k bytes n reference size =
    pick (both (eqb (length reference) (store_length (kind_size k))) (eqb size (store_length (kind_size k)))) (drawn_store k bytes n reference) (refused 1 0)

-- ---- what `decode` promises
-- of its answer, and of the store that it leaves: "no sample store changes by" a refusal
abbrev pub DecodeSays : Kind → List ℕ → ℕ → List ℕ → List ℕ → Result (Unit {0}) Refusal → Type 0
DecodeSays k bytes n reference store verdict = told_verdict verdict ≡ verdict_on (decoded k bytes n reference (length store))

abbrev pub DecodeLeaves : Kind → List ℕ → ℕ → List ℕ → List ℕ → List ℕ → Type 0
DecodeLeaves k bytes n reference store left = left ≡ found_or store (decoded k bytes n reference (length store))

-- ---- what is known on the way: two stores of their named length
pub record Drawing (k : Kind) (reference store : List ℕ) : Type 0 where
  pub reference_long : length reference ≡ store_length (kind_size k)
  pub store_long : length store ≡ store_length (kind_size k)

-- and scratch for the description
pub record Decodable (k : Kind) (head macroblocks levels reference store : List ℕ) : Type 0 where
  pub blank : flat head macroblocks levels ≡ zeros (shape_of k)
  pub drawing : Drawing k reference store
