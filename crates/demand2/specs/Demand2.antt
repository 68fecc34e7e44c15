-- Demand 2 as predicates over any decoder and any writer, their meanings as functions on values: ours meet them, and the wrong programs that document 01 names
-- under "What the promises decide" do not. Document 02, T-04: "Demands 2 and 3 then read for a clip of either standard, fixed at opening." Assumes nothing.
use Rattle.std.specs.Prelude.{ℕ, ◌≤◌, ◌<◌, ◌≡◌, true, false, List, [], length}
use Rattle.refusals.specs.Told.{Numbers, Told, accepted, refused_by, refused}
use Rattle.bits.specs.Bits.{Bit}
use Rattle.bits.specs.Read.{got}
use Rattle.size.specs.Size.{limit, store_length, output_length}
use Rattle.layout.specs.Flat.{Flat}
use Rattle.coding.specs.declared.Kind.{Kind}
use Rattle.coding.specs.Kind.{kind_size, coding_of, described_by}
use Rattle.coding.specs.Described.{write_lengths, write_of, output_of}
use Rattle.decoder.specs.Decoded.{decoded}

-- ---- a decoder: the first N bits of bytes and a reference store to a store, or a refusal
abbrev pub Decoder : Type 0
Decoder = Kind → List ℕ → ℕ → List ℕ → Told (List ℕ)

-- what `decode`'s promise says, for stores of their length
abbrev pub decode : Decoder
decode k bytes n reference = decoded k bytes n reference (store_length (kind_size k))

-- "follows H.261 as document 01 fixes it", or H.263 by T-04: the grammar of the kind that was opened reads it, as this description
pub record Follows (k : Kind) (bytes : List ℕ) (n : ℕ) : Type 0 where
  pub description : Flat
  pub left : List Bit
  pub at : ℕ
  pub reads : described_by k bytes n ≡ got description left at

pub record Accepts (x : Told (List ℕ)) : Type 0 where
  pub store : List ℕ
  pub is : x ≡ accepted store

-- "A picture is accepted exactly when it follows H.261 as document 01 fixes it"
pub record AcceptedExactly (d : Decoder) : Type 0 where
  pub then : (k : Kind) (bytes : List ℕ) (n : ℕ) (reference : List ℕ) → length reference ≡ store_length (kind_size k) → Follows k bytes n → Accepts (d k bytes n reference)
  pub only : (k : Kind) (bytes : List ℕ) (n : ℕ) (reference : List ℕ) → length reference ≡ store_length (kind_size k) → Accepts (d k bytes n reference) → Follows k bytes n

-- "and then every sample is the one the rules give"
pub record EverySample (d : Decoder) : Type 0 where
  pub samples : (k : Kind) (bytes : List ℕ) (n : ℕ) (reference store : List ℕ) (follows : Follows k bytes n) → length reference ≡ store_length (kind_size k)
      → d k bytes n reference ≡ accepted store → store ≡ (coding_of k).render follows.description reference

abbrev pub DecodeExactly : Type 0
DecodeExactly = AcceptedExactly decode

abbrev pub DecodeSamples : Type 0
DecodeSamples = EverySample decode

-- ---- a writer: a description and what the output holds before, to the answer and what it holds after
pub record Output : Type 0 where
  pub answer : Told ℕ
  pub output : List ℕ

abbrev pub Writer : Type 0
Writer = Kind → Flat → List ℕ → Output

-- what `write`'s promise says
abbrev pub write : Writer
write k d out = record { answer = write_of k d (length out); output = output_of k d out }

-- "What our writer writes for a valid description is read back as that description"; "reading back takes exactly N bits"
pub record ReadsBack (w : Writer) : Type 0 where
  pub back : (k : Kind) (d : Flat) (out : List ℕ) (n : ℕ) → (coding_of k).valid d ≡ true → length out ≡ output_length (kind_size k) → (w k d out).answer ≡ accepted n → described_by k (w k d out).output n ≡ got d [] n

-- "31 and 32, given exactly then", and 1 before them
pub record RefusedExactly (w : Writer) : Type 0 where
  pub unnamed : (k : Kind) (d : Flat) (out : List ℕ) → write_lengths k d (length out) ≡ false → (w k d out).answer ≡ refused 1 0
  pub invalid : (k : Kind) (d : Flat) (out : List ℕ) → write_lengths k d (length out) ≡ true → (coding_of k).valid d ≡ false → (w k d out).answer ≡ refused 31 0
  pub above : (k : Kind) (d : Flat) (out : List ℕ) → write_lengths k d (length out) ≡ true → (coding_of k).valid d ≡ true → limit (kind_size k) < length ((coding_of k).written d) → (w k d out).answer ≡ refused 32 0
  pub else : (k : Kind) (d : Flat) (out : List ℕ) (numbers : Numbers) → (coding_of k).valid d ≡ true → length ((coding_of k).written d) ≤ limit (kind_size k) → length out ≡ output_length (kind_size k) → (w k d out).answer ≡ refused_by numbers → ⊥

abbrev pub WriteBack : Type 0
WriteBack = ReadsBack write

abbrev pub WriteRefused : Type 0
WriteRefused = RefusedExactly write

-- ---- wrong: a writer that answers 31 for a wrong length, once, whatever else it does
abbrev pub LengthAsInvalidWrong : Type 0
LengthAsInvalidWrong = (w : Writer) (k : Kind) (d : Flat) (out : List ℕ) → write_lengths k d (length out) ≡ false → (w k d out).answer ≡ refused 31 0 → RefusedExactly w → ⊥
