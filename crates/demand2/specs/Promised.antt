-- Whatever keeps what `decode` and `write` promise meets demand 2. Assumes nothing.
use Rattle.std.specs.Prelude.{ℕ, ◌≡◌, List, length, Result}
use Rattle.refusals.specs.declared.Refusal.{Refusal}
use Rattle.refusals.specs.Told.{Told, accepted, refused_by, told_verdict}
use Rattle.size.specs.Size.{store_length}
use Rattle.layout.specs.Flat.{Flat}
use Rattle.coding.specs.declared.Kind.{Kind}
use Rattle.coding.specs.Kind.{kind_size}
use Rattle.coding.specs.Described.{WriteSays, WriteLeaves}
use Rattle.decoder.specs.Decoded.{DecodeSays, DecodeLeaves}
use Rattle.refusals.specs.Writing.{told_written}
use Rattle.demand2.specs.Demand2.{Decoder, AcceptedExactly, EverySample, Writer, ReadsBack, RefusedExactly}

-- ---- a program that decodes: what it answers, and what it leaves in the store that it was lent
pub record Decoding : Type 0 where
  pub verdict : Result (Unit {0}) Refusal
  pub left : List ℕ

-- the bytes, N, the reference, and what the store holds before
abbrev pub DecodeProgram : Type 0
DecodeProgram = Kind → List ℕ → ℕ → List ℕ → List ℕ → Decoding

-- it keeps the promise of `decode`, on every input
pub record KeepsDecode (p : DecodeProgram) : Type 0 where
  pub says : (k : Kind) (bytes : List ℕ) (n : ℕ) (reference store : List ℕ) → DecodeSays k bytes n reference store (p k bytes n reference store).verdict
  pub leaves : (k : Kind) (bytes : List ℕ) (n : ℕ) (reference store : List ℕ) → DecodeLeaves k bytes n reference store (p k bytes n reference store).left

-- an accepted picture is the store that was left
abbrev pub decoded_as : Told (Unit {0}) → List ℕ → Told (List ℕ)
decoded_as (accepted t) left = accepted left
decoded_as (refused_by numbers) left = refused_by numbers

-- the decoder that it is, with stores that hold this before
abbrev pub decoder_of : DecodeProgram → (Kind → List ℕ) → Decoder
decoder_of p before k bytes n reference = decoded_as (told_verdict (p k bytes n reference (before k)).verdict) (p k bytes n reference (before k)).left

pub record DecoderMeets (d : Decoder) : Type 0 where
  pub exactly : AcceptedExactly d
  pub samples : EverySample d

-- into stores of their named length, whatever they hold
abbrev pub DecodePromised : Type 0
DecodePromised = (p : DecodeProgram) → KeepsDecode p → (before : Kind → List ℕ) → ((k : Kind) → length (before k) ≡ store_length (kind_size k)) → DecoderMeets (decoder_of p before)

-- ---- a program that writes: what it answers, and what it leaves in the output
pub record Writing : Type 0 where
  pub answer : Result ℕ Refusal
  pub left : List ℕ

abbrev pub WriteProgram : Type 0
WriteProgram = Kind → Flat → List ℕ → Writing

-- it keeps the promise of `write`, on every input
pub record KeepsWrite (p : WriteProgram) : Type 0 where
  pub says : (k : Kind) (d : Flat) (out : List ℕ) → WriteSays k d out (p k d out).answer
  pub leaves : (k : Kind) (d : Flat) (out : List ℕ) → WriteLeaves k d out (p k d out).left

-- the writer that it is
abbrev pub writer_of : WriteProgram → Writer
writer_of p k d out = record { answer = told_written (p k d out).answer; output = (p k d out).left }

pub record WriterMeets (w : Writer) : Type 0 where
  pub back : ReadsBack w
  pub refused : RefusedExactly w

abbrev pub WritePromised : Type 0
WritePromised = (p : WriteProgram) → KeepsWrite p → WriterMeets (writer_of p)
