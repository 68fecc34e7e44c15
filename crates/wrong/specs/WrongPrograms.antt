-- The wrong readers and writers that document 01 names, "What the promises decide", don't meet demand 2. Assumes nothing.
use Rattle.std.specs.Prelude.{ℕ, ◌≤◌, ◌≡◌, true, List, length}
use Rattle.refusals.specs.Told.{Numbers, accepted, refused_by}
use Rattle.h261_groups.specs.declared.Format.TheVariants.{Qcif}
use Rattle.size.specs.Size.{limit, output_length}
use Rattle.layout.specs.Flat.{Flat}
use Rattle.h261_description.specs.Value.{laid_picture}
use Rattle.coding.specs.declared.Kind.{Kind}
use Rattle.coding.specs.declared.Kind.TheVariants.{H261}
use Rattle.coding.specs.Kind.{kind_size, coding_of}
use Rattle.coding.specs.Described.{output_of}
use Rattle.sheet.specs.Sheet.{picture1}
use Rattle.instances.specs.Example.{blank}
use Rattle.demand2.specs.Demand2.{RefusedExactly, EverySample, AcceptedExactly, Writer, Follows, write, Decoder, ReadsBack}

-- ---- wrong: "a reader that refuses everything"
abbrev pub refusing : (Kind → List ℕ → ℕ → Numbers) → Decoder
refusing numbers k bytes n reference = refused_by (numbers k bytes n)

abbrev pub RefusingWrong : Type 0
RefusingWrong = (numbers : Kind → List ℕ → ℕ → Numbers) → AcceptedExactly (refusing numbers) → ⊥

-- ---- wrong: one that "returns one fixed picture": whatever it is asked, or for all that it rightly accepts
abbrev pub fixed : List ℕ → Decoder
fixed store k bytes n reference = accepted store

abbrev pub FixedWrong : Type 0
FixedWrong = (store : List ℕ) → AcceptedExactly (fixed store) → ⊥

-- the same store for every picture that follows the rules: the P1 picture over two references is two pictures
abbrev pub FixedSamplesWrong : Type 0
FixedSamplesWrong = (d : Decoder) (store : List ℕ) → ((k : Kind) (bytes : List ℕ) (n : ℕ) (reference : List ℕ) → Follows k bytes n → d k bytes n reference ≡ accepted store)
    → EverySample d → ⊥

-- ---- the P1 picture's description, and another with TR 2
abbrev pub first : Flat
first = laid_picture Qcif picture1

-- ---- wrong: "a writer that writes the P1 picture for all"
abbrev pub first_for_all : Writer
first_for_all k d out = write (H261 Qcif) first out

abbrev pub FirstForAllWrong : Type 0
FirstForAllWrong = ReadsBack first_for_all → ⊥

-- ---- wrong: one that "refuses all"
abbrev pub refusing_all : (Kind → Flat → Numbers) → Writer
refusing_all numbers k d out = record { answer = refused_by (numbers k d); output = out }

abbrev pub RefusingAllWrong : Type 0
RefusingAllWrong = (numbers : Kind → Flat → Numbers) → RefusedExactly (refusing_all numbers) → ⊥

-- ---- wrong: "a made-up N", whichever, shorter or longer: one that, for one valid description within the limit, leaves the right bytes in an output that was all 0 and answers another
-- number of bits
abbrev pub blank_output : Kind → List ℕ
blank_output k = blank (output_length (kind_size k))

abbrev pub MadeUpWrong : Type 0
MadeUpWrong = (w : Writer) (k : Kind) (d : Flat) (n : ℕ) → (coding_of k).valid d ≡ true → length ((coding_of k).written d) ≤ limit (kind_size k)
    → (w k d (blank_output k)).output ≡ output_of k d (blank_output k) → (w k d (blank_output k)).answer ≡ accepted n → (n ≡ length ((coding_of k).written d) → ⊥) → ReadsBack w → ⊥
