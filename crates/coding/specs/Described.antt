-- What reading, writing and drawing by kind ask for, and what they answer and leave. Assumes nothing.
use Rattle.std.specs.Prelude.{◌≡◌, Bool, true, List, ℕ, ◌≤◌, eqb, length, Result}
use Rattle.refusals.specs.declared.Refusal.{Refusal}
use Rattle.laws.specs.Choice.{pick, both}
use Rattle.refusals.specs.Told.{Told, refused, told_verdict, verdict_on, found_or}
use Rattle.refusals.specs.Writing.{told_written}
use Rattle.bits.specs.Bits.{Bit}
use Rattle.bits.specs.Write.{started_bytes, bytes_of}
use Rattle.bits.specs.Output.{written_answer, limited_output, output_left}
use Rattle.size.specs.declared.Size.{Size}
use Rattle.size.specs.Size.{limit, store_length, output_length}
use Rattle.layout.specs.Flat.{Flat}
use Rattle.layout.specs.Valid.{has_lengths}
use Rattle.coding.specs.declared.Kind.{Kind}
use Rattle.coding.specs.Kind.{kind_size, shape_of, head_length_of, macroblocks_length_of, levels_length_of, coding_of, reads_of}

-- ---- reading, into three slices
-- refusal 1: "a lent buffer hasn't its named length", which is that of the kind's descriptions; else the verdict of the rules and, on acceptance, the description
unfoldable pub read_of : Kind → List ℕ → ℕ → Flat → Told Flat
read_of k bytes n before = pick (has_lengths (shape_of k) before) ((coding_of k).read bytes n) (refused 1 0)

-- document 02, T-13: "Refusals 1 and 2 report 0."
unfoldable pub read_count : Kind → List ℕ → ℕ → Flat → ℕ
read_count k bytes n before = pick (has_lengths (shape_of k) before) (reads_of k bytes n) 0

-- what `read` promises of its answer, of what it leaves in the slices, and of how many reads it makes
abbrev pub ReadSays : Kind → List ℕ → ℕ → Flat → Result (Unit {0}) Refusal → Type 0
ReadSays k bytes n before verdict = told_verdict verdict ≡ verdict_on (read_of k bytes n before)

abbrev pub ReadLeaves : Kind → List ℕ → ℕ → Flat → Flat → Type 0
ReadLeaves k bytes n before left = left ≡ found_or before (read_of k bytes n before)

abbrev pub ReadCounts : Kind → List ℕ → ℕ → Flat → ℕ → Type 0
ReadCounts k bytes n before reads = reads ≡ read_count k bytes n before

-- arrays of these lengths have room for a description of the kind
pub record RoomIn (head macroblocks levels : ℕ) (k : Kind) : Type 0 where
  pub head_room : head_length_of k ≤ head
  pub macroblocks_room : macroblocks_length_of k ≤ macroblocks
  pub levels_room : levels_length_of k ≤ levels

-- ---- writing
-- the named lengths: the three slices those of one size's description, the output its own of the opened size
abbrev pub write_lengths : Kind → Flat → ℕ → Bool
write_lengths k d room = both ((coding_of k).named d) (eqb room (output_length (kind_size k)))

-- what `write` answers: N, or the refusal's number and place
unfoldable pub write_of : Kind → Flat → ℕ → Told ℕ
write_of k d room = written_answer (write_lengths k d room) ((coding_of k).valid d) (limit (kind_size k)) ((coding_of k).written d)

abbrev pub output_of : Kind → Flat → List ℕ → List ℕ
output_of k d out = output_left out ((coding_of k).written d) (write_of k d (length out))

-- what `write` promises of its answer, and of what it leaves in the output
abbrev pub WriteSays : Kind → Flat → List ℕ → Result ℕ Refusal → Type 0
WriteSays k d out answer = told_written answer ≡ write_of k d (length out)

abbrev pub WriteLeaves : Kind → Flat → List ℕ → List ℕ → Type 0
WriteLeaves k d out left = left ≡ output_of k d out

-- "fills the output's last started byte with zeros"
abbrev pub bytes_in : List Bit → List ℕ
bytes_in bits = bytes_of (started_bytes (length bits)) bits

-- "and touches nothing after"; a picture above the limit touches nothing at all
abbrev pub output_with : Size → List Bit → List ℕ → List ℕ
output_with size bits out = limited_output (limit size) bits out

-- a valid description, and scratch and an output of the named length
pub record Writing (k : Kind) (d : Flat) (scratch out : ℕ) : Type 0 where
  pub valid_is : (coding_of k).valid d ≡ true
  pub scratch_long : scratch ≡ output_length (kind_size k)
  pub out_long : out ≡ output_length (kind_size k)

-- a valid description, and an output of its named length
pub record Writable (k : Kind) (d : Flat) (out : List ℕ) : Type 0 where
  pub valid_is : (coding_of k).valid d ≡ true
  pub out_long : length out ≡ output_length (kind_size k)

-- ---- drawing: a valid description, and two stores of their named length
pub record Drawable (k : Kind) (d : Flat) (reference store : List ℕ) : Type 0 where
  pub valid_is : (coding_of k).valid d ≡ true
  pub reference_long : length reference ≡ store_length (kind_size k)
  pub store_long : length store ≡ store_length (kind_size k)
