-- Demand 2: "What our writer writes for a valid description is read back as that description, and its samples agree." Every kind, about the very definitions that
-- the promises of `write`, `read` and `decode` cite. Assumes nothing.
use Rattle.std.specs.Prelude.{ℕ, ◌≤◌, ◌≡◌, true, List, [], length}
use Rattle.refusals.specs.Told.{accepted}
use Rattle.bits.specs.Read.{got}
use Rattle.size.specs.Size.{limit, output_length, store_length}
use Rattle.layout.specs.Flat.{Flat}
use Rattle.layout.specs.Valid.{has_lengths}
use Rattle.coding.specs.declared.Kind.{Kind}
use Rattle.coding.specs.Kind.{kind_size, shape_of, coding_of, described_by}
use Rattle.coding.specs.Described.{read_of, write_of, output_of}
use Rattle.decoder.specs.Decoded.{decoded}

abbrev pub WritesValid : Type 0
WritesValid = (k : Kind) (d : Flat) (out : List ℕ) → (coding_of k).valid d ≡ true → length ((coding_of k).written d) ≤ limit (kind_size k) → length out ≡ output_length (kind_size k)
    → write_of k d (length out) ≡ accepted (length ((coding_of k).written d))

-- ---- the theorem
pub record ReadAgain (k : Kind) (d : Flat) (out : List ℕ) (n : ℕ) : Type 0 where
  -- what the bits say is that very description, in exactly N bits: none is left, and the place is N
  pub read : described_by k (output_of k d out) n ≡ got d [] n
  -- so `read`, into any buffers of their lengths, is accepted and gives it
  pub reads : (before : Flat) → has_lengths (shape_of k) before ≡ true → read_of k (output_of k d out) n before ≡ accepted d
  -- "and its samples agree": `decode` gives the samples that rendering the description gives
  pub samples : (reference : List ℕ) → length reference ≡ store_length (kind_size k) → decoded k (output_of k d out) n reference (store_length (kind_size k)) ≡ accepted ((coding_of k).render d reference)

-- whenever `write` answers N bits: "reading back takes exactly N bits"
abbrev pub WrittenBack : Type 0
WrittenBack = (k : Kind) (d : Flat) (out : List ℕ) (n : ℕ) → write_of k d (length out) ≡ accepted n → ReadAgain k d out n
