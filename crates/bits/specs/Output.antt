-- What a writer answers and leaves in its output, whatever bits it writes. Assumes nothing.
use Rattle.std.specs.Prelude.{ℕ, Bool, List, ◌++◌, ltb, length, drop}
use Rattle.laws.specs.Choice.{pick}
use Rattle.refusals.specs.Told.{Told, accepted, refused_by, refused}
use Rattle.bits.specs.Bits.{Bit}
use Rattle.bits.specs.Write.{started_bytes, bytes_of}

-- 1: "a lent buffer hasn't its named length"; 31: "invalid description, or one of another format than opened"; 32: "written picture above the limit"
-- by whether the lent buffers have their lengths, whether the description is valid, the limit, and the picture's bits
abbrev pub written_answer : Bool → Bool → ℕ → List Bit → Told ℕ
written_answer lent valid limit bits =
    pick lent (pick valid (pick (ltb limit (length bits)) (refused 32 0) (accepted (length bits))) (refused 31 0)) (refused 1 0)

-- "It fills the output's last started byte with zeros and touches nothing after."
abbrev pub filled_output : List ℕ → List Bit → List ℕ
filled_output out bits = bytes_of (started_bytes (length bits)) bits ++ drop (started_bytes (length bits)) out

-- above the limit, nothing is touched
abbrev pub limited_output : ℕ → List Bit → List ℕ → List ℕ
limited_output limit bits out = pick (ltb limit (length bits)) out (filled_output out bits)

-- a refusal touches nothing at all
unfoldable pub output_left : List ℕ → List Bit → Told ℕ → List ℕ
output_left out bits (accepted n) = filled_output out bits
output_left out bits (refused_by numbers) = out
