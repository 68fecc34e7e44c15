-- The fields of a description, by the macroblock's number in sending order. Assumes nothing.
use Rattle.std.specs.Prelude.{ℕ, ◌+◌, ◌*◌, get_or}
use Rattle.layout.specs.Value.{Vector}
use Rattle.layout.specs.Flat.{Flat, byte_vector}

-- the four bytes of macroblock n
abbrev pub type_of : Flat → ℕ → ℕ
type_of d n = get_or d.macroblocks (n * 4) 0

abbrev pub quant_of : Flat → ℕ → ℕ
quant_of d n = get_or d.macroblocks (n * 4 + 1) 0

abbrev pub horizontal_of : Flat → ℕ → ℕ
horizontal_of d n = get_or d.macroblocks (n * 4 + 2) 0

abbrev pub vertical_of : Flat → ℕ → ℕ
vertical_of d n = get_or d.macroblocks (n * 4 + 3) 0

-- the vector that the bytes of macroblock n say, whatever its type
abbrev pub vector_at : Flat → ℕ → Vector
vector_at d n = byte_vector (horizontal_of d n) (vertical_of d n)

-- GQUANT of group g, from 0, after the fixed fields
abbrev pub gquant_at : ℕ → Flat → ℕ → ℕ
gquant_at fixed d g = get_or d.head (fixed + g) 0
