-- What a description says of a macroblock by its number in sending order: its vector, the quantiser that stands at it; refreshes. Assumes nothing.
use Rattle.std.specs.Prelude.{ℕ, zero, suc, ◌+◌, ◌*◌, ◌/◌, ◌%◌, Bool, eqb}
use Rattle.laws.specs.Choice.{pick}
use Rattle.laws.specs.Table.{all_b}
use Rattle.h261_words.specs.Words.{is_intra, is_mc, has_mquant}
use Rattle.h261_groups.specs.declared.Format.{Format}
use Rattle.h261_groups.specs.Order.{macroblock_count}
use Rattle.layout.specs.Value.{Vector, zero_vector}
use Rattle.layout.specs.Flat.{Flat}
use Rattle.layout.specs.Fields.{type_of, quant_of, vector_at, gquant_at}

-- the GQUANT of group g, from 0
abbrev pub gquant_of : Flat → ℕ → ℕ
gquant_of = gquant_at 3

-- the vector: zero where the type is not MC
abbrev pub vector_sent : Flat → ℕ → Vector
vector_sent d n = pick (is_mc (type_of d n)) (vector_at d n) zero_vector

-- ---- "A quantiser stands until the next MQUANT or group."
-- what stands at macroblock n, if q stood before it
abbrev pub quantiser_next : Flat → ℕ → ℕ → ℕ
quantiser_next d n q = pick (has_mquant (type_of d n)) (quant_of d n) q

-- what stands before macroblock k of group g, both from 0
unfoldable pub quantiser_before : Flat → ℕ → ℕ → ℕ
quantiser_before d g zero = gquant_of d g
quantiser_before d g (suc k) = quantiser_next d (g * 33 + k) (quantiser_before d g k)

-- what stands at macroblock n
unfoldable pub quantiser_of : Flat → ℕ → ℕ
quantiser_of d n = quantiser_next d n (quantiser_before d (n / 33) (n % 33))

-- ---- "A refresh picture sends every macroblock as INTRA."
unfoldable pub refresh : Format → Flat → Bool
refresh f d = all_b (macroblock_count f) (λ n. is_intra (type_of d n))

-- no macroblock is sent
unfoldable pub nothing_sent : Format → Flat → Bool
nothing_sent f d = all_b (macroblock_count f) (λ n. eqb (type_of d n) 0)
