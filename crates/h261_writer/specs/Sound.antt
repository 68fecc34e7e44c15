-- What the writer takes of a valid description, macroblock by macroblock. Assumes nothing.
use Rattle.std.specs.Prelude.{ℕ, ◌*◌, ◌≤◌, ◌<◌, Bool, true, false, List, T, get_or, take, drop}
use Rattle.laws.specs.Choice.{pick}
use Rattle.bits.specs.Bits.{Bit}
use Rattle.h261_words.specs.Words.{has_mquant}
use Rattle.h261_description.specs.Vector.{Before, in_range}
use Rattle.layout.specs.Value.{Block, Group}
use Rattle.layout.specs.Flat.{number_of, byte_vector, macroblocks_in}
use Rattle.layout.specs.Numbers.{is_quantiser, is_zero}
use Rattle.h261_description.specs.Valid.{valid_levels}
use Rattle.h261_writer.specs.Write.{block_of, coefficients_of}

-- what is left of a block: the first coefficient of one that isn't INTRA is yet to come, or EOB ends it
abbrev pub coded_bits : Bool → Block → List Bit
coded_bits true b = block_of false b
coded_bits false b = coefficients_of b

-- what the last macroblock left behind, its vector in two bytes
abbrev pub before_in : ℕ → ℕ → ℕ → Before
before_in address horizontal vertical = record { address = address; vector = byte_vector horizontal vertical }

-- a component in -15..15
abbrev pub NearComponent : ℕ → Type 0
NearComponent byte = T (in_range (number_of byte))

-- a macroblock that can be sent
pub record SoundMacroblock (fields levels : List ℕ) : Type 0 where
  pub some : 1 ≤ get_or fields 0 0
  pub known : get_or fields 0 0 ≤ 10
  pub quantised : T (pick (has_mquant (get_or fields 0 0)) (is_quantiser (get_or fields 1 0)) (is_zero (get_or fields 1 0)))
  pub across : NearComponent (get_or fields 2 0)
  pub down : NearComponent (get_or fields 3 0)
  pub levelled : T (valid_levels (get_or fields 0 0) levels)

-- a group each of whose macroblocks is unsent or can be sent
pub record SoundGroup (fields levels : List ℕ) : Type 0 where
  pub each : (k : ℕ) → k < 33 → 1 ≤ get_or fields (k * 4) 0 → SoundMacroblock (take 4 (drop (k * 4) fields)) (take 384 (drop (k * 384) levels))

-- the group that the slices begin with
abbrev pub group_in : ℕ → List ℕ → List ℕ → Group
group_in gquant fields levels = record { gquant = gquant; macroblocks = macroblocks_in 33 1 fields levels }
