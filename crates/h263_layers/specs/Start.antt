-- Whether a start code stands where a group begins, with GSTUF or without. Assumes nothing.
use Rattle.std.specs.Prelude.{ℕ, zero, suc, ◌+◌, ◌-◌, ◌%◌, Bool, true, false, List, [], ◌∷◌, leb, eqb}
use Rattle.laws.specs.Choice.{pick}
use Rattle.bits.specs.Bits.{Bit, bit0, bit1}

-- the zeros that the bits begin with, and whether a 1 follows them or the bits end
abbrev pub zeros_ahead : List Bit → ℕ
zeros_ahead [] = 0
zeros_ahead (bit0 ∷ bs) = suc (zeros_ahead bs)
zeros_ahead (bit1 ∷ bs) = 0

abbrev pub one_ahead : List Bit → Bool
one_ahead [] = false
one_ahead (bit0 ∷ bs) = one_ahead bs
one_ahead (bit1 ∷ bs) = true

-- the bits from a place to the end of its byte: "bit places counted from the PSC's first bit"
abbrev pub to_byte : ℕ → ℕ
to_byte at = (8 - at % 8) % 8

-- what stands: a start code after so many bits of GSTUF, or none; or the bits end inside one
pub data Ahead : Type 0 where
  stands : ℕ → Ahead
  absent : Ahead
  cut_off : Ahead

-- "16 and then a 1, or 16 more than lead to the byte's end and then a 1: the header stands."
-- "they are all the bits left, and no more than 16 and those to the byte's end (none included): 3 at this place."
-- "else no start code stands, and the macroblock is read from the same place."
abbrev pub ahead_of : Bool → ℕ → ℕ → Ahead
ahead_of true zeros stuffing = pick (eqb zeros 16) (stands 0) (pick (eqb zeros (16 + stuffing)) (stands stuffing) absent)
ahead_of false zeros stuffing = pick (leb zeros (16 + stuffing)) cut_off absent

unfoldable pub ahead : List Bit → ℕ → Ahead
ahead bs at = ahead_of (one_ahead bs) (zeros_ahead bs) (to_byte at)
