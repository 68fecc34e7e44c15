-- The window: the number of the last 20 bits, and it is the start code's exactly where that stands last. Assumes nothing.
use Rattle.std.specs.Prelude.{Bool, true, List, [], ◌∷◌, ◌++◌, ℕ, ◌+◌, ◌*◌, ◌^◌, length, drop, replicate}
use Rattle.stream.specs.Stream.{bit_number}

-- the number of these bits, most significant first
unfoldable pub number : List Bool → ℕ
number [] = 0
number (b ∷ bits) = bit_number b * 2 ^ length bits + number bits

-- the last 20 bits, where 20 ones went before the first
abbrev pub last_twenty : List Bool → List Bool
last_twenty seen = drop (length seen) (replicate 20 true ++ seen)
