-- Tests of a description's numbers: quantisers, levels, codes. Assumes nothing.
use Rattle.std.specs.Prelude.{ℕ, zero, suc, ◌-◌, Bool, true, List, [], ◌∷◌, leb, ltb, eqb, get_or, drop}
use Rattle.laws.specs.Choice.{pick, both, opposite, one_of}

abbrev pub all : (ℕ → Bool) → List ℕ → Bool
all good [] = true
all good (x ∷ xs) = both (good x) (all good xs)

abbrev pub within : ℕ → ℕ → ℕ → Bool
within low high x = both (leb low x) (leb x high)

abbrev pub is_zero : ℕ → Bool
is_zero x = eqb x 0

-- a quantiser is 1 to 31
abbrev pub is_quantiser : ℕ → Bool
is_quantiser = within 1 31

-- refusal 10: "Levels 0 and -128 and DC codes 0 and 128 are forbidden."
abbrev pub forbidden : ℕ → Bool
forbidden code = one_of (0 ∷ 128 ∷ []) code

-- what eight bits may hold of a coefficient
abbrev pub is_code : ℕ → Bool
is_code code = both (leb code 255) (opposite (forbidden code))

-- a level -127 to 127, in eight bits
abbrev pub is_level : ℕ → Bool
is_level b = both (leb b 255) (opposite (eqb b 128))

-- a level in eight bits, of its sign ("0" for positive and "1" for negative) and its size; and back
abbrev pub signed_code : ℕ → ℕ → ℕ
signed_code zero level = level
signed_code (suc s) level = 256 - level

abbrev pub code_sign : ℕ → ℕ
code_sign code = pick (ltb code 128) 0 1

abbrev pub code_size : ℕ → ℕ
code_size code = pick (ltb code 128) code (256 - code)

-- k INTRA blocks begin with an allowed DC code: a level's code that isn't 0
unfoldable pub codes_first : ℕ → List ℕ → Bool
codes_first zero levels = true
codes_first (suc k) levels = both (opposite (is_zero (get_or levels 0 0))) (codes_first k (drop 64 levels))
