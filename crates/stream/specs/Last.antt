-- The last picture of a list of bits: from the last place on where a start code stands. Assumes nothing.
use Rattle.std.specs.Prelude.{◌≡◌, Bool, true, false, List, [], ◌∷◌, ◌++◌, ℕ, zero, suc, ◌-◌, take, replicate}
use Rattle.laws.specs.Choice.{pick, both, alike}

-- "PSC (20 bits, 0000 0000 0000 0001 0000)"
unfoldable pub start_code : List Bool
start_code = replicate 15 false ++ (true ∷ replicate 4 false)

-- whether a code stands at the start of these bits
abbrev pub begins : List Bool → List Bool → Bool
begins [] bits = true
begins (c ∷ code) [] = false
begins (c ∷ code) (b ∷ bits) = both (alike c b) (begins code bits)

-- no picture, or the bits before one and its own
pub data Last : Type 0 where
  none : Last
  found : List Bool → List Bool → Last

abbrev pub or_here : Bool → List Bool → Last → Last
or_here b bits none = pick (begins start_code (b ∷ bits)) (found [] (b ∷ bits)) none
or_here b bits (found earlier picture) = found (b ∷ earlier) picture

-- from the last place on where the start code stands; it may share its first four zeros with the end of one before it
unfoldable pub last_picture : List Bool → Last
last_picture [] = none
last_picture (b ∷ bits) = or_here b bits (last_picture bits)

-- ---- what that is (last-says)
-- the start code stands nowhere
abbrev pub Nowhere : List Bool → Type 0
Nowhere bits = (earlier rest : List Bool) → bits ≡ earlier ++ rest → begins start_code rest ≡ false

-- it stands where the picture begins, and nowhere later
pub record Ends (seen earlier picture : List Bool) : Type 0 where
  pub all : seen ≡ earlier ++ picture
  pub starts : begins start_code picture ≡ true
  pub later : (b : Bool) (rest : List Bool) → picture ≡ b ∷ rest → Nowhere rest

abbrev pub Says : List Bool → Last → Type 0
Says seen none = Nowhere seen
Says seen (found earlier picture) = Ends seen earlier picture

-- ---- its ones
-- the place after the last one, or 0
abbrev pub or_first : Bool → ℕ → ℕ
or_first true zero = 1
or_first false zero = 0
or_first b (suc n) = suc (suc n)

abbrev pub last_one : List Bool → ℕ
last_one [] = 0
last_one (b ∷ bits) = or_first b (last_one bits)

-- and after the one before that
abbrev pub before_last : List Bool → ℕ
before_last bits = last_one (take (last_one bits - 1) bits)

abbrev pub LastSays : Type 0
LastSays = (seen : List Bool) → Says seen (last_picture seen)

abbrev pub longer : Bool → Last → Last
longer b none = none
longer b (found earlier picture) = found earlier (picture ++ (b ∷ []))
