-- A case by a test, and tests joined: what definitions are written with. Assumes nothing.
use Rattle.std.specs.Prelude.{Bool, true, false, List, [], ◌∷◌, ℕ, eqb}

abbrev pub pick : {A : Type 0} → Bool → A → A → A
pick true a b = a
pick false a b = b

abbrev pub both : Bool → Bool → Bool
both true b = b
both false b = false

abbrev pub either : Bool → Bool → Bool
either true b = true
either false b = b

abbrev pub opposite : Bool → Bool
opposite true = false
opposite false = true

-- two tests give the same
abbrev pub alike : Bool → Bool → Bool
alike true b = b
alike false b = opposite b

-- n is one of these
abbrev pub one_of : List ℕ → ℕ → Bool
one_of [] n = false
one_of (x ∷ xs) n = either (eqb n x) (one_of xs n)
