-- What reading a picture can give, for any bytes and any N: an accepted picture is proper and took all N bits; a refusal is of document 01's table, at a place up to N. Assumes nothing.
use Rattle.std.specs.Prelude.{ℕ, ◌*◌, ◌≤◌, ◌≡◌, Bool, List, [], T, leb, length}
use Rattle.laws.specs.Choice.{both}
use Rattle.refusals.specs.declared.Reason.{Reason}
use Rattle.refusals.specs.declared.Reason.TheVariants.{Count}
use Rattle.refusals.specs.declared.Refusal.{Refusal}
use Rattle.refusals.specs.Number.{number}
use Rattle.bits.specs.Bits.{Bit, source}
use Rattle.bits.specs.Read.{got, refused, endless}
use Rattle.h261_groups.specs.declared.Format.{Format}
use Rattle.h261_description.specs.Value.{Picture, laid_picture, picture_in}
use Rattle.h261_description.specs.Valid.{valid}
use Rattle.h261_layers.specs.Grammar.{reading}

-- the reasons that reading a picture gives: numbers 2 to 13 of document 01's table
abbrev pub of_reading : Reason → Bool
of_reading reason = both (leb 2 (number reason)) (leb (number reason) 13)

-- a refusal of reading N bits: its place is a bit of the picture or the end of it, "and 0 for .. 2"
pub record Refuses (n : ℕ) (r : Refusal) : Type 0 where
  pub listed : T (of_reading r.reason)
  pub within : r.place ≤ n
  pub counted : r.reason ≡ Count → r.place ≡ 0

-- ---- the theorems
-- No stand-in for fuel remains: the loops of the grammar end
abbrev pub NeverEndless : Type 0
NeverEndless = (f : Format) (s : List ℕ) (n : ℕ) → reading f s n ≡ endless → ⊥

-- "Refusal numbers": every refusal of reading has a number from 2 to 13, and a place up to N
abbrev pub RefusedByTable : Type 0
RefusedByTable = (f : Format) (s : List ℕ) (n : ℕ) (r : Refusal) → reading f s n ≡ refused r → Refuses n r

-- "the picture is exactly those bits": what is accepted took all N of them
abbrev pub AllRead : Type 0
AllRead = (f : Format) (s : List ℕ) (n : ℕ) (p : Picture) (left : List Bit) (at : ℕ) → reading f s n ≡ got p left at → (left ≡ []) × (at ≡ n)

-- "It is valid when ..": what is accepted lays out as a valid description
abbrev pub AcceptedValid : Type 0
AcceptedValid = (f : Format) (s : List ℕ) (n : ℕ) (p : Picture) (left : List Bit) (at : ℕ) → reading f s n ≡ got p left at → T (valid f (laid_picture f p))

-- and that description describes it again
abbrev pub AcceptedDescribed : Type 0
AcceptedDescribed = (f : Format) (s : List ℕ) (n : ℕ) (p : Picture) (left : List Bit) (at : ℕ) → reading f s n ≡ got p left at → picture_in (laid_picture f p) ≡ p

-- "the picture is exactly those bits": two slices that hold N bits, and the same, are read alike
abbrev pub OnlyBits : Type 0
OnlyBits = (f : Format) (s t : List ℕ) (n : ℕ) → n ≤ 8 * length s → n ≤ 8 * length t → source s n ≡ source t n → reading f s n ≡ reading f t n
