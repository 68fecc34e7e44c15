-- What reading a picture can give, for any bytes and any N: an accepted picture is proper and took all N bits; a refusal is of the table, at a place up to N. And what is H.263's own: a picture's bits say where it ends. Assumes nothing.
use Rattle.std.specs.Prelude.{ℕ, ◌*◌, ◌≤◌, ◌<◌, ◌≡◌, Bool, false, List, [], ◌++◌, T, eqb, ℤ, length}
use Rattle.laws.specs.Choice.{both, opposite}
use Rattle.refusals.specs.declared.Reason.{Reason}
use Rattle.refusals.specs.declared.Reason.TheVariants.{Count, VectorOut, AfterLast}
use Rattle.refusals.specs.declared.Refusal.{Refusal}
use Rattle.refusals.specs.Number.{number}
use Rattle.bits.specs.Places.{plain}
use Rattle.bits.specs.Bits.{Bit, source}
use Rattle.bits.specs.Read.{got, refused, endless, bad}
use Rattle.size.specs.declared.Size.{Size}
use Rattle.size.specs.Size.{limit}
use Rattle.layout.specs.Value.{Vector}
use Rattle.layout.specs.Numbers.{within}
use Rattle.h263_description.specs.Vector.{in_range, in_picture}
use Rattle.h263_description.specs.Value.{Picture, laid_picture, picture_in}
use Rattle.h263_description.specs.Valid.{valid}
use Rattle.h263_description.specs.Proper.{Proper}
use Rattle.h263_layers.specs.Vector.{component_read, components_read, vector_read}
use Rattle.h263_layers.specs.Grammar.{picture, reading}

-- ---- refusals
-- "All macroblocks of the picture are sent .. so 9 is never given"
abbrev pub from_to : ℕ → ℕ → Reason → Bool
from_to low high reason = both (within low high (number reason)) (opposite (eqb (number reason) 9))

-- the reasons that reading a picture gives: numbers 2 to 8 and 10 to 14 of documents 01 and 02
abbrev pub of_reading : Reason → Bool
of_reading = from_to 2 14

-- 3: "bits end inside a field or codeword"
abbrev pub bits_end : Reason → Bool
bits_end reason = eqb (number reason) 3

-- a refusal of reading N bits: its place is a bit of the picture or the end of it, "and 0 for .. 2"
pub record Refuses (n : ℕ) (r : Refusal) : Type 0 where
  pub listed : T (of_reading r.reason)
  pub within : r.place ≤ n
  pub counted : r.reason ≡ Count → r.place ≡ 0

-- ---- the theorems, as of H.261's reading
-- No stand-in for fuel remains: the loops of the grammar end
abbrev pub NeverEndless : Type 0
NeverEndless = (size : Size) (s : List ℕ) (n : ℕ) → reading size s n ≡ endless → ⊥

-- "Refusals 2 to 8, 10 to 14", and a place up to N
abbrev pub RefusedByTable : Type 0
RefusedByTable = (size : Size) (s : List ℕ) (n : ℕ) (r : Refusal) → reading size s n ≡ refused r → Refuses n r

-- "the picture is exactly those bits": what is accepted took all N of them
abbrev pub AllRead : Type 0
AllRead = (size : Size) (s : List ℕ) (n : ℕ) (p : Picture) (left : List Bit) (at : ℕ) → reading size s n ≡ got p left at → (left ≡ []) × (at ≡ n)

-- what is accepted is proper
abbrev pub AcceptedProper : Type 0
AcceptedProper = (size : Size) (s : List ℕ) (n : ℕ) (p : Picture) (left : List Bit) (at : ℕ) → reading size s n ≡ got p left at → Proper size p

-- "It is valid when ..": it lays out as a valid description
abbrev pub AcceptedValid : Type 0
AcceptedValid = (size : Size) (s : List ℕ) (n : ℕ) (p : Picture) (left : List Bit) (at : ℕ) → reading size s n ≡ got p left at → T (valid size (laid_picture size p))

-- and that description describes it again
abbrev pub AcceptedDescribed : Type 0
AcceptedDescribed = (size : Size) (s : List ℕ) (n : ℕ) (p : Picture) (left : List Bit) (at : ℕ) → reading size s n ≡ got p left at → picture_in size (laid_picture size p) ≡ p

-- two slices that hold N bits, and the same, are read alike
abbrev pub OnlyBits : Type 0
OnlyBits = (size : Size) (s t : List ℕ) (n : ℕ) → n ≤ 8 * length s → n ≤ 8 * length t → source s n ≡ source t n → reading size s n ≡ reading size t n

-- ---- "So a picture's bits say where it ends, and no accepted picture begins another."
-- every proper beginning of an accepted picture is refused by 3
abbrev pub EveryBeginning : Type 0
EveryBeginning = (size : Size) (s : List ℕ) (n : ℕ) (p : Picture) → reading size s n ≡ got p [] n → (k : ℕ) → k < n → (why : Refusal) × (reading size s k ≡ refused why) × (number why.reason ≡ 3)

-- every longer string that begins with it is 13 at its end
abbrev pub EveryLonger : Type 0
EveryLonger = (size : Size) (s : List ℕ) (n : ℕ) (p : Picture) → reading size s n ≡ got p [] n
    → (t : List ℕ) (m : ℕ) → n < m → m ≤ 8 * length t → m ≤ limit size → source t n ≡ source s n → reading size t m ≡ bad AfterLast n

-- and what is refused, but for 3, is refused alike whatever follows
abbrev pub RefusalStays : Type 0
RefusalStays = (size : Size) (bs more : List Bit) (at : ℕ) (why : Refusal) → bits_end why.reason ≡ false → picture {P = plain} size bs at ≡ refused why → picture {P = plain} size (bs ++ more) at ≡ refused why

-- ---- "exactly one lands: the range never refuses", from a predictor in range
abbrev pub RangeNeverRefuses : Type 0
RangeNeverRefuses = (predicted : ℤ) → T (in_range predicted) → (bs : List Bit) (at : ℕ) (why : Refusal) → component_read {P = plain} predicted bs at ≡ refused why → why.reason ≡ VectorOut → ⊥

-- both components are read, and the vector points out of the picture
pub record PointsOut (size : Size) (number address : ℕ) (predicted : Vector) (bs : List Bit) (at : ℕ) (why : Refusal) : Type 0 where
  pub vector : Vector
  pub left : List Bit
  pub after : ℕ
  pub read : components_read {P = plain} predicted bs at ≡ got vector left after
  pub out : in_picture size number address vector ≡ false
  pub placed : why.place ≡ at

-- "12 is given for vectors out of the picture alone, at the horizontal word, after both words are read"
abbrev pub OnlyPointing : Type 0
OnlyPointing = (size : Size) (number address : ℕ) (predicted : Vector) → T (in_range predicted.horizontal) → T (in_range predicted.vertical)
    → (bs : List Bit) (at : ℕ) (why : Refusal) → vector_read {P = plain} size number address predicted bs at ≡ refused why → why.reason ≡ VectorOut → PointsOut size number address predicted bs at why
