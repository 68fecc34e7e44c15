-- What a picture's parts must be so that a description holds them; and what a good macroblock is in good company: rising addresses in a group, a group for each number. Assumes nothing.
use Rattle.std.specs.Prelude.{ℕ, suc, ◌-◌, ◌≤◌, ◌<◌, ◌≡◌, Bool, true, false, List, [], ◌∷◌, T, length}
use Rattle.layout.specs.Value.{Block, Macroblock, Group, Picture}
use Rattle.layout.specs.Flat.{Shape, byte_of, number_of}
use Rattle.layout.specs.Numbers.{is_code}

-- the one where a test holds, else the other
abbrev pub If : Bool → Type 0 → Type 0 → Type 0
If true P Q = P
If false P Q = Q

abbrev pub Each : {A : Type 0} → (A → Type 0) → List A → Type 0
Each P [] = Unit {0}
Each P (x ∷ xs) = P x × Each P xs

-- one for each number, by its number
abbrev pub Numbered : {A : Type 0} → (ℕ → A → Type 0) → List ℕ → List A → Type 0
Numbered P [] [] = Unit {0}
Numbered P [] (x ∷ xs) = ⊥
Numbered P (number ∷ numbers) [] = ⊥
Numbered P (number ∷ numbers) (x ∷ xs) = P number x × Numbered P numbers xs

-- ---- blocks
-- allowed coefficients, none past the last of `room` places
abbrev pub Fits : ℕ → Block → Type 0
Fits room [] = Unit {0}
Fits room (c ∷ cs) = (c.run < room) × T (is_code c.code) × Fits (room - suc c.run) cs

-- "INTRA sends all six, each with an 8-bit DC code first"
abbrev pub Begins : Block → Type 0
Begins [] = ⊥
Begins (c ∷ cs) = c.run ≡ 0

abbrev pub all_empty : List Block → Bool
all_empty [] = true
all_empty ([] ∷ blocks) = all_empty blocks
all_empty ((c ∷ cs) ∷ blocks) = false

-- ---- macroblocks
-- what four bytes and 384 levels can hold: a type that isn't 0, components that their bytes give back, six blocks of 64 places
pub record Storable (m : Macroblock) : Type 0 where
  pub sent : 1 ≤ m.type
  pub horizontally : number_of (byte_of m.vector.horizontal) ≡ m.vector.horizontal
  pub vertically : number_of (byte_of m.vector.vertical) ≡ m.vector.vertical
  pub six : length m.blocks ≡ 6
  pub fitting : Each (Fits 64) m.blocks

-- good macroblocks at rising addresses, past `last` and up to `each`
abbrev pub RisingTo : (Macroblock → Type 0) → ℕ → ℕ → List Macroblock → Type 0
RisingTo Good each last [] = Unit {0}
RisingTo Good each last (m ∷ ms) = (last < m.address) × (m.address ≤ each) × Good m × RisingTo Good each m.address ms

-- ---- groups
-- a good GQUANT, and good macroblocks, by the group's number
abbrev pub GoodGroup : ℕ → (ℕ → ℕ → Type 0) → (ℕ → Macroblock → Type 0) → ℕ → Group → Type 0
GoodGroup each Quant Good number x = Quant number x.gquant × RisingTo (Good number) each 0 x.macroblocks

-- ---- the picture
-- a group that can be laid out among groups of `each`
abbrev pub StorableGroup : ℕ → Group → Type 0
StorableGroup each x = RisingTo Storable each 0 x.macroblocks

pub record StorablePicture (s : Shape) (p : Picture) : Type 0 where
  pub headed : length p.fields ≡ s.fixed
  pub counted : length p.groups ≡ s.groups
  pub grouped : Each (StorableGroup s.each) p.groups
