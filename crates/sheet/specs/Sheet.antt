-- Document 01, "Proof sheet, marked P": twelve examples, "shown to follow from the definitions by a single claim over a list of them". Assumes nothing.
use Rattle.std.specs.Prelude.{ℕ, ◌-◌, ◌≡◌, Bool, true, List, [], ◌∷◌, T, ℤ, pos, negsuc, length, replicate, take}
use Rattle.laws.specs.Choice.{both}
use Rattle.laws.specs.Table.{all_b, eq_z}
use Rattle.laws.specs.Block.{put}
use Rattle.refusals.specs.Told.{refused}
use Rattle.bits.specs.Bits.{Bit, bits_of}
use Rattle.bits.specs.Read.{got}
use Rattle.bits.specs.Write.{started_bytes, bytes_of}
use Rattle.fields.specs.Answer.{found}
use Rattle.h261_groups.specs.declared.Format.TheVariants.{Qcif}
use Rattle.h261_groups.specs.Format.{size_of}
use Rattle.size.specs.Size.{store_length}
use Rattle.layout.specs.Value.{Group}
use Rattle.h261_description.specs.Value.{Picture, laid_picture}
use Rattle.h261_description.specs.Moved.{moved_place}
use Rattle.quantiser.specs.Level.{coefficient}
use Rattle.inverse.specs.Inverse.{inverse_at}
use Rattle.h261_filter.specs.Filter.{filter_at}
use Rattle.h261_layers.specs.Grammar.{reading}
use Rattle.h261_layers.specs.Vector.{component_read}
use Rattle.h261_writer.specs.Write.{picture_of}
use Rattle.h261_render.specs.Sample.{rendered}

pub data Example : Type 0 where
  p1 : Example
  p2 : Example
  p3 : Example
  p4 : Example
  p5 : Example
  p6 : Example
  p7 : Example
  p8 : Example
  p9 : Example
  p10 : Example
  p11 : Example
  p12 : Example

abbrev pub examples : List Example
examples = p1 ∷ p2 ∷ p3 ∷ p4 ∷ p5 ∷ p6 ∷ p7 ∷ p8 ∷ p9 ∷ p10 ∷ p11 ∷ p12 ∷ []

-- "the QCIF picture with TR 1 and no macroblocks (GQUANT 1 throughout)"
abbrev empty : Group
empty = record { gquant = 1; macroblocks = [] }

abbrev pub picture1 : Picture
picture1 = record { tr = 1; ptype = 0; groups = empty ∷ empty ∷ empty ∷ [] }

abbrev bits1 : List Bit
bits1 = picture_of Qcif picture1

abbrev pub bytes1 : List ℕ
bytes1 = bytes_of (started_bytes (length bits1)) bits1

-- a block that is 0 but for one number
abbrev lone : ℕ → ℕ → ℤ → List (List ℤ)
lone row column z = put (pos 0) (replicate 8 (replicate 8 (pos 0))) row column z

-- all 64 outputs are z
abbrev outputs_all : List (List ℤ) → ℤ → Bool
outputs_all block z = all_b 8 (λ y. all_b 8 (λ x. eq_z (inverse_at block y x) z))

-- the filter's number for a lone 16, at a row and a column
abbrev filtered : List (List ℤ) → ℕ → ℕ → ℤ → Bool
filtered block row column z = eq_z (filter_at block row column) z

abbrev every : List Bool → Bool
every [] = true
every (b ∷ bs) = both b (every bs)

abbrev pub Says : Example → Type 0
-- "has 110 bits, begins 00 01 00 86 (hex), and copies the reference"
Says p1 =
    (length bits1 ≡ 110) × (take 4 bytes1 ≡ 0x00 ∷ 0x01 ∷ 0x00 ∷ 0x86 ∷ []) × (reading Qcif bytes1 110 ≡ got picture1 [] 110)
    × ((reference : List ℕ) → length reference ≡ store_length (size_of Qcif) → rendered Qcif (laid_picture Qcif picture1) reference ≡ reference)
-- "cut to 109 bits: 3 at 109"
Says p2 = found (reading Qcif bytes1 109) ≡ refused 3 109
-- "Q 8, L 1: 23"; "Q 7, L -2: -35"; "Q 31, L 127: 2047"
Says p3 = coefficient 8 (pos 1) ≡ pos 23
Says p4 = coefficient 7 (negsuc 1) ≡ negsuc 34
Says p5 = coefficient 31 (pos 127) ≡ pos 2047
-- "F(0,0) alone 4: all 1"; "-4: all 0"; "-5: all -1"
Says p6 = T (outputs_all (lone 0 0 (pos 4)) (pos 1))
Says p7 = T (outputs_all (lone 0 0 (negsuc 3)) (pos 0))
Says p8 = T (outputs_all (lone 0 0 (negsuc 4)) (negsuc 0))
-- "FIL, lone 16 at (3,3): 4 there, 2 beside, 1 diagonal"
Says p9 =
    T
    (every
    (filtered (lone 3 3 (pos 16)) 3 3 (pos 4) ∷
    filtered (lone 3 3 (pos 16)) 2 3 (pos 2) ∷ filtered (lone 3 3 (pos 16)) 4 3 (pos 2) ∷
    filtered (lone 3 3 (pos 16)) 3 2 (pos 2) ∷ filtered (lone 3 3 (pos 16)) 3 4 (pos 2) ∷
    filtered (lone 3 3 (pos 16)) 2 2 (pos 1) ∷ filtered (lone 3 3 (pos 16)) 2 4 (pos 1) ∷
    filtered (lone 3 3 (pos 16)) 4 2 (pos 1) ∷ filtered (lone 3 3 (pos 16)) 4 4 (pos 1) ∷ []))
-- "lone 16 at (0,0): 16 there, 4 at (1,0), 1 at (1,1)"
Says p10 =
    T
    (every
    (filtered (lone 0 0 (pos 16)) 0 0 (pos 16) ∷
    filtered (lone 0 0 (pos 16)) 1 0 (pos 4) ∷ filtered (lone 0 0 (pos 16)) 1 1 (pos 1) ∷ []))
-- "chroma of -3 is -1": in both planes, from any place
Says p11 = (place : ℕ) → (moved_place 1 place (negsuc 2) ≡ place - 1) × (moved_place 2 place (negsuc 2) ≡ place - 1)
-- "preceding 0 with pair -16 & 16: refusal 12": the pair's codeword, at any place
Says p12 = (place : ℕ) → found (component_read (pos 0) (bits_of 11 0b00000011001) place) ≡ refused 12 place

-- ---- the single claim
abbrev pub Each : (Example → Type 0) → List Example → Type 0
Each P [] = Unit {0}
Each P (x ∷ xs) = P x × Each P xs

abbrev pub SheetHolds : Type 0
SheetHolds = Each Says examples
