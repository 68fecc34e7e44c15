-- A description: three lists of bytes. How a picture is laid out in them, as left folds; and the picture that they describe. Assumes nothing.
-- head: the fixed fields of the standard's head, then a GQUANT for each group
-- macroblocks: type (0: unsent), MQUANT (in H.263 DQUANT), horizontal, vertical, in sending order
-- levels: for each macroblock six blocks of 64 in transmission order, a level in the eight bits of an escape, an INTRA block's DC code first
use Rattle.std.specs.Prelude.{ℕ, zero, suc, ◌+◌, ◌-◌, ◌*◌, List, [], ◌∷◌, ◌++◌, get_or, set, replicate, take, drop, ℤ}
use Rattle.std.proofs.lemmas.List.Edits.{sets}
use Rattle.std.specs.Int.{w8}
use Rattle.std.proofs.Common.{of_z, to_z}
use Rattle.layout.specs.Value.{coefficient, Block, Vector, Macroblock, Group, Picture}

pub record Flat : Type 0 where
  pub head : List ℕ
  pub macroblocks : List ℕ
  pub levels : List ℕ

-- a description out of its three lists
abbrev pub flat : List ℕ → List ℕ → List ℕ → Flat
flat head macroblocks levels = record { head = head; macroblocks = macroblocks; levels = levels }

-- what a standard and a format decide: how many fixed fields the head has, how many groups the picture, how many macroblocks each group
pub record Shape : Type 0 where
  pub fixed : ℕ
  pub groups : ℕ
  pub each : ℕ

-- two's complement in a byte, as a cast of the code gives it
abbrev pub byte_of : ℤ → ℕ
byte_of = of_z w8

abbrev pub number_of : ℕ → ℤ
number_of = to_z w8

-- the vector of two bytes
abbrev pub byte_vector : ℕ → ℕ → Vector
byte_vector across down = record { horizontal = number_of across; vertical = number_of down }

-- and of a macroblock's four
abbrev pub vector_in : List ℕ → Vector
vector_in fields = byte_vector (get_or fields 2 0) (get_or fields 3 0)

-- ---- the layout
-- the coefficients of a block, the next of which stands at `at` if its run is 0
unfoldable pub put_block : List ℕ → ℕ → Block → List ℕ
put_block l at [] = l
put_block l at (c ∷ cs) = put_block (set l (at + c.run) c.code) (at + suc c.run) cs

unfoldable pub put_blocks : List ℕ → ℕ → List Block → List ℕ
put_blocks l at [] = l
put_blocks l at (b ∷ bs) = put_blocks (put_block l at b) (at + 64) bs

-- the number of a macroblock in sending order, in groups of `each`: by the group's number, from 0, and the address, from 1
abbrev pub index : ℕ → ℕ → ℕ → ℕ
index each g address = g * each + (address - 1)

abbrev pub fields_of : Macroblock → List ℕ
fields_of m = m.type ∷ m.quant ∷ byte_of m.vector.horizontal ∷ byte_of m.vector.vertical ∷ []

-- the macroblocks of group g
unfoldable pub put_macroblocks : ℕ → ℕ → Flat → List Macroblock → Flat
put_macroblocks each g flat [] = flat
put_macroblocks each g flat (m ∷ ms) =
    put_macroblocks each g
    (record {
      head = flat.head;
      macroblocks = sets flat.macroblocks (index each g m.address * 4) (fields_of m);
      levels = put_blocks flat.levels (index each g m.address * 384) m.blocks;
    }) ms

-- groups, from g on
unfoldable pub put_groups : Shape → ℕ → Flat → List Group → Flat
put_groups s g flat [] = flat
put_groups s g flat (x ∷ xs) =
    put_groups s (g + 1)
    (put_macroblocks s.each g
    (record { head = set flat.head (s.fixed + g) x.gquant; macroblocks = flat.macroblocks; levels = flat.levels })
    x.macroblocks) xs

abbrev pub blank : Shape → List ℕ → Flat
blank s fields = record {
  head = fields ++ replicate s.groups 0;
  macroblocks = replicate (s.groups * (s.each * 4)) 0;
  levels = replicate (s.groups * (s.each * 384)) 0;
}

-- zeros in a shape's lengths
abbrev pub zeros : Shape → Flat
zeros s = flat (replicate (s.fixed + s.groups) 0) (replicate (s.groups * (s.each * 4)) 0) (replicate (s.groups * (s.each * 384)) 0)

abbrev pub laid_out : Shape → Picture → Flat
laid_out s p = put_groups s 0 (blank s p.fields) p.groups

-- ---- and back
-- a block's levels as coefficients, after a run of zeros
unfoldable pub gather : ℕ → List ℕ → Block
gather run [] = []
gather run (zero ∷ ls) = gather (suc run) ls
gather run (suc code ∷ ls) = coefficient run (suc code) ∷ gather 0 ls

-- k blocks
unfoldable pub gathers : ℕ → List ℕ → List Block
gathers zero ls = []
gathers (suc k) ls = gather 0 (take 64 ls) ∷ gathers k (drop 64 ls)

-- the macroblock at an address, of its four bytes and 384 levels
abbrev pub macroblock_in : ℕ → List ℕ → List ℕ → Macroblock
macroblock_in address fields levels =
    record { address = address; type = get_or fields 0 0; quant = get_or fields 1 0; vector = vector_in fields; blocks = gathers 6 levels }

-- in front of the others, if it is sent
abbrev pub described : ℕ → List ℕ → List ℕ → List Macroblock → List Macroblock
described address fields levels rest =
    elim (get_or fields 0 0) [
      | zero ↦ rest
      | suc n ↦ macroblock_in address fields levels ∷ rest
    ]

-- k macroblocks, from an address on
unfoldable pub macroblocks_in : ℕ → ℕ → List ℕ → List ℕ → List Macroblock
macroblocks_in zero address fields levels = []
macroblocks_in (suc k) address fields levels =
    described address fields levels (macroblocks_in k (address + 1) (drop 4 fields) (drop 384 levels))

-- a group of `each` macroblocks for each GQUANT
unfoldable pub groups_in : ℕ → List ℕ → List ℕ → List ℕ → List Group
groups_in each [] fields levels = []
groups_in each (q ∷ qs) fields levels =
    record { gquant = q; macroblocks = macroblocks_in each 1 fields levels } ∷ groups_in each qs (drop (each * 4) fields) (drop (each * 384) levels)

abbrev pub read_back : Shape → Flat → Picture
read_back s d = record { fields = take s.fixed d.head; groups = groups_in s.each (drop s.fixed d.head) d.macroblocks d.levels }
