-- Where a sample stands in a store, by the picture's size alone. Document 01: "A store holds Y rows, then CB, then CR".
-- A plane is 0 for Y, 1 for CB, 2 for CR. H.261, Figure 2: CB and CR have half the rows and half the columns of Y. Assumes nothing.
use Rattle.std.specs.Prelude.{ℕ, ◌+◌, ◌*◌, ◌/◌, ◌%◌, ◌<◌, zero, suc, List, get_or}
use Rattle.size.specs.declared.Size.{Size}
use Rattle.size.specs.declared.Size.TheVariants.{SubQcif, Qcif, Cif}

-- the picture's size in macroblocks of 16 by 16
abbrev pub macroblocks_across : Size → ℕ
macroblocks_across SubQcif = 8
macroblocks_across Qcif = 11
macroblocks_across Cif = 22

abbrev pub macroblocks_down : Size → ℕ
macroblocks_down SubQcif = 6
macroblocks_down Qcif = 9
macroblocks_down Cif = 18

-- H.261, Figure 10: a macroblock is two by two blocks of Y, one of CB, one of CR. Blocks along its side in a plane
abbrev pub side : ℕ → ℕ
side zero = 2
side (suc p) = 1

-- blocks of 8 by 8 of a plane, across and down
abbrev pub blocks_across : Size → ℕ → ℕ
blocks_across f p = macroblocks_across f * side p

abbrev pub blocks_down : Size → ℕ → ℕ
blocks_down f p = macroblocks_down f * side p

-- samples of a plane, across and down
abbrev pub wide : Size → ℕ → ℕ
wide f p = blocks_across f p * 8

abbrev pub high : Size → ℕ → ℕ
high f p = blocks_down f p * 8

-- where a plane starts: after the planes before it
abbrev pub base : Size → ℕ → ℕ
base f zero = 0
base f (suc p) = base f p + high f p * wide f p

-- row y, column x of plane p
abbrev pub index : Size → ℕ → ℕ → ℕ → ℕ
index f p y x = base f p + (y * wide f p + x)

-- ---- blocks: block row y, block column x of plane p
-- the row of macroblocks that a block row is in (and the column, of a block column)
abbrev pub own : ℕ → ℕ → ℕ
own zero y = y / 2
own (suc p) y = y

-- H.261, Figure 10: the blocks of a macroblock are numbered 1, 2, 3, 4 in Y by rows, 5 in CB, 6 in CR; here from 0
abbrev pub block_of : ℕ → ℕ → ℕ → ℕ
block_of zero y x = y % 2 * 2 + x % 2
block_of (suc p) y x = 4 + p

-- the other way: the plane of block b is b - 3, and its block row in the row r of macroblocks is `grid_of p r (b / 2 % 2)`, its column `grid_of p c (b % 2)`
abbrev pub grid_of : ℕ → ℕ → ℕ → ℕ
grid_of zero r k = r * 2 + k
grid_of (suc p) r k = r

-- row i, column j of the block
abbrev pub cell_of : Size → List ℕ → ℕ → ℕ → ℕ → ℕ → ℕ → ℕ
cell_of f s p y x i j = get_or s (index f p (y * 8 + i) (x * 8 + j)) 0

-- block (y, x) is one of plane p
pub record On (f : Size) (p y x : ℕ) : Type 0 where
  pub plane : p < 3
  pub row : y < blocks_down f p
  pub column : x < blocks_across f p
