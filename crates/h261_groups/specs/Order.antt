-- The order in which macroblocks are sent, and where each lies. H.261, Figures 6 and 8: groups by rows, three rows of eleven macroblocks in each. Assumes nothing.
use Rattle.std.specs.Prelude.{ℕ, ◌+◌, ◌*◌, ◌/◌, ◌%◌}
use Rattle.h261_groups.specs.declared.Format.{Format}
use Rattle.h261_groups.specs.declared.Format.TheVariants.{Qcif, Cif}
use Rattle.h261_groups.specs.Format.{group_count}

-- groups, across
abbrev pub groups_across : Format → ℕ
groups_across Qcif = 1
groups_across Cif = 2

-- macroblock n is the one at address n % 33 + 1 of the group n / 33, counted from 0
abbrev pub macroblock_count : Format → ℕ
macroblock_count f = group_count f * 33

-- the row and column of macroblocks that macroblock n stands in
abbrev pub row_of : Format → ℕ → ℕ
row_of f n = n / 33 / groups_across f * 3 + n % 33 / 11

abbrev pub column_of : Format → ℕ → ℕ
column_of f n = n / 33 % groups_across f * 11 + n % 33 % 11

-- the number of the macroblock in row r, column c
abbrev pub macroblock_at : Format → ℕ → ℕ → ℕ
macroblock_at f r c = (r / 3 * groups_across f + c / 11) * 33 + (r % 3 * 11 + c % 11)
