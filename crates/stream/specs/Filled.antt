-- A picture of a stream, and fill. Zeros at its end from where the reader refuses them are fill, if the picture is whole without them; they don't count towards the limit.
-- Assumes nothing.
use Rattle.std.specs.Prelude.{ℕ, min, max, Bool, List, leb}
use Rattle.laws.specs.Choice.{pick, both}
use Rattle.refusals.specs.Told.{Numbers, Told, accepted, refused_by}
use Rattle.h261_groups.specs.declared.Format.{Format}
use Rattle.h261_groups.specs.Format.{size_of}
use Rattle.size.specs.Size.{limit}
use Rattle.layout.specs.Flat.{Flat}
use Rattle.coding.specs.declared.Kind.TheVariants.{H261}
use Rattle.coding.specs.Described.{read_of}

-- N: all bits, but of the zeros after the last one only those up to the limit
abbrev pub count_of : Format → ℕ → ℕ → ℕ
count_of f count ones = min count (max (limit (size_of f)) ones)

-- a refusal of 3 to 13 among the zeros after the last one
abbrev pub among_zeros : ℕ → ℕ → ℕ → Bool
among_zeros n place ones = both (both (leb 3 n) (leb n 13)) (leb ones place)

-- the picture without fill, or else the refusal of the picture with it
abbrev pub or_else : Numbers → Told Flat → Told Flat
or_else numbers (accepted d) = accepted d
or_else numbers (refused_by others) = refused_by numbers

unfoldable pub unfilled : Format → List ℕ → ℕ → Flat → Numbers → Told Flat
unfilled f bytes ones before numbers =
    pick (among_zeros numbers.number numbers.place ones) (or_else numbers (read_of (H261 f) bytes numbers.place before)) (refused_by numbers)

abbrev pub by_first : Format → List ℕ → ℕ → Flat → Told Flat → Told Flat
by_first f bytes ones before (accepted d) = accepted d
by_first f bytes ones before (refused_by numbers) = unfilled f bytes ones before numbers

unfoldable pub filled_read : Format → List ℕ → ℕ → ℕ → Flat → Told Flat
filled_read f bytes count ones before = by_first f bytes ones before (read_of (H261 f) bytes (count_of f count ones) before)
