-- Document 02, T-13, on the proof sheet's first picture: its reads, as it is, cut short, and of no bits. Assumes nothing.
use Rattle.std.specs.Prelude.{ℕ, ◌≡◌, List, [], ◌∷◌, ◌++◌, length}
use Rattle.bits.specs.Places.{total_width}
use Rattle.h261_groups.specs.declared.Format.TheVariants.{Qcif}
use Rattle.h261_layers.specs.Grammar.{read_widths}
use Rattle.sheet.specs.Sheet.{bytes1}

-- PSC, TR, PTYPE, PEI; the first GBSC, then GN, GQUANT, GEI and, at the first MBA place, the start code that closes the group, until the bits end
abbrev pub reads1 : List ℕ
reads1 = 20 ∷ 5 ∷ 6 ∷ 1 ∷ 16 ∷ 4 ∷ 5 ∷ 1 ∷ 16 ∷ 4 ∷ 5 ∷ 1 ∷ 16 ∷ 4 ∷ 5 ∷ []

pub record ReadsShown : Type 0 where
  -- P1: 16 reads, 110 bits
  pub all : read_widths Qcif bytes1 110 ≡ reads1 ++ 1 ∷ []
  pub sixteen : length (read_widths Qcif bytes1 110) ≡ 16
  pub bits : total_width (read_widths Qcif bytes1 110) ≡ 110
  -- P2, cut to 109 bits: the last of 16 fails
  pub cut : read_widths Qcif bytes1 109 ≡ reads1 ++ 0 ∷ []
  -- no bits: one read, which fails, the only N + 1
  pub none : read_widths Qcif [] 0 ≡ 0 ∷ []
