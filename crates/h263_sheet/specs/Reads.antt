-- Document 02, T-13, on the pictures of H.263's proof sheet: their reads, as they are, cut short, with a bit more, and of no bits. Assumes nothing.
use Rattle.std.specs.Prelude.{ℕ, ◌≡◌, List, [], ◌∷◌, ◌++◌, length, replicate}
use Rattle.bits.specs.Places.{total_width}
use Rattle.size.specs.declared.Size.TheVariants.{Qcif}
use Rattle.h263_layers.specs.Grammar.{read_widths}
use Rattle.h263_sheet.specs.Sheet.{unsent_picture, headed_picture, bytes_in}

-- PSC, TR, PTYPE, PQUANT, CPM, PEI
abbrev pub header_reads : List ℕ
header_reads = 22 ∷ 8 ∷ 13 ∷ 5 ∷ 1 ∷ 1 ∷ []

-- so many CODs
abbrev pub unsent_reads : ℕ → List ℕ
unsent_reads k = replicate k 1

pub record ReadsShown : Type 0 where
  -- every macroblock unsent: 105 reads, 149 bits
  pub all : read_widths Qcif (bytes_in unsent_picture) 149 ≡ header_reads ++ unsent_reads 99
  pub many : length (read_widths Qcif (bytes_in unsent_picture) 149) ≡ 105
  pub bits : total_width (read_widths Qcif (bytes_in unsent_picture) 149) ≡ 149
  -- one bit fewer: the last of 105 fails
  pub cut : read_widths Qcif (bytes_in unsent_picture) 148 ≡ header_reads ++ (unsent_reads 98 ++ 0 ∷ [])
  -- one bit more: 13, which is no read
  pub longer : read_widths Qcif (bytes_in unsent_picture) 150 ≡ header_reads ++ unsent_reads 99
  -- with a header at group 3: GBSC, GN, GFID and GQUANT
  pub headed : read_widths Qcif (bytes_in headed_picture) 178 ≡ header_reads ++ (unsent_reads 33 ++ (17 ∷ 5 ∷ 2 ∷ 5 ∷ unsent_reads 66))
  -- an optional mode, by PTYPE bit 10: PTYPE is the last read
  pub mode : read_widths Qcif (0x00 ∷ 0x00 ∷ 0x80 ∷ 0x06 ∷ 0x0B ∷ 0x01 ∷ []) 48 ≡ 22 ∷ 8 ∷ 13 ∷ []
  -- no bits: one read, which fails, the only N + 1
  pub none : read_widths Qcif [] 0 ≡ 0 ∷ []
