-- Reading a picture in counted places: it is the rules' reading, and counts its list of reads. Assumes nothing.
use Prim.Native.Nat.{ℕ}
use mathlib.Core.Path.{◌≡◌, sym, ap, ◌∙◌}
use mathlib.Core.List.{List}
use lib.ListN.{length}
use Rattle.bits.specs.Places.{plain, counted}
use Rattle.bits.specs.Read.{ReadIn, Read}
use Rattle.fields.specs.Answer.{map_read, place_of}
use Rattle.fields.proofs.Uncounted.{uncounted, count_in, seen_uncounted, seen_count, map-uncounted, map_count}
use Rattle.size.specs.declared.Size.{Size}
use Rattle.layout.specs.Flat.{Flat}
use Rattle.h263_description.specs.Value.{Picture, laid_picture}
use Rattle.h263_layers.specs.Grammar.{reading_from, reading, reading_listed, read_widths}
use Rattle.h263_layers.proofs.PictureReads.{reading_sees}
use Rattle.h263_reader.specs.Described.{described}

-- laid out, as the code reads it
abbrev pub described_counted : Size → List ℕ → ℕ → ReadIn counted Flat
described_counted size s n = map_read (laid_picture size) (reading_from (place_of 0 0) size s n)

module _ (size : Size) (s : List ℕ) (n : ℕ) where
  pub described-uncounted : uncounted (described_counted size s n) ≡ described size s n
  unfolding described reading
  described-uncounted =
      map-uncounted (laid_picture size) (reading_from (place_of 0 0) size s n)
      ∙ ap (λ (x : ReadIn counted Picture). map_read (laid_picture size) (uncounted x)) (reading_sees counted size s n)
      ∙ ap (λ (x : Read Picture). map_read (laid_picture size) x) (seen_uncounted (reading_listed size s n) ∙ sym (reading_sees plain size s n))

  pub described_count_is : count_in (described_counted size s n) ≡ length (read_widths size s n)
  described_count_is =
      map_count (laid_picture size) (reading_from (place_of 0 0) size s n) ∙ ap (λ (x : ReadIn counted Picture). count_in x) (reading_sees counted size s n) ∙ seen_count (reading_listed size s n)
