-- Reading a picture in counted places: it is the rules' reading, and counts its list of reads. Assumes nothing.
use Prim.Native.Nat.{ℕ, suc, ◌*◌}
use mathlib.Core.Path.{◌≡◌, sym, ap, ◌∙◌}
use mathlib.Core.Bool.{Bool, true, false}
use mathlib.Core.List.{List}
use native.Mathlib.Nat.{le_refl}
use lib.Dec.{ltb}
use lib.ListN.{length}
use Rattle.laws.specs.Choice.{pick, either}
use Rattle.refusals.specs.declared.Reason.TheVariants.{Count}
use Rattle.refusals.specs.Number.{refusal}
use Rattle.bits.specs.Bits.{source}
use Rattle.bits.specs.Places.{Places, plain, counted, listed, seen_place, stop_in, unread_place}
use Rattle.bits.specs.Read.{ReadIn, Read, refused, seen_read}
use Rattle.bits.proofs.Seen.{seen_stop}
use Rattle.fields.specs.Answer.{map_read, place_of}
use Rattle.fields.proofs.Uncounted.{uncounted, count_in, seen_uncounted, seen_count, map-uncounted, map_count}
use Rattle.size.specs.Size.{limit}
use Rattle.h261_groups.specs.Format.{size_of}
use Rattle.h261_groups.specs.declared.Format.{Format}
use Rattle.layout.specs.Flat.{Flat}
use Rattle.h261_description.specs.Value.{Picture, laid_picture}
use Rattle.h261_layers.specs.Grammar.{picture, reading_from, reading, reading_listed, read_widths}
use Rattle.h261_layers.proofs.Layers.{picture_reads}
use Rattle.h261_reader.specs.Described.{described}

-- places of any kind see the list of reads
pub reading_sees : (P : Places) (f : Format) (s : List ℕ) (n : ℕ) → reading_from (seen_place P unread_place) f s n ≡ seen_read P (reading_listed f s n)
unfolding reading_listed
reading_sees P f s n = by (either (ltb (8 * length s) n) (ltb (limit (size_of f)) n))
  where
    by : (above : Bool) → pick above (refused (stop_in P (refusal Count 0) (seen_place P unread_place))) (picture f (source s n) (seen_place P unread_place))
        ≡ seen_read P (pick above (refused (stop_in listed (refusal Count 0) unread_place)) (picture f (source s n) unread_place))
    by true = ap (λ x. refused x) (seen_stop P (refusal Count 0) unread_place)
    by false = (picture_reads f).sees P (source s n) unread_place (le_refl (suc (length (source s n))))

pub reading-plain : (f : Format) (s : List ℕ) (n : ℕ) → reading f s n ≡ seen_read plain (reading_listed f s n)
unfolding reading
reading-plain f s n = reading_sees plain f s n

-- ---- laid out, as the code reads it
abbrev pub described_counted : Format → List ℕ → ℕ → ReadIn counted Flat
described_counted f s n = map_read (laid_picture f) (reading_from (place_of 0 0) f s n)

module _ (f : Format) (s : List ℕ) (n : ℕ) where
  pub described-uncounted : uncounted (described_counted f s n) ≡ described f s n
  unfolding described reading
  described-uncounted =
      map-uncounted (laid_picture f) (reading_from (place_of 0 0) f s n)
      ∙ ap (λ (x : ReadIn counted Picture). map_read (laid_picture f) (uncounted x)) (reading_sees counted f s n)
      ∙ ap (λ (x : Read Picture). map_read (laid_picture f) x) (seen_uncounted (reading_listed f s n) ∙ sym (reading_sees plain f s n))

  pub described_count_is : count_in (described_counted f s n) ≡ length (read_widths f s n)
  described_count_is =
      map_count (laid_picture f) (reading_from (place_of 0 0) f s n) ∙ ap (λ (x : ReadIn counted Picture). count_in x) (reading_sees counted f s n) ∙ seen_count (reading_listed f s n)
