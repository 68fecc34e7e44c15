-- The examples of H.263's proof sheet follow from the definitions, computed. Assumes nothing.
use mathlib.Core.Path.{refl}
use mathlib.Core.List.{List, [], ◌∷◌}
use Rattle.laws.specs.Floor.{floor_divided}
use Rattle.refusals.specs.Number.{number, read_table}
use Rattle.bits.specs.Bits.{bits_in}
use Rattle.bits.specs.Read.{field_from}
use Rattle.bits.specs.Code.{longer, lookup, word}
use Rattle.bits.specs.Write.{bytes_of, byte_from}
use Rattle.fields.specs.Rules.{spares_from, spares}
use Rattle.quantiser.specs.Cut.{cut, at_least, at_most}
use Rattle.h263_words.specs.Tables.{mvd}
use Rattle.h263_description.specs.Fields.{quantiser_cut, quantiser_changed}
use Rattle.h263_description.specs.Moved.{chroma}
use Rattle.h263_layers.specs.Start.{ahead}
use Rattle.h263_layers.specs.Grammar.{found_read, head_fields, group_head, opened_from, row_from, groups_read, ptype_read, header, picture, reading}
use Rattle.h263_layers.specs.Vector.{component_read}
use Rattle.h263_writer.specs.Write.{row_of, row_vectors, groups_of, picture_of}
use Rattle.h263_halves.specs.Half.{half_sample}
use Rattle.h263_render.specs.Reference.{nothing_sent}
use Rattle.h263_render.proofs.Reference.{nothing_same}
use Rattle.layout.specs.Flat.{put_groups, put_macroblocks}
use Rattle.size.specs.declared.Size.TheVariants.{Qcif}
use Rattle.h263_description.specs.Value.{laid_picture}
use Rattle.h263_sheet.specs.Sheet.{Example, unsent_example, cut_example, longer_example, headed_example, chroma_example, halves_example, quantiser_example, wrapped_example, median_example, unsent_picture, examples, Says, Each, SheetHolds}

pub shown : (x : Example) → Says x
unfolding picture_of groups_of row_of row_vectors bytes_of byte_from bits_in field_from spares_from spares ahead found_read head_fields group_head opened_from row_from groups_read ptype_read header picture reading number read_table floor_divided chroma cut at_least at_most quantiser_cut quantiser_changed component_read longer lookup word mvd half_sample nothing_sent laid_picture put_groups put_macroblocks
shown unsent_example = (refl, refl, refl, λ reference e. nothing_same Qcif (laid_picture Qcif unsent_picture) reference tt e)
shown cut_example = refl
shown longer_example = refl
shown headed_example = (refl, refl)
shown chroma_example = (refl, refl)
shown halves_example = (refl, refl, refl)
shown quantiser_example = refl
shown wrapped_example = λ place. refl
shown median_example = refl

all : (xs : List Example) → Each Says xs
all [] = tt
all (x ∷ xs) = (shown x, all xs)

pub sheet : SheetHolds
sheet = all examples
