-- P1 to P12 of the proof sheet follow from the definitions. Assumes nothing.
use Prim.Native.Nat.{◌+◌, ◌-◌}
use mathlib.Core.Path.{◌≡◌, refl}
use mathlib.Core.List.{List, [], ◌∷◌}
use native.Mathlib.Omega.{arith}
use Rattle.laws.specs.Floor.{floor_divided}
use Rattle.laws.specs.Sum.{sum_z}
use Rattle.refusals.specs.Number.{number, read_table}
use Rattle.bits.specs.Bits.{bits_in}
use Rattle.bits.specs.Read.{field_from}
use Rattle.bits.specs.Code.{longer, lookup, word}
use Rattle.bits.specs.Write.{bytes_of, byte_from}
use Rattle.h261_words.specs.Tables.{table1, table3}
use Rattle.h261_groups.specs.declared.Format.TheVariants.{Qcif}
use Rattle.h261_description.specs.Value.{laid_picture}
use Rattle.layout.specs.Flat.{put_groups, put_macroblocks}
use Rattle.h261_description.specs.Fields.{nothing_sent}
use Rattle.h261_description.specs.Moved.{moved_place}
use Rattle.quantiser.specs.Cut.{cut, at_least, at_most}
use Rattle.quantiser.specs.Level.{magnitude, coefficient}
use Rattle.inverse.specs.Inverse.{A, S, cosine, output, inverse_at}
use Rattle.h261_filter.specs.Filter.{weighted, rounded_sixteenth, filter_at}
use Rattle.fields.specs.Rules.{spares_from, spares}
use Rattle.h261_layers.specs.Grammar.{mba, macroblocks_from, group_head, group, groups_read, header, picture, reading}
use Rattle.h261_layers.specs.Vector.{component_read}
use Rattle.h261_writer.specs.Write.{macroblocks_of, group_of, groups_of, picture_of}
use Rattle.h261_render.proofs.Reference.{nothing_same}
use Rattle.sheet.specs.Sheet.{Example, p9, p12, picture1, p8, p4, p1, p5, Each, p11, p7, p10, examples, Says, p3, p2, p6, SheetHolds}

-- reading and writing, computed
picture_1 : Says p1
unfolding picture_of groups_of group_of macroblocks_of bytes_of byte_from bits_in field_from longer lookup word table1 spares_from spares mba macroblocks_from group_head group groups_read header picture reading laid_picture put_groups put_macroblocks nothing_sent
picture_1 = (refl, refl, refl, λ reference e. nothing_same Qcif (laid_picture Qcif picture1) reference tt e)

picture_2 : Says p2
unfolding picture_of groups_of group_of macroblocks_of bytes_of byte_from bits_in field_from longer lookup word table1 spares_from spares mba macroblocks_from group_head group groups_read header picture reading number read_table
picture_2 = refl

vector_12 : Says p12
unfolding component_read longer lookup word table3 number read_table
vector_12 = λ place. refl

chroma_11 : Says p11
unfolding moved_place
chroma_11 place =
    let one : place + 0 - 1 ≡ place - 1 = omega arith in
    (one, one)

-- ---- all of them
pub shown : (x : Example) → Says x
unfolding magnitude coefficient cut at_least at_most inverse_at output floor_divided S sum_z A cosine filter_at weighted rounded_sixteenth
shown p1 = picture_1
shown p2 = picture_2
shown p3 = refl
shown p4 = refl
shown p5 = refl
shown p6 = tt
shown p7 = tt
shown p8 = tt
shown p9 = tt
shown p10 = tt
shown p11 = chroma_11
shown p12 = vector_12

pub sheet : SheetHolds
sheet = go examples
  where
    go : (xs : List Example) → Each Says xs
    go [] = tt
    go (x ∷ xs) = (shown x, go xs)
