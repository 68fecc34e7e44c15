-- The reads of the proof sheet's first picture follow from the definitions. Assumes nothing.
use mathlib.Core.Path.{refl}
use Rattle.bits.specs.Bits.{bits_in}
use Rattle.bits.specs.Code.{longer, lookup, word}
use Rattle.bits.specs.Places.{total_width}
use Rattle.bits.specs.Read.{field_from}
use Rattle.bits.specs.Write.{bytes_of, byte_from}
use Rattle.fields.specs.Rules.{spares_from, spares}
use Rattle.h261_words.specs.Tables.{table1}
use Rattle.h261_layers.specs.Grammar.{mba, macroblocks_from, group_head, group, groups_read, header, picture, reading_listed}
use Rattle.h261_writer.specs.Write.{macroblocks_of, group_of, groups_of, picture_of}
use Rattle.sheet.specs.Reads.{ReadsShown}

pub reads_shown : ReadsShown
unfolding total_width picture_of groups_of group_of macroblocks_of bytes_of byte_from bits_in field_from longer lookup word table1 spares_from spares mba macroblocks_from group_head group groups_read header picture reading_listed
reads_shown = record { all = refl; sixteen = refl; bits = refl; cut = refl; none = refl }
