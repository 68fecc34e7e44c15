-- The reads of the proof sheet's pictures follow from the definitions, computed. Assumes nothing.
use mathlib.Core.Path.{refl}
use Rattle.bits.specs.Bits.{bits_in}
use Rattle.bits.specs.Places.{total_width}
use Rattle.bits.specs.Read.{field_from}
use Rattle.bits.specs.Write.{bytes_of, byte_from}
use Rattle.fields.specs.Rules.{spares_from, spares}
use Rattle.h263_layers.specs.Start.{ahead}
use Rattle.h263_layers.specs.Grammar.{found_read, head_fields, group_head, opened_from, row_from, groups_read, ptype_read, header, picture, reading_listed}
use Rattle.h263_writer.specs.Write.{row_of, row_vectors, groups_of, picture_of}
use Rattle.h263_sheet.specs.Reads.{ReadsShown}

pub reads_shown : ReadsShown
unfolding total_width picture_of groups_of row_of row_vectors bytes_of byte_from bits_in field_from spares_from spares ahead found_read head_fields group_head opened_from row_from groups_read ptype_read header picture reading_listed
reads_shown = record { all = refl; many = refl; bits = refl; cut = refl; longer = refl; headed = refl; mode = refl; none = refl }
