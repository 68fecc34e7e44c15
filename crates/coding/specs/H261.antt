-- H.261 as a coding: the grammar, the layout, the writer, the refresh rule and the samples of the crates below. Assumes nothing.
use Rattle.std.specs.Prelude.{ℕ, get_or}
use Rattle.h261_groups.specs.declared.Format.{Format}
use Rattle.h261_groups.specs.Format.{size_of}
use Rattle.layout.specs.Flat.{Flat}
use Rattle.h261_description.specs.Valid.{one_format, valid}
use Rattle.h261_description.specs.Fields.{refresh}
use Rattle.h261_reader.specs.Described.{described}
use Rattle.h261_writer.specs.Write.{picture_bits}
use Rattle.h261_render.specs.Sample.{rendered}
use Rattle.fields.specs.Answer.{found}
use Rattle.coding.specs.Coding.{Coding}
use Rattle.coding.specs.Lawful.{Lawful}

-- TR stands first in the head; "TR 5"
abbrev pub tr_of : Flat → ℕ
tr_of d = get_or d.head 0 0

-- the three slices have the lengths of one format; another than opened is no valid description
abbrev pub h261 : Format → Coding Flat
h261 f = record {
  read = λ bytes n. found (described f bytes n);
  named = one_format;
  valid = valid f;
  refresh = refresh f;
  written = picture_bits f;
  render = rendered f;
  tr = tr_of;
  modulus = 32;
}

abbrev pub H261Lawful : Type 0
H261Lawful = (f : Format) → Lawful (size_of f) (h261 f)
