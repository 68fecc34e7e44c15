-- H.263 as a coding: the grammar, the layout, the writer, the refresh rule and the samples of the crates below. Assumes nothing.
use Rattle.size.specs.declared.Size.{Size}
use Rattle.layout.specs.Flat.{Flat}
use Rattle.fields.specs.Answer.{found}
use Rattle.h263_description.specs.Valid.{one_size, valid}
use Rattle.h263_description.specs.Fields.{refresh}
use Rattle.h263_reader.specs.Described.{described}
use Rattle.h263_writer.specs.Write.{picture_bits}
use Rattle.h263_render.specs.Sample.{rendered}
use Rattle.coding.specs.Coding.{Coding}
use Rattle.coding.specs.Lawful.{Lawful}
use Rattle.coding.specs.H261.{tr_of}

-- the three slices have the lengths of one size; another than opened is no valid description. "refresh .. means a picture of type INTRA"; "TR 22 (8)"
abbrev pub h263 : Size → Coding Flat
h263 size = record {
  read = λ bytes n. found (described size bytes n);
  named = one_size;
  valid = valid size;
  refresh = refresh;
  written = picture_bits size;
  render = rendered size;
  tr = tr_of;
  modulus = 256;
}

abbrev pub H263Lawful : Type 0
H263Lawful = (size : Size) → Lawful size (h263 size)
