-- `h263_reader::laid` meets its contract: the header's fields over zeros, the groups laid out, and then the end.
use mathlib.Core.Path.{ap}
use native.Mathlib.Omega.{arith}
use lib.ListN.{length-set}
use Rattle.h263_layers.specs.Answer.{header_in}
use Rattle.levels.proofs.Buffers.{zeros_lengths}
use Rattle.layout.specs.Flat.{Flat}
use Rattle.h263_description.specs.Value.{shape}
use Rattle.h263_reader.proofs.ParseSteps.{picture_laid}
use Rattle.h263_reader.proofs.laid.Goals as goal

pub bounds-head-0 : goal.bounds-head-0
bounds-head-0 c = omega (arith, (zeros_lengths (shape c.args.size) c.requires.1).head_length)

pub bounds-head-1 : goal.bounds-head-1
bounds-head-1 c = simp length-set (omega (arith, (zeros_lengths (shape c.args.size) c.requires.1).head_length))

pub bounds-head-2 : goal.bounds-head-2
bounds-head-2 c = simp length-set (omega (arith, (zeros_lengths (shape c.args.size) c.requires.1).head_length))

pub bounds-head-3 : goal.bounds-head-3
bounds-head-3 c = simp length-set (omega (arith, (zeros_lengths (shape c.args.size) c.requires.1).head_length))

pub bounds-head-4 : goal.bounds-head-4
bounds-head-4 c = simp length-set (omega (arith, (zeros_lengths (shape c.args.size) c.requires.1).head_length))

pub groups-read-requires : goal.groups-read-requires
groups-read-requires c =
    let long = zeros_lengths (shape c.args.size) c.requires.1 in
    record {
      reading = record { tabled = c.tables-tables.ensures; placed = c.requires.0 };
      head_long = simp length-set long.head_length;
      ms_blank = ap (λ (d : Flat). d.macroblocks) c.requires.1;
      ls_long = long.levels_length;
    }

pub returns : goal.returns
returns c =
    picture_laid c.args.size (header_in c.args.said) _ _ _ c.groups-read.result _ _ _ _ _ c.ended.ensures c.format_number.ensures c.requires.1 c.groups-read.ensures
