-- `h263_reader::picture::groups` meets its contract: by turns over the groups, and within each over its macroblocks; a refusal is kept only by a break.
use Rattle.std.specs.Prelude.{◌≡◌, None}
use Rattle.layout.specs.Flat.{flat}
use Rattle.h263_reader.proofs.PictureTurn.{InRow, PictureSoFar, groups_laid, row_laid}
use Rattle.h263_reader.proofs.picture.groups.Given as goal

abbrev pub invariant-loop-column : goal.invariant-loop-column
invariant-loop-column l = record {
  going : l.stopped ≡ None;
  row : InRow (row_laid l.size l.intra l.bytes l.count l.number l.initial.place (flat l.head l.initial.macroblocks l.initial.levels)) l.bytes l.count l.size l.intra l.number l.head l.macroblocks l.levels l.gquant l.column l.place;
}

abbrev pub invariant-picture : goal.invariant-picture
invariant-picture l = record {
  going : l.stopped ≡ None;
  all : PictureSoFar (groups_laid l.size l.intra l.bytes l.count l.initial.place (flat l.initial.head l.initial.macroblocks l.initial.levels)) l.bytes l.count l.size l.intra l.head l.macroblocks l.levels l.number l.place;
}
