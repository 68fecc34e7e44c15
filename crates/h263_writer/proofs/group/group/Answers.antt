-- `group::group` meets its contract: the header, where it stands, then the row.
use Rattle.bits.proofs.Appended.{wrote_then}
use Rattle.h263_writer.proofs.GroupTurn.{head_counts, row_asked}
use Rattle.h263_writer.proofs.group.group.Goals as goal

pub header-ready-requires : goal.header-ready-requires
header-ready-requires c =
    (c.requires.numbered, c.requires.quantised, head_counts c.requires)

pub row-requires : goal.row-requires
row-requires c =
    row_asked c.requires c.header-ready.ensures

pub returns : goal.returns
returns c =
    wrote_then c.header-ready.ensures c.row.ensures
