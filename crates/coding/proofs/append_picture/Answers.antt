-- `coding::append_picture` meets its contract: what the writer of its standard appends. Assumes nothing.
use Rattle.layout.specs.Flat.{flat}
use Rattle.coding.proofs.ByKind.{coded_h261, coded_h263, says_wrote, is_valid}
use Rattle.coding.proofs.append_picture.Goals as goal

pub append_picture-requires : goal.append_picture-requires
append_picture-requires c =
    is_valid (coded_h261 c.in-H261.is) (flat c.args.head.now c.args.macroblocks.now c.args.levels.now) c.requires

pub append_picture-requires-in-H263 : goal.append_picture-requires-in-H263
append_picture-requires-in-H263 c =
    is_valid (coded_h263 c.in-H263.is) (flat c.args.head.now c.args.macroblocks.now c.args.levels.now) c.requires

pub returns-in-H261 : goal.returns-in-H261
returns-in-H261 c =
    says_wrote (coded_h261 c.in-H261.is) (flat c.args.head.now c.args.macroblocks.now c.args.levels.now)
    c.append_picture.ensures

pub returns-in-H263 : goal.returns-in-H263
returns-in-H263 c =
    says_wrote (coded_h263 c.in-H263.is) (flat c.args.head.now c.args.macroblocks.now c.args.levels.now)
    c.append_picture-in-H263.ensures
