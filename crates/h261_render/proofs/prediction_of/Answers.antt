-- `h261_render::prediction_of` meets its contract: by the kinds of types. Assumes nothing.
use borrow.Author.Rules.{rules}
use Rattle.h261_render.proofs.Picture.{kind_intra, kind_inter, kind_filtered}
use Rattle.h261_render.proofs.prediction_of.Goals as goal

pub returns-then-kind-lt3 : goal.returns-then-kind-lt3
returns-then-kind-lt3 c = kind_intra c.args.kind (search rules) c.if-kind-lt3.true

pub returns-then-kind-lt8 : goal.returns-then-kind-lt8
returns-then-kind-lt8 c = kind_inter c.args.kind (search rules) c.if-kind-lt8.true

pub returns-else-kind-lt8 : goal.returns-else-kind-lt8
returns-else-kind-lt8 c = kind_filtered c.args.kind (search rules) (search rules)
