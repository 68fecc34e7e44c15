-- `coding::valid` meets its contract: what its standard says. Assumes nothing.
use mathlib.Core.Path.{ap, ◌∙◌}
use Rattle.layout.specs.Flat.{Flat, flat}
use Rattle.coding.specs.Coding.{Coding}
use Rattle.coding.proofs.ByKind.{coded_h261, coded_h263}
use Rattle.coding.proofs.valid.Goals as goal

pub returns-in-H261 : goal.returns-in-H261
returns-in-H261 c =
    c.valid.ensures ∙ ap (λ (x : Coding Flat). x.valid (flat c.args.head.now c.args.macroblocks.now c.args.levels.now)) (coded_h261 c.in-H261.is)

pub returns-in-H263 : goal.returns-in-H263
returns-in-H263 c =
    c.valid-in-H263.ensures ∙ ap (λ (x : Coding Flat). x.valid (flat c.args.head.now c.args.macroblocks.now c.args.levels.now)) (coded_h263 c.in-H263.is)
