-- `coding::has_lengths` meets its contract: what its standard says. Assumes nothing.
use mathlib.Core.Path.{sym, ap, ◌∙◌}
use Rattle.layout.specs.Flat.{flat}
use Rattle.layout.specs.Valid.{has_lengths}
use Rattle.coding.specs.declared.Kind.{Kind}
use Rattle.coding.specs.Kind.{shape_of}
use Rattle.coding.proofs.has_lengths.Goals as goal

pub returns-in-H261 : goal.returns-in-H261
returns-in-H261 c =
    c.lengths.ensures ∙ ap (λ (k : Kind). has_lengths (shape_of k) (flat c.args.head.now c.args.macroblocks.now c.args.levels.now)) (sym c.in-H261.is)

pub returns-in-H263 : goal.returns-in-H263
returns-in-H263 c =
    c.lengths-in-H263.ensures ∙ ap (λ (k : Kind). has_lengths (shape_of k) (flat c.args.head.now c.args.macroblocks.now c.args.levels.now)) (sym c.in-H263.is)
