-- `h263_validity::macroblock::valid_type` meets its contract: by the picture's type, the macroblock's. Assumes nothing.
use mathlib.Core.Path.{sym, ap, ◌∙◌}
use mathlib.Core.Bool.{Bool}
use Rattle.h263_description.specs.Valid.{valid_type}
use Rattle.h263_validity.proofs.macroblock.valid_type.Goals as goal

pub returns-then-intra : goal.returns-then-intra
returns-then-intra c =
    c.is_intra.ensures ∙ sym (ap (λ (intra : Bool). valid_type intra c.args.kind) c.if-intra.true)

pub returns : goal.returns
returns c = sym (ap (λ (intra : Bool). valid_type intra c.args.kind) c.if-intra.false)
