-- `coding::head_length` meets its contract: what its standard says. Assumes nothing.
use mathlib.Core.Path.{sym, ap, ◌∙◌}
use Rattle.coding.specs.Kind.{head_length_of}
use Rattle.coding.proofs.head_length.Goals as goal

pub returns-in-H261 : goal.returns-in-H261
returns-in-H261 c = c.head_length.ensures ∙ sym (ap head_length_of c.in-H261.is)

pub returns-in-H263 : goal.returns-in-H263
returns-in-H263 c = c.head_length-in-H263.ensures ∙ sym (ap head_length_of c.in-H263.is)
