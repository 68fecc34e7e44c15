-- `coding::levels_length` meets its contract: what its standard says. Assumes nothing.
use mathlib.Core.Path.{sym, ap, ◌∙◌}
use Rattle.coding.specs.Kind.{levels_length_of}
use Rattle.coding.proofs.levels_length.Goals as goal

pub returns-in-H261 : goal.returns-in-H261
returns-in-H261 c = c.levels_length.ensures ∙ sym (ap levels_length_of c.in-H261.is)

pub returns-in-H263 : goal.returns-in-H263
returns-in-H263 c = c.levels_length-in-H263.ensures ∙ sym (ap levels_length_of c.in-H263.is)
