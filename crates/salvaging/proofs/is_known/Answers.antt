-- `salvaging::is_known` meets its contract: by what is known. Assumes nothing.
use mathlib.Core.Path.{sym}
use Rattle.salvaging.proofs.is_known.Goals as goal

pub returns-in-Some : goal.returns-in-Some
returns-in-Some c = sym (rw c.in-Some.is)
