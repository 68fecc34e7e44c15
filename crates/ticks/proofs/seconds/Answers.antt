-- `ticks::seconds` meets its contract. The literal 30000.0 is the exact conversion of 30000.
-- Assumes nothing.
use borrow.Author.Rules.{rules}
use mathlib.Core.Path.{ap, ◌∙◌}
use Prim.Native.Nat.{◌*◌, ◌^◌}
use borrow.Author.Tests.{le-leb}
use denote.Floats.{passes}
use native.Mathlib.Omega.{arith}
use lib.Ieee.{div, of_int, of_bits, in_float}
use Rattle.ticks.specs.Due.{seconds_of}
use Rattle.ticks.proofs.DueLaws.{due_3750}
use Rattle.ticks.proofs.seconds.Goals as goal

pub int_to_float-result : goal.int_to_float-result
unfolding in_float
int_to_float-result c = passes _ (le-leb (1001 * c.args.tick) (2 ^ 53) (omega arith))

pub returns : goal.returns
unfolding seconds_of div of_int of_bits
returns c = record { value = search rules; exact = λ e. ap seconds_of e ∙ due_3750 }
