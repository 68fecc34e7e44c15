-- `bch::fed_short` meets its contract: the code is the definition.
use mathlib.Core.Path.{refl}
use Prim.Native.Nat.{◌/◌, ◌%◌}
use native.Mathlib.Omega.{arith}
use borrow.Author.Rules.{rules}
use Rattle.bch.specs.Division.{up}
use Rattle.bch.proofs.Register.{scaled}
use Rattle.bch.proofs.fed_short.Goals as goal

pub overflow_mul-result : goal.overflow_mul-result
overflow_mul-result c = search rules

pub overflow_mul-result-2 : goal.overflow_mul-result-2
overflow_mul-result-2 c = record { fits = scaled (c.args.register / 256 % 2) c.args.rest (omega arith) (omega arith) }

pub returns : goal.returns
unfolding up
returns c = refl
