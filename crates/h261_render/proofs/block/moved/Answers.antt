-- `h261_render::block::moved` meets its contract: by how far the component goes on and back. Assumes nothing.
use Prim.Native.Nat.{◌+◌, ◌-◌}
use native.Mathlib.Omega.{arith}
use borrow.Author.Rules.{rules}
use Rattle.h261_render.proofs.Component.{ahead_most}
use Rattle.h261_description.specs.Moved.{moved_place}
use Rattle.h261_render.proofs.block.moved.Goals as goal

pub overflow_add-result : goal.overflow_add-result
overflow_add-result c = omega (arith, c.forth.ensures, ahead_most c.args.plane c.args.component (search rules))

pub returns : goal.returns
unfolding moved_place
returns c = λ i. c.args.place + c.forth.ensures i - c.behind.ensures i
