-- `h263_render::block::half_place` meets its contract: by the sign of the component. Assumes nothing.
use native.Mathlib.Omega.{arith}
use borrow.Author.Rules.{rules}
use Rattle.h263_render.proofs.Place.{halved_most, half_forth, back_most, half_behind}
use Rattle.h263_render.proofs.block.half_place.Goals as goal

pub overflow_add-result : goal.overflow_add-result
overflow_add-result c =
    let a = c.args in
    omega (arith, c.requires.small, halved_most a.plane a.component (search rules) c.halved.ensures)

pub overflow_sub-result : goal.overflow_sub-result
overflow_sub-result c =
    let a = c.args in
    omega (arith, back_most a.plane a.place a.component (search rules) (search rules) c.halved-else-component-lt128.ensures c.requires)

pub returns-then-component-lt128 : goal.returns-then-component-lt128
returns-then-component-lt128 c =
    let a = c.args in
    half_forth a.plane a.place a.component c.if-component-lt128.true c.halved.ensures

pub returns-else-component-lt128 : goal.returns-else-component-lt128
returns-else-component-lt128 c =
    let a = c.args in
    half_behind a.plane a.place a.component (search rules) (search rules) c.halved-else-component-lt128.ensures c.requires
