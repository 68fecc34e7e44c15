-- `block::pattern` meets its contract: six blocks, each doubling what stands before.
use native.Mathlib.Omega.{arith}
use Prim.Native.Nat.{◌≤◌}
use Rattle.layout.specs.Flat.{gathers}
use Rattle.layout.specs.Pattern.{pattern_of}
use Rattle.h261_writer.proofs.BlockTurn.{pattern_low, pattern_is}
use Rattle.h261_writer.proofs.block.pattern.Goals as goal
use Rattle.h261_writer.proofs.block.pattern.Goals.{After-present-f}

low : (c : After-present-f) → pattern_of (gathers 6 c.args.levels.now) ≤ 63
low c = pattern_low c.args.levels.now

pub returns : goal.returns
returns c =
    pattern_is c.args.levels.now _ _ _ _ _ _ c.present-a.ensures c.present-b.ensures c.present-c.ensures c.present-d.ensures c.present-e.ensures c.present-f.ensures

pub overflow_mul-result : goal.overflow_mul-result
overflow_mul-result c = omega (arith, returns c, low c)

pub overflow_mul-result-2 : goal.overflow_mul-result-2
overflow_mul-result-2 c = omega (arith, returns c, low c)

pub overflow_add-result : goal.overflow_add-result
overflow_add-result c = omega (arith, returns c, low c)

pub overflow_mul-result-3 : goal.overflow_mul-result-3
overflow_mul-result-3 c = omega (arith, returns c, low c)

pub overflow_add-result-2 : goal.overflow_add-result-2
overflow_add-result-2 c = omega (arith, returns c, low c)

pub overflow_mul-result-4 : goal.overflow_mul-result-4
overflow_mul-result-4 c = omega (arith, returns c, low c)

pub overflow_add-result-3 : goal.overflow_add-result-3
overflow_add-result-3 c = omega (arith, returns c, low c)

pub overflow_mul-result-5 : goal.overflow_mul-result-5
overflow_mul-result-5 c = omega (arith, returns c, low c)

pub overflow_add-result-4 : goal.overflow_add-result-4
overflow_add-result-4 c = omega (arith, returns c, low c)

pub overflow_add-result-5 : goal.overflow_add-result-5
overflow_add-result-5 c = omega (arith, returns c, low c)
