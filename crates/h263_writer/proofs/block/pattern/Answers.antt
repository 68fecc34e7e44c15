-- `block::pattern` meets its contract: six blocks, each doubling what stands before.
use Prim.Native.Nat.{◌≤◌}
use native.Mathlib.Omega.{arith}
use lib.Dec.{lit<}
use Rattle.layout.specs.Flat.{gathers}
use Rattle.h263_writer.specs.Write.{pattern_of}
use Rattle.h263_writer.proofs.BlockTurn.{present_asked, pattern_is, pattern_low}
use Rattle.h263_writer.proofs.block.pattern.Goals as goal
use Rattle.h263_writer.proofs.block.pattern.Goals.{After-present-f}

low : (c : After-present-f) → pattern_of c.args.intra (gathers 6 c.args.levels.now) ≤ 63
low c = pattern_low c.args.intra c.args.levels.now

pub present-a-requires : goal.present-a-requires
present-a-requires c = present_asked c.requires 0 (lit< tt)

pub present-b-requires : goal.present-b-requires
present-b-requires c =
    present_asked c.requires 1 (lit< tt)

pub present-c-requires : goal.present-c-requires
present-c-requires c =
    present_asked c.requires 2 (lit< tt)

pub present-d-requires : goal.present-d-requires
present-d-requires c =
    present_asked c.requires 3 (lit< tt)

pub present-e-requires : goal.present-e-requires
present-e-requires c =
    present_asked c.requires 4 (lit< tt)

pub present-f-requires : goal.present-f-requires
present-f-requires c =
    present_asked c.requires 5 (lit< tt)

pub returns : goal.returns
returns c =
    pattern_is c.args.intra c.args.levels.now _ _ _ _ _ _ c.present-a.ensures c.present-b.ensures c.present-c.ensures c.present-d.ensures c.present-e.ensures c.present-f.ensures

pub overflow_mul-result : goal.overflow_mul-result
overflow_mul-result c = omega (arith, returns c, low c)

pub overflow_mul-result-2 : goal.overflow_mul-result-2
overflow_mul-result-2 c = omega (arith, returns c, low c)

pub overflow_add-result : goal.overflow_add-result
overflow_add-result c = omega (arith, returns c, low c)

pub overflow_mul-result-3 : goal.overflow_mul-result-3
overflow_mul-result-3 c = omega (arith, returns c, low c)

pub overflow_add-result-2 : goal.overflow_add-result-2
overflow_add-result-2 c = omega (arith, returns c, low c)

pub overflow_mul-result-4 : goal.overflow_mul-result-4
overflow_mul-result-4 c = omega (arith, returns c, low c)

pub overflow_add-result-3 : goal.overflow_add-result-3
overflow_add-result-3 c = omega (arith, returns c, low c)

pub overflow_mul-result-5 : goal.overflow_mul-result-5
overflow_mul-result-5 c = omega (arith, returns c, low c)

pub overflow_add-result-4 : goal.overflow_add-result-4
overflow_add-result-4 c = omega (arith, returns c, low c)

pub overflow_add-result-5 : goal.overflow_add-result-5
overflow_add-result-5 c = omega (arith, returns c, low c)
