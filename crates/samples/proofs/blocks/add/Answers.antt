-- `samples::blocks::add` meets its contract: a row of sums that is put is one row more, and the next one is as it was. Assumes nothing.
use mathlib.Core.Path.{ap, ◌∙◌}
use Prim.Native.Nat.{ℕ}
use native.Mathlib.Omega.{arith}
use borrow.Author.Rules.{rules}
use lib.IntN.{pos, nat_abs}
use Rattle.laws.proofs.Rows.{put_none, put_more, put_end, row_as}
use Rattle.laws.specs.Block.{cell}
use Rattle.quantiser.specs.Sample.{sample_of}
use Rattle.quantiser.proofs.SampleLaws.{sample_most}
use Rattle.samples.proofs.Added.{put_next, sampled}
use Rattle.samples.proofs.blocks.add.Goals as goal

pub loop-i-init : goal.loop-i-init
loop-i-init c = (search rules, put_none)

pub overflow_mul-i : goal.overflow_mul-i
overflow_mul-i c =
    omega (arith, c.requires.0.room c.loop-i.i (search rules))

pub overflow_add-to : goal.overflow_add-to
overflow_add-to c =
    omega (arith, c.requires.0.room c.loop-i.i (search rules))

pub sums-row-requires : goal.sums-row-requires
sums-row-requires c =
    record { room = omega (arith, c.requires.0.room c.loop-i.i (search rules), c.loop-i.invariant.1.size); small = c.requires.1; row = search rules }

pub overflow_mul-i-in-loop-i : goal.overflow_mul-i-in-loop-i
overflow_mul-i-in-loop-i c =
    omega (arith, c.requires.0.room c.loop-i.i (search rules))

pub overflow_add-to-in-loop-i : goal.overflow_add-to-in-loop-i
overflow_add-to-in-loop-i c =
    omega (arith, c.requires.0.room c.loop-i.i (search rules))

pub put_sums-requires : goal.put_sums-requires
put_sums-requires c =
    (omega (arith, c.requires.0.room c.loop-i.i (search rules), c.loop-i.invariant.1.size), sampled c.sums-row.ensures (λ j. sample_most _ _))

pub loop-i-preserved : goal.loop-i-preserved
loop-i-preserved c =
    (search rules, put_more c.requires.0.apart c.loop-i.invariant.1 (row_as (λ j l. ap nat_abs (c.sums-row.ensures.entries j l) ∙ ap (λ (n : ℕ). sample_of (pos n) (cell (pos 0) c.args.block.now c.loop-i.i j)) (put_next c.requires.0.apart c.loop-i.invariant.1 j)) c.put_sums.ensures))

pub returns : goal.returns
returns c = put_end c.loop-i.invariant.1 (search rules) (search rules)
