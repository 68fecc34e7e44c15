-- `samples::blocks::put` meets its contract: a row that is cut and put is one row more. Assumes nothing.
use mathlib.Core.Path.{ap}
use native.Mathlib.Omega.{arith}
use borrow.Author.Rules.{rules}
use lib.IntN.{nat_abs}
use Rattle.laws.proofs.Rows.{put_none, put_more, put_end, row_as}
use Rattle.quantiser.proofs.SampleLaws.{sample_most}
use Rattle.samples.proofs.Added.{sampled}
use Rattle.samples.proofs.blocks.put.Goals as goal

pub loop-i-init : goal.loop-i-init
loop-i-init c = (search rules, put_none)

pub cuts-row-requires : goal.cuts-row-requires
cuts-row-requires c = (c.requires.1, search rules)

pub overflow_mul-i : goal.overflow_mul-i
overflow_mul-i c =
    omega (arith, c.requires.0.room c.loop-i.i (search rules))

pub overflow_add-to : goal.overflow_add-to
overflow_add-to c =
    omega (arith, c.requires.0.room c.loop-i.i (search rules))

pub put_sums-requires : goal.put_sums-requires
put_sums-requires c =
    (omega (arith, c.requires.0.room c.loop-i.i (search rules), c.loop-i.invariant.1.size), sampled c.cuts-row.ensures (λ j. sample_most _ _))

pub loop-i-preserved : goal.loop-i-preserved
loop-i-preserved c =
    (search rules, put_more c.requires.0.apart c.loop-i.invariant.1 (row_as (λ j l. ap nat_abs (c.cuts-row.ensures.entries j l)) c.put_sums.ensures))

pub returns : goal.returns
returns c = put_end c.loop-i.invariant.1 (search rules) (search rules)
