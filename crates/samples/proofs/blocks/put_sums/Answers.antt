-- `samples::blocks::put_sums` meets its contract: a sample is a byte. Assumes nothing.
use mathlib.Core.Path.{ap}
use borrow.Author.Rules.{rules}
use lib.IntN.{nat_abs}
use mir.Syntax.{w16}
use mir.Facts.{Fits-below}
use Rattle.laws.proofs.Integer.{back}
use Rattle.laws.proofs.Rows.{row_none, row_more, row_end}
use Rattle.quantiser.proofs.SampleLaws.{sample_low, sample_not_negative, sample_size}
use Rattle.samples.proofs.blocks.put_sums.Goals as goal

pub loop-j-init : goal.loop-j-init
loop-j-init c = (search rules, row_none)

pub overflow_cast-store : goal.overflow_cast-store
overflow_cast-store c =
    let s = c.requires.1 c.loop-j.j (search rules) in
    rw (back w16 tt (sample_low s)) (sample_not_negative s, Fits-below {n = 255} tt (sample_size s))

pub loop-j-preserved : goal.loop-j-preserved
loop-j-preserved c =
    (search rules, row_more c.loop-j.invariant.1 (search rules) (ap nat_abs (back w16 tt (sample_low (c.requires.1 c.loop-j.j (search rules))))))

pub returns : goal.returns
returns c = row_end c.loop-j.invariant.1 (search rules) (search rules)
