-- `samples::levels::united` meets its contract: bits together are none where each number is 0. Assumes nothing.
use mathlib.Core.Path.{refl}
use borrow.Author.Rules.{rules}
use Rattle.quantiser.specs.Level.{bytes_from}
use Rattle.samples.proofs.Zeros.{or_more, or_end}
use Rattle.samples.proofs.levels.united.Goals as goal

pub loop-k-init : goal.loop-k-init
loop-k-init c = (search rules, refl)

pub loop-k-preserved : goal.loop-k-preserved
loop-k-preserved c =
    let l = c.loop-k in
    (search rules, or_more (bytes_from c.args.levels.now c.args.from) l.bits l.k l.invariant.1)

pub returns : goal.returns
returns c =
    let l = c.loop-k in
    or_end (bytes_from c.args.levels.now c.args.from) l.k c.args.count l.invariant.1 (search rules) (search rules)
