-- `bch::mend` meets its contract: at each of its three ends by a law of Ends.
use mathlib.Core.Path.{sym, ◌∙◌}
use borrow.Author.Rules.{rules}
use Rattle.bch.specs.Frame.{as_places}
use Rattle.bch.proofs.Ends.{mend_clean, mend_unmended, mend_mended}
use Rattle.bch.proofs.mend.Goals as goal

pub remainder-r-requires : goal.remainder-r-requires
remainder-r-requires c = search rules

pub returns-then-r-eq0 : goal.returns-then-r-eq0
returns-then-r-eq0 c = mend_clean c.args.frame.now (sym c.remainder-r.ensures.0 ∙ c.if-r-eq0.true)

pub located-requires : goal.located-requires
located-requires c = search rules

pub changed-tried-requires : goal.changed-tried-requires
changed-tried-requires c = search rules

pub remainder-requires : goal.remainder-requires
remainder-requires c = search rules

pub returns-then-remainder-ne0 : goal.returns-then-remainder-ne0
returns-then-remainder-ne0 c =
    mend_unmended c.args.frame.now c.changed-tried.result (as_places c.located.result) c.remainder-r.result
    c.changed-tried.ensures c.located.ensures c.remainder-r.ensures.0 (λ z. c.if-remainder-ne0.true (c.remainder.ensures.0 ∙ z))

pub returns : goal.returns
returns c =
    mend_mended c.args.frame.now c.changed-tried.result (as_places c.located.result) c.remainder-r.result
    c.changed-tried.ensures c.located.ensures c.remainder-r.ensures.0 (sym c.remainder.ensures.0 ∙ c.if-remainder-ne0.false)
