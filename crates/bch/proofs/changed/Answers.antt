-- `bch::changed` meets its contract: by cases on the places.
use mathlib.Core.Path.{sym, subst}
use borrow.Author.Rules.{rules}
use Rattle.bch.specs.Frame.{as_places, Changed}
use Rattle.bch.specs.declared.Places.{Places}
use Rattle.bch.proofs.TurnedBits.{as_it_is, turned_two}
use Rattle.bch.proofs.changed.Goals as goal

pub turned-requires : goal.turned-requires
turned-requires c = search rules

pub turned-requires-in-Two : goal.turned-requires-in-Two
turned-requires-in-Two c = search rules

pub turned-requires-in-Two-2 : goal.turned-requires-in-Two-2
turned-requires-in-Two-2 c = search rules

pub returns-in-Nowhere : goal.returns-in-Nowhere
returns-in-Nowhere c = subst (λ (p : Places). Changed (as_places p) c.args.frame c.args.frame) (sym c.in-Nowhere.is) (as_it_is c.args.frame)

pub returns-in-One : goal.returns-in-One
returns-in-One c = subst (λ (p : Places). Changed (as_places p) c.args.frame c.turned.result) (sym c.in-One.is) c.turned.ensures

pub returns-in-Two : goal.returns-in-Two
returns-in-Two c =
    subst (λ (p : Places). Changed (as_places p) c.args.frame c.turned-in-Two-2.result) (sym c.in-Two.is)
    (turned_two c.in-Two.m c.in-Two.n c.args.frame c.turned-in-Two.result c.turned-in-Two-2.result c.turned-in-Two.ensures c.turned-in-Two-2.ensures)
