-- `listing::open_by` meets its contract: by what the standard has in the size. Assumes nothing.
use Prim.Native.Nat.{ℕ}
use mathlib.Core.Path.{◌≡◌, refl, sym, ap, ◌∙◌}
use Rattle.std.specs.Prelude.{Option}
use Rattle.coding.specs.declared.Kind.{Kind}
use Rattle.refusals.specs.Number.{number, read_table}
use Rattle.refusals.specs.Told.{Told}
use Rattle.standing.specs.declared.Receiver.{Receiver}
use Rattle.listing.specs.Listed.{opened_kind}
use Rattle.listing.proofs.open_by.Goals as goal

by_kind : (clip : ℕ) {found has arm : Option Kind} {opened : Told Receiver} → found ≡ has → found ≡ arm → opened ≡ opened_kind clip arm → opened ≡ opened_kind clip has
by_kind clip f e o = o ∙ ap (opened_kind clip) (sym e ∙ f)

pub returns-in-Some : goal.returns-in-Some
returns-in-Some c =
    by_kind c.args.header.clip c.kind_in.ensures c.in-Some.is c.«open».ensures

pub returns-in-None : goal.returns-in-None
unfolding number read_table
returns-in-None c =
    by_kind c.args.header.clip c.kind_in.ensures c.in-None.is refl
