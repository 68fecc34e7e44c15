-- `fields::quantiser` meets its contract: the field is refused, or it is 0, or it is the quantiser.
use mathlib.Core.Path.{ap}
use Rattle.bits.specs.Read.{refused}
use Rattle.bits.proofs.Once.{once_field}
use Rattle.fields.proofs.Told.{no_number, is_number, number_once}
use Rattle.fields.proofs.RuleTurn.{quantiser_yes, quantiser_no}
use Rattle.fields.proofs.quantiser.Goals as goal

pub returns-in_default : goal.returns-in_default
returns-in_default c =
    let read = number_once (once_field 5) _ _ _ c.field.result c.once-read.ensures c.field.ensures in
    rw (no_number _ _ c.once-read.result c.in_default.is read) (ap refused c.stopped.ensures)

pub returns-then-found-eq0 : goal.returns-then-found-eq0
returns-then-found-eq0 c =
    let read = number_once (once_field 5) _ _ _ c.field.result c.once-read.ensures c.field.ensures in
    quantiser_no _ _ _ _ _ (is_number _ _ _ _ _ read c.in-Got.is) c.if-found-eq0.true

pub returns : goal.returns
returns c =
    let read = number_once (once_field 5) _ _ _ c.field.result c.once-read.ensures c.field.ensures in
    quantiser_yes _ _ _ _ _ (is_number _ _ _ _ _ read c.in-Got.is) c.if-found-eq0.false
