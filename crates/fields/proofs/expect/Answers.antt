-- `fields::expect` meets its contract: the field is refused, or it holds the value, or it is refused for the reason.
use mathlib.Core.Path.{ap}
use Rattle.bits.specs.Read.{refused}
use Rattle.bits.proofs.Once.{once_field}
use Rattle.fields.proofs.Told.{no_number, is_number, number_once}
use Rattle.fields.proofs.RuleTurn.{expect_yes, expect_no}
use Rattle.fields.proofs.expect.Goals as goal

pub returns-in_default : goal.returns-in_default
returns-in_default c =
    let read = number_once (once_field _) _ _ _ c.field.result c.once-read.ensures c.field.ensures in
    rw (no_number _ _ c.once-read.result c.in_default.is read) (ap refused c.stopped.ensures)

pub returns-then-found-value : goal.returns-then-found-value
returns-then-found-value c =
    let read = number_once (once_field _) _ _ _ c.field.result c.once-read.ensures c.field.ensures in
    expect_yes _ _ _ _ _ _ (is_number _ _ _ _ _ read c.in-Got.is) _ _ c.if-found-value.true

pub returns-else-found-value : goal.returns-else-found-value
returns-else-found-value c =
    let read = number_once (once_field _) _ _ _ c.field.result c.once-read.ensures c.field.ensures in
    expect_no _ _ _ _ _ _ (is_number _ _ _ _ _ read c.in-Got.is) _ _ c.if-found-value.false
