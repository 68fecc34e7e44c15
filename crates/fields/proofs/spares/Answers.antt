-- `fields::spares` meets its contract: each turn of the loop reads PEI or GEI, and where it is 1 eight bits more; what is left to read gets shorter.
use mathlib.Core.Path.{◌≡◌, ap, ◌∙◌}
use borrow.Author.Rules.{rules}
use native.Mathlib.Omega.{arith}
use Rattle.bits.specs.Bits.{bits_left}
use Rattle.bits.specs.Places.{counted}
use Rattle.bits.specs.Read.{got, refused, field}
use Rattle.bits.specs.Answer.{Placed}
use Rattle.bits.proofs.Once.{once_field}
use Rattle.fields.specs.Answer.{as_number}
use Rattle.fields.proofs.Told.{no_number, is_number, number_once}
use Rattle.fields.proofs.RuleTurn.{spares_first, spares-refused, spares-none, spares_at, spares_inside, spares_less, spares_more}
use Rattle.fields.proofs.spares.Goals as goal
use Rattle.fields.proofs.spares.Goals.{After-field-in-loop-bit, After-stopped, After-stopped-in_default-spare, Else-bit-eq0, In-Got-spare, Then-bit-eq0}

more_read : (c : After-stopped) → as_number c.args.bytes.now c.args.count c.once-more.result
    ≡ field {P = counted} 1 (bits_left c.args.bytes.now c.args.count c.loop-bit.at.bit) c.loop-bit.at
more_read c = number_once (once_field 1) _ _ _ c.field.result c.once-more.ensures c.field.ensures

more_read-at2 : (c : Then-bit-eq0) → as_number c.args.bytes.now c.args.count c.once-more.result
    ≡ field {P = counted} 1 (bits_left c.args.bytes.now c.args.count c.loop-bit.at.bit) c.loop-bit.at
more_read-at2 c = number_once (once_field 1) _ _ _ c.field.result c.once-more.ensures c.field.ensures

more_read-at3 : (c : Else-bit-eq0) → as_number c.args.bytes.now c.args.count c.once-more.result
    ≡ field {P = counted} 1 (bits_left c.args.bytes.now c.args.count c.loop-bit.at.bit) c.loop-bit.at
more_read-at3 c = number_once (once_field 1) _ _ _ c.field.result c.once-more.ensures c.field.ensures

more_got : (c : Else-bit-eq0) → field {P = counted} 1 (bits_left c.args.bytes.now c.args.count c.loop-bit.at.bit) c.loop-bit.at
    ≡ got c.in-Got.bit (bits_left c.args.bytes.now c.args.count c.in-Got.after.bit) c.in-Got.after
more_got c = is_number _ _ _ _ _ (more_read-at3 c) c.in-Got.is

more_placed : (c : Else-bit-eq0) → Placed c.args.bytes.now c.args.count c.in-Got.after
more_placed c = spares_at c.loop-bit.invariant _ _ (more_got c)

more_read-at4 : (c : After-field-in-loop-bit) → as_number c.args.bytes.now c.args.count c.once-more.result
    ≡ field {P = counted} 1 (bits_left c.args.bytes.now c.args.count c.loop-bit.at.bit) c.loop-bit.at
more_read-at4 c = number_once (once_field 1) _ _ _ c.field.result c.once-more.ensures c.field.ensures

more_got-at2 : (c : After-field-in-loop-bit) → field {P = counted} 1 (bits_left c.args.bytes.now c.args.count c.loop-bit.at.bit) c.loop-bit.at
    ≡ got c.in-Got.bit (bits_left c.args.bytes.now c.args.count c.in-Got.after.bit) c.in-Got.after
more_got-at2 c = is_number _ _ _ _ _ (more_read-at4 c) c.in-Got.is

more_placed-at2 : (c : After-field-in-loop-bit) → Placed c.args.bytes.now c.args.count c.in-Got.after
more_placed-at2 c = spares_at c.loop-bit.invariant _ _ (more_got-at2 c)

more_read-at5 : (c : After-stopped-in_default-spare) → as_number c.args.bytes.now c.args.count c.once-more.result
    ≡ field {P = counted} 1 (bits_left c.args.bytes.now c.args.count c.loop-bit.at.bit) c.loop-bit.at
more_read-at5 c = number_once (once_field 1) _ _ _ c.field.result c.once-more.ensures c.field.ensures

more_got-at3 : (c : After-stopped-in_default-spare) → field {P = counted} 1 (bits_left c.args.bytes.now c.args.count c.loop-bit.at.bit) c.loop-bit.at
    ≡ got c.in-Got.bit (bits_left c.args.bytes.now c.args.count c.in-Got.after.bit) c.in-Got.after
more_got-at3 c = is_number _ _ _ _ _ (more_read-at5 c) c.in-Got.is

spare_read : (c : After-stopped-in_default-spare) → as_number c.args.bytes.now c.args.count c.once-spare.result
    ≡ field {P = counted} 8 (bits_left c.args.bytes.now c.args.count c.in-Got.after.bit) c.in-Got.after
spare_read c = number_once (once_field 8) _ _ _ c.field-in-loop-bit.result c.once-spare.ensures c.field-in-loop-bit.ensures

more_read-at6 : (c : In-Got-spare) → as_number c.args.bytes.now c.args.count c.once-more.result
    ≡ field {P = counted} 1 (bits_left c.args.bytes.now c.args.count c.loop-bit.at.bit) c.loop-bit.at
more_read-at6 c = number_once (once_field 1) _ _ _ c.field.result c.once-more.ensures c.field.ensures

more_got-at4 : (c : In-Got-spare) → field {P = counted} 1 (bits_left c.args.bytes.now c.args.count c.loop-bit.at.bit) c.loop-bit.at
    ≡ got c.in-Got.bit (bits_left c.args.bytes.now c.args.count c.in-Got.after.bit) c.in-Got.after
more_got-at4 c = is_number _ _ _ _ _ (more_read-at6 c) c.in-Got.is

spare_read-at2 : (c : In-Got-spare) → as_number c.args.bytes.now c.args.count c.once-spare.result
    ≡ field {P = counted} 8 (bits_left c.args.bytes.now c.args.count c.in-Got.after.bit) c.in-Got.after
spare_read-at2 c = number_once (once_field 8) _ _ _ c.field-in-loop-bit.result c.once-spare.ensures c.field-in-loop-bit.ensures

pub loop-bit-init : goal.loop-bit-init
loop-bit-init c = spares_first _ _ _ c.requires

pub field-requires : goal.field-requires
field-requires c = (c.loop-bit.invariant.placed.within, search rules)

pub once-more-requires : goal.once-more-requires
once-more-requires c = let l = c.loop-bit.invariant.placed.countable in omega arith

pub returns-in_default : goal.returns-in_default
returns-in_default c =
    ap refused c.stopped.ensures
    ∙ spares-refused c.loop-bit.invariant _ (no_number _ _ c.once-more.result c.in_default.is (more_read c))

pub returns-then-bit-eq0 : goal.returns-then-bit-eq0
returns-then-bit-eq0 c =
    spares-none c.loop-bit.invariant _ _ (is_number _ _ _ _ _ (more_read-at2 c) c.in-Got.is) c.if-bit-eq0.true

pub field-requires-in-loop-bit : goal.field-requires-in-loop-bit
field-requires-in-loop-bit c = ((more_placed c).within, search rules)

pub once-spare-requires : goal.once-spare-requires
once-spare-requires c = let l = (more_placed-at2 c).countable in omega arith

pub returns-in_default-spare : goal.returns-in_default-spare
returns-in_default-spare c =
    ap refused c.stopped-in_default-spare.ensures
    ∙ spares_inside c.loop-bit.invariant _ _ (more_got-at3 c) c.if-bit-eq0.false _
    (no_number _ _ c.once-spare.result c.in_default-spare.is (spare_read c))

pub loop-bit-smaller : goal.loop-bit-smaller
loop-bit-smaller c =
    let l = spares_less c.loop-bit.invariant _ _ (more_got-at4 c) _ _ (is_number _ _ _ _ _ (spare_read-at2 c) c.in-Got-spare.is) in
    omega arith

pub loop-bit-preserved : goal.loop-bit-preserved
loop-bit-preserved c =
    spares_more c.loop-bit.invariant _ _ (more_got-at4 c) _ _ (is_number _ _ _ _ _ (spare_read-at2 c) c.in-Got-spare.is) c.if-bit-eq0.false
