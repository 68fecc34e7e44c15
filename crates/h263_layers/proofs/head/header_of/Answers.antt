-- `h263_layers::head::header_of` meets its contract: each read in turn was refused, or is against its rule, or was got, and then the next.
use mathlib.Core.Path.{sym, ap, ◌∙◌}
use native.Mathlib.Omega.{arith}
use Prim.Native.Nat.{ℕ, ◌+◌}
use Rattle.refusals.specs.declared.Reason.TheVariants.{OptionalMode}
use Rattle.h263_layers.specs.Answer.{against_at}
use Rattle.fields.proofs.HeaderRow.{below_got}
use Rattle.h263_layers.proofs.HeaderOf.{no_psc, bad_psc, no_tr, no_ptype, other_start, other_format, mode_set, mode_low, no_pquant, zero_pquant, no_cpm, set_cpm, no_spare, header-got, spans_got}
use Rattle.h263_layers.proofs.head.header_of.Goals as goal

pub returns-in_default : goal.returns-in_default
returns-in_default c = no_psc _ _ _ _ _ _ _ _ _ c.in_default.is c.field_stopped.ensures

pub returns-then-start-ne32 : goal.returns-then-start-ne32
returns-then-start-ne32 c = c.against.ensures ∙ bad_psc _ _ _ _ _ _ _ _ c.in-Got.is c.if-start-ne32.true

pub returns-in_default-tr : goal.returns-in_default-tr
returns-in_default-tr c =
    no_tr _ _ _ _ _ _ _ _ c.in-Got.is c.if-start-ne32.false _ c.in_default-tr.is c.field_stopped-in_default-tr.ensures

pub returns-in_default-ptype : goal.returns-in_default-ptype
returns-in_default-ptype c =
    no_ptype _ _ _ _ _ _ _ _ c.in-Got.is c.if-start-ne32.false c.in-Got-tr.is _ c.in_default-ptype.is c.field_stopped-in_default-ptype.ensures

pub returns-then-information-ne2 : goal.returns-then-information-ne2
returns-then-information-ne2 c =
    c.against-then-information-ne2.ensures
    ∙ other_start _ _ _ _ _ _ _ _ c.in-Got.is c.if-start-ne32.false c.in-Got-tr.is c.in-Got-ptype.is c.if-information-ne2.true

pub returns-then-information-format_code : goal.returns-then-information-format_code
returns-then-information-format_code c =
    c.against-then-information-format_code.ensures
    ∙ other_format _ _ _ _ _ _ _ _ c.in-Got.is c.if-start-ne32.false c.in-Got-tr.is c.in-Got-ptype.is
    (λ h. c.if-information-format_code.true (h ∙ sym c.format_code.ensures))

pub overflow_add-at_ptype : goal.overflow_add-at_ptype
overflow_add-at_ptype c =
    let room = spans_got 13 _ _ c.requires.information c.in-Got-tr.is c.in-Got-ptype.is in
    omega (arith, room, c.mode_bit.ensures, mode_low c.in-Got-ptype.information)

pub returns-then-information-ne0 : goal.returns-then-information-ne0
returns-then-information-ne0 c =
    c.against-then-information-ne0.ensures ∙ ap (λ (k : ℕ). against_at OptionalMode (c.in-Got-tr.at_ptype + k) 3) c.mode_bit.ensures
    ∙ mode_set _ _ _ _ _ _ _ _ c.in-Got.is c.if-start-ne32.false c.in-Got-tr.is c.in-Got-ptype.is
    c.if-information-ne2.false (c.if-information-format_code.false ∙ c.format_code.ensures) c.if-information-ne0.true

pub returns-in_default-pquant : goal.returns-in_default-pquant
returns-in_default-pquant c =
    no_pquant _ _ _ _ _ _ _ _ c.in-Got.is c.if-start-ne32.false c.in-Got-tr.is c.in-Got-ptype.is
    c.if-information-ne2.false (c.if-information-format_code.false ∙ c.format_code.ensures) c.if-information-ne0.false _ c.in_default-pquant.is c.field_stopped-in_default-pquant.ensures

pub returns-then-quantised-eq0 : goal.returns-then-quantised-eq0
returns-then-quantised-eq0 c =
    c.against-then-quantised-eq0.ensures
    ∙ zero_pquant _ _ _ _ _ _ _ _ c.in-Got.is c.if-start-ne32.false c.in-Got-tr.is c.in-Got-ptype.is
    c.if-information-ne2.false (c.if-information-format_code.false ∙ c.format_code.ensures) c.if-information-ne0.false c.in-Got-pquant.is c.if-quantised-eq0.true

pub returns-in_default-cpm : goal.returns-in_default-cpm
returns-in_default-cpm c =
    no_cpm _ _ _ _ _ _ _ _ c.in-Got.is c.if-start-ne32.false c.in-Got-tr.is c.in-Got-ptype.is
    c.if-information-ne2.false (c.if-information-format_code.false ∙ c.format_code.ensures) c.if-information-ne0.false c.in-Got-pquant.is c.if-quantised-eq0.false
    _ c.in_default-cpm.is c.field_stopped-in_default-cpm.ensures

pub returns-then-multipoint-ne0 : goal.returns-then-multipoint-ne0
returns-then-multipoint-ne0 c =
    c.against-then-multipoint-ne0.ensures
    ∙ set_cpm _ _ _ _ _ _ _ _ c.in-Got.is c.if-start-ne32.false c.in-Got-tr.is c.in-Got-ptype.is
    c.if-information-ne2.false (c.if-information-format_code.false ∙ c.format_code.ensures) c.if-information-ne0.false c.in-Got-pquant.is c.if-quantised-eq0.false
    c.in-Got-cpm.is c.if-multipoint-ne0.true

pub returns-in_default-spare : goal.returns-in_default-spare
returns-in_default-spare c =
    no_spare _ _ _ _ _ _ _ _ c.in-Got.is c.if-start-ne32.false c.in-Got-tr.is c.in-Got-ptype.is
    c.if-information-ne2.false (c.if-information-format_code.false ∙ c.format_code.ensures) c.if-information-ne0.false c.in-Got-pquant.is c.if-quantised-eq0.false
    c.in-Got-cpm.is c.if-multipoint-ne0.false _ c.in_default-spare.is c.stopped.ensures

pub overflow_cast-said : goal.overflow_cast-said
overflow_cast-said c =
    omega (arith, below_got _ c.requires.reference c.in-Got-tr.is)

pub overflow_cast-said-4 : goal.overflow_cast-said-4
overflow_cast-said-4 c =
    omega (arith, below_got _ c.requires.quantised c.in-Got-pquant.is)

pub returns : goal.returns
returns c =
    header-got _ _ _ _ _ _ _ _ c.in-Got.is c.if-start-ne32.false c.in-Got-tr.is c.in-Got-ptype.is
    c.if-information-ne2.false (c.if-information-format_code.false ∙ c.format_code.ensures) c.if-information-ne0.false c.in-Got-pquant.is c.if-quantised-eq0.false
    c.in-Got-cpm.is c.if-multipoint-ne0.false c.in-Got-spare.is
