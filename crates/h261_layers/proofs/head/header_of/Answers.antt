-- `h261_layers::head::header_of` meets its contract: each read in turn was refused, or is against its rule, or was got, and then the next.
use mathlib.Core.Path.{sym, ◌∙◌}
use native.Mathlib.Omega.{arith}
use Rattle.fields.proofs.HeaderRow.{below_got}
use Rattle.h261_layers.proofs.HeaderOf.{no_psc, bad_psc, no_tr, no_ptype, other_format, still_image, no_spare, no_gbsc, bad_gbsc, header-got, counted_got}
use Rattle.h261_layers.proofs.head.header_of.Goals as goal

pub returns-in_default : goal.returns-in_default
returns-in_default c = no_psc _ _ _ _ _ _ _ _ c.in_default.is c.field_stopped.ensures

pub returns-then-start-ne16 : goal.returns-then-start-ne16
returns-then-start-ne16 c = bad_psc _ _ _ _ _ _ _ c.in-Got.is c.if-start-ne16.true

pub returns-in_default-tr : goal.returns-in_default-tr
returns-in_default-tr c =
    no_tr _ _ _ _ _ _ _ c.in-Got.is c.if-start-ne16.false _ c.in_default-tr.is c.field_stopped-in_default-tr.ensures

pub returns-in_default-ptype : goal.returns-in_default-ptype
returns-in_default-ptype c =
    no_ptype _ _ _ _ _ _ _ c.in-Got.is c.if-start-ne16.false c.in-Got-tr.is _ c.in_default-ptype.is c.field_stopped-in_default-ptype.ensures

pub returns-then-information-wanted : goal.returns-then-information-wanted
returns-then-information-wanted c =
    other_format _ _ _ _ _ _ _ c.in-Got.is c.if-start-ne16.false c.in-Got-tr.is c.in-Got-ptype.is (λ h. c.if-information-wanted.true (h ∙ sym c.bit-wanted.ensures))

pub returns-then-information-eq0 : goal.returns-then-information-eq0
returns-then-information-eq0 c =
    still_image _ _ _ _ _ _ _ c.in-Got.is c.if-start-ne16.false c.in-Got-tr.is c.in-Got-ptype.is (c.if-information-wanted.false ∙ c.bit-wanted.ensures) c.if-information-eq0.true

pub returns-in_default-spare : goal.returns-in_default-spare
returns-in_default-spare c =
    no_spare _ _ _ _ _ _ _ c.in-Got.is c.if-start-ne16.false c.in-Got-tr.is c.in-Got-ptype.is (c.if-information-wanted.false ∙ c.bit-wanted.ensures) c.if-information-eq0.false
    _ c.in_default-spare.is c.stopped.ensures

pub overflow_add-reads : goal.overflow_add-reads
overflow_add-reads c =
    let few = counted_got _ c.requires.2 c.in-Got-spare.is in
    omega (arith, few)

pub returns-in_default-gbsc : goal.returns-in_default-gbsc
returns-in_default-gbsc c =
    no_gbsc _ _ _ _ _ _ _ c.in-Got.is c.if-start-ne16.false c.in-Got-tr.is c.in-Got-ptype.is (c.if-information-wanted.false ∙ c.bit-wanted.ensures) c.if-information-eq0.false
    c.in-Got-spare.is _ c.in_default-gbsc.is c.field_stopped-in_default-gbsc.ensures

pub returns-then-group-ne1 : goal.returns-then-group-ne1
returns-then-group-ne1 c =
    bad_gbsc _ _ _ _ _ _ _ c.in-Got.is c.if-start-ne16.false c.in-Got-tr.is c.in-Got-ptype.is (c.if-information-wanted.false ∙ c.bit-wanted.ensures) c.if-information-eq0.false
    c.in-Got-spare.is c.in-Got-gbsc.is c.if-group-ne1.true

pub overflow_cast-result : goal.overflow_cast-result
overflow_cast-result c =
    let small = below_got _ c.requires.0 c.in-Got-tr.is in
    omega (arith, small)

pub overflow_cast-result-2 : goal.overflow_cast-result-2
overflow_cast-result-2 c =
    let small = below_got _ c.requires.1 c.in-Got-ptype.is in
    omega (arith, small)

pub returns : goal.returns
returns c =
    header-got _ _ _ _ _ _ _ c.in-Got.is c.if-start-ne16.false c.in-Got-tr.is c.in-Got-ptype.is (c.if-information-wanted.false ∙ c.bit-wanted.ensures) c.if-information-eq0.false
    c.in-Got-spare.is c.in-Got-gbsc.is c.if-group-ne1.false
