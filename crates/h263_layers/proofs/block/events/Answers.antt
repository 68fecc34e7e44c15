-- `h263_layers::block::events` meets its contract: each turn of the loop reads an event into the levels, which may be the last, or the refusal.
use mathlib.Core.Path.{refl, sym, ap, ◌∙◌}
use native.Mathlib.Omega.{arith}
use lib.ListN.{length-set}
use Rattle.bits.specs.Read.{refused}
use Rattle.h263_words.specs.Answer.{as_event}
use Rattle.h263_layers.proofs.EventsTurn.{events_first, events-refused, events_past, events_next, events_last, events_more}
use Rattle.h263_layers.proofs.block.events.Goals as goal

pub loop-last-init : goal.loop-last-init
loop-last-init c = (refl, events_first _ _ _ _ _ _ c.requires.0.placed c.requires.1.forward)

pub event-read-requires : goal.event-read-requires
event-read-requires c = (c.requires.0.tabled, c.loop-last.invariant.1.placed.within)

pub overflow_add-reads : goal.overflow_add-reads
overflow_add-reads c = let l = c.loop-last.invariant.1.placed.countable in omega arith

pub returns-in_default : goal.returns-in_default
returns-in_default c =
    ap refused c.event_stopped.ensures ∙ events-refused c.loop-last.invariant.1 c.event-read.result c.in_default.is c.event-read.ensures

pub returns-then-end-to : goal.returns-then-end-to
returns-then-end-to c =
    events_past c.loop-last.invariant.1 (sym (ap (as_event _ _) c.in-Event.is) ∙ c.event-read.ensures) c.if-end-to.true

pub returns-then-last-eq1 : goal.returns-then-last-eq1
returns-then-last-eq1 c =
    events_last c.loop-last.invariant.1 (sym (ap (as_event _ _) c.in-Event.is) ∙ c.event-read.ensures) c.if-end-to.false c.if-last-eq1.true

pub loop-last-smaller : goal.loop-last-smaller
loop-last-smaller c =
    let w = events_next c.loop-last.invariant.1 (sym (ap (as_event _ _) c.in-Event.is) ∙ c.event-read.ensures) in
    omega arith

pub loop-last-preserved : goal.loop-last-preserved
loop-last-preserved c =
    let inv = c.loop-last.invariant in
    (simp length-set inv.0, events_more inv.1 (sym (ap (as_event _ _) c.in-Event.is) ∙ c.event-read.ensures) c.if-end-to.false c.if-last-eq1.false)
