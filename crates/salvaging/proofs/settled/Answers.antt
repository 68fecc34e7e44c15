-- `salvaging::settled` meets its contract: where the fate is asked for, the second receiver's buffers are copies of the first one's. Assumes nothing.
use Rattle.salvaging.proofs.Kept.{asked_taken}
use Rattle.std.specs.Prelude.{Option, Some}
use Rattle.salvaging.specs.Going.{answers_from, found_fate}
use Rattle.salvaging.specs.Kept.{kept_numbers}
use Rattle.standing.specs.Receive.{buffers}
use Rattle.standing.specs.Answered.{said}
use Rattle.laws.specs.Choice.{one_of}
use mathlib.Core.Bool.{Bool}
use Prim.Native.Nat.{ℕ}
use mathlib.Core.Path.{sym, ap, ◌∙◌}
use Rattle.salvaging.proofs.settled.Goals as goal

pub finishes-kept-requires : goal.finishes-kept-requires
finishes-kept-requires c =
    let a = c.args in
    let taken = asked_taken a.fate (said a.received.answer) c.in-Some.picture (sym c.asks.ensures ∙ c.in-Some.is) in
    (c.requires.place, c.requires.collects c.in-Some.picture taken.0 taken.1)

pub returns-in-None : goal.returns-in-None
returns-in-None c =
    let a = c.args in
    c.still.ensures
    ∙ sym (ap (λ (q : Option ℕ). found_fate q a.fate (said a.received.answer) (answers_from a.received.next (buffers a.collection.now a.first.now a.second.now) a.blocks.now a.from))
    (sym c.asks.ensures ∙ c.in-None.is))

pub returns-in-Some : goal.returns-in-Some
returns-in-Some c =
    let a = c.args in
    let same = c.requires.same in
    ap (λ (kept : Bool). Some (record { picture = c.in-Some.picture; kept = kept }))
    (c.finishes-kept.ensures
    ∙ (λ i. one_of (kept_numbers (answers_from a.received.next (buffers
    (c.copy_from_slice.ensures.after i)
    (c.copy_from_slice-in-Some.ensures.after i)
    (c.copy_from_slice-in-Some-2.ensures.after i)) a.blocks.now a.from)) c.in-Some.picture))
    ∙ sym (ap (λ (q : Option ℕ). found_fate q a.fate (said a.received.answer) (answers_from a.received.next (buffers a.collection.now a.first.now a.second.now) a.blocks.now a.from))
    (sym c.asks.ensures ∙ c.in-Some.is))
