-- `decoder::decode` meets its contract: the lengths are judged first, and there is no mark. Assumes nothing.
use mathlib.Core.Path.{sym, ap, ◌∙◌}
use lib.ListN.{length}
use Rattle.std.specs.Prelude.{ℕ, Ok, Err, Result}
use Rattle.size.specs.Size.{store_length}
use Rattle.refusals.specs.declared.Refusal.{Refusal}
use Rattle.refusals.specs.Number.{number, read_table}
use Rattle.refusals.specs.Told.{verdict_on, found_or}
use Rattle.decoder.specs.Decoded.{told_drawn}
use Rattle.decoder.proofs.Steps.{unfit_reference, unfit_store, by_drawn}
use Rattle.decoder.proofs.decode.Goals as goal

pub returns-then-reference-named : goal.returns-then-reference-named
unfolding number read_table
returns-then-reference-named c =
    let e = unfit_reference c.args.kind c.args.bytes.now c.args.count c.args.reference.now (length c.args.store.now) (c.store_length-named.ensures ∙ ap store_length c.size_of-size.ensures) c.if-reference-named.true in
    record { verdict = sym (ap verdict_on e); samples = sym (ap (found_or c.args.store.now) e) }

pub returns-then-store-named : goal.returns-then-store-named
unfolding number read_table
returns-then-store-named c =
    let e = unfit_store c.args.kind c.args.bytes.now c.args.count c.args.reference.now (length c.args.store.now) (c.store_length-named.ensures ∙ ap store_length c.size_of-size.ensures) c.if-reference-named.false c.if-store-named.true in
    record { verdict = sym (ap verdict_on e); samples = sym (ap (found_or c.args.store.now) e) }

pub draw-drawn-requires : goal.draw-drawn-requires
draw-drawn-requires c =
    let named = c.store_length-named.ensures ∙ ap store_length c.size_of-size.ensures in
    record { reference_long = c.if-reference-named.false ∙ named; store_long = c.if-store-named.false ∙ named }

pub returns-in-Ok : goal.returns-in-Ok
returns-in-Ok c =
    let all = by_drawn c.args.kind c.args.bytes.now c.args.count c.args.reference.now (length c.args.store.now)
    (c.store_length-named.ensures ∙ ap store_length c.size_of-size.ensures)
    c.if-reference-named.false c.if-store-named.false (Ok tt) c.draw-drawn.result c.args.store.now _
    (sym (ap (λ (x : Result ℕ Refusal). verdict_on (told_drawn x)) c.in-Ok.is)) c.draw-drawn.ensures.answer c.draw-drawn.ensures.samples in
    record { verdict = all.0; samples = all.1 }

pub returns-in-Err : goal.returns-in-Err
returns-in-Err c =
    let all = by_drawn c.args.kind c.args.bytes.now c.args.count c.args.reference.now (length c.args.store.now)
    (c.store_length-named.ensures ∙ ap store_length c.size_of-size.ensures)
    c.if-reference-named.false c.if-store-named.false (Err _) c.draw-drawn.result c.args.store.now _
    (sym (ap (λ (x : Result ℕ Refusal). verdict_on (told_drawn x)) c.in-Err.is)) c.draw-drawn.ensures.answer c.draw-drawn.ensures.samples in
    record { verdict = all.0; samples = all.1 }
