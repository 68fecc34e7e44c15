-- `salvaging::salvage_in` meets its contract: by the old number, then the new one, then whether a picture is kept. Assumes nothing.
use Rattle.salvaging.proofs.Outcomes.{open_refused, open_opened, named_means, old_zero, new_zero, none_kept, some_kept_lem, blank_same}
use Rattle.salvaging.proofs.Going.{lengths_same}
use Rattle.salvaging.specs.declared.Salvaged.{Salvaged}
use Rattle.refusals.specs.declared.Refusal.{Refusal}
use Rattle.std.specs.Prelude.{Result}
use Rattle.salvaging.specs.Going.{answers_from, any_kept}
use Rattle.salvaging.specs.Salvage.{SalvageDoes}
use Rattle.standing.specs.Receive.{Buffers, buffers}
use Rattle.standing.specs.Answered.{told_opened}
use mathlib.Core.Bool.{true, false}
use mathlib.Core.Path.{◌≡◌, sym, ap, subst, ◌∙◌}
use Rattle.std.proofs.lemmas.Result.{err_from_is_err_and}
use Rattle.salvaging.proofs.salvage_in.Goals as goal

pub returns-then-new-eq0 : goal.returns-then-new-eq0
returns-then-new-eq0 c =
    let a = c.args in
    subst (λ (r : Result Salvaged Refusal). SalvageDoes a.kind a.old a.new a.blocks.now a.out.now a.log.now r a.out.now a.log.now) (sym c.refused.ensures)
    (new_zero a.kind a.old a.new a.blocks.now a.out.now a.log.now c.requires.named c.if-new-eq0.true)

pub any_kept-requires : goal.any_kept-requires
any_kept-requires c = (named_means _ _ _ c.requires.named).whole

pub rewrite-requires : goal.rewrite-requires
rewrite-requires c =
    let named = named_means _ _ _ c.requires.named in
    record {
      whole = named.whole;
      out_room = named.out_room;
      log_room = named.log_room;
      same =
          lengths_same (blank_same (c.requires.blank ∙ sym c.requires.blank_ahead))
          (record { collection = c.collection_ahead-1.given; first = c.first_ahead-1.given; second = c.second_ahead-1.given });
    }

pub returns-in_err-receiver : goal.returns-in_err-receiver
returns-in_err-receiver c =
    let a = c.args in
    let same = err_from_is_err_and c.from_residual.result c.from_residual.ensures.1 in
    let refused = open_refused a.old a.kind _ (sym (ap told_opened c.in_err-receiver.was) ∙ c.«open».ensures) in
    rw (same.1, same.2) (old_zero a.kind a.old a.new a.blocks.now a.out.now a.log.now c.requires.named c.in_err-receiver.field-0.0 refused.0 refused.1)

pub returns-then-not-any_kept : goal.returns-then-not-any_kept
returns-then-not-any_kept c =
    let a = c.args in
    let r = c.in_ok-receiver.receiver in
    let opened = open_opened a.old a.kind r (sym (ap told_opened c.in_ok-receiver.was) ∙ c.«open».ensures) in
    let b = buffers a.collection.now a.first.now a.second.now in
    let none : any_kept (answers_from r b a.blocks.now 0) ≡ false =
    ap (λ (b : Buffers). any_kept (answers_from r b a.blocks.now 0)) (c.requires.blank ∙ sym c.requires.blank_ahead) ∙ sym c.any_kept.ensures ∙ c.if-not-any_kept.true in
    subst (λ (r : Result Salvaged Refusal). SalvageDoes a.kind a.old a.new a.blocks.now a.out.now a.log.now r a.out.now a.log.now) (sym c.refused-then-not-any_kept.ensures)
    (none_kept a.kind a.old a.new a.blocks.now a.out.now a.log.now c.requires.named opened.0 c.if-new-eq0.false r b opened.1 c.requires.blank none)

pub returns : goal.returns
returns c =
    let a = c.args in
    let r = c.in_ok-receiver.receiver in
    let opened = open_opened a.old a.kind r (sym (ap told_opened c.in_ok-receiver.was) ∙ c.«open».ensures) in
    let b = buffers a.collection.now a.first.now a.second.now in
    let found : any_kept (answers_from r b a.blocks.now 0) ≡ true =
    ap (λ (b : Buffers). any_kept (answers_from r b a.blocks.now 0)) (c.requires.blank ∙ sym c.requires.blank_ahead) ∙ sym c.any_kept.ensures ∙ c.if-not-any_kept.false in
    some_kept_lem a.kind a.old a.new a.blocks.now a.out.now a.log.now c.requires.named opened.0 c.if-new-eq0.false r b opened.1 c.requires.blank
    c.rewrite.result found c.rewrite.ensures
