-- `vault::judge` meets its contract: by what `of_clip` found. Assumes nothing.
use mathlib.Core.Path.{◌≡◌, sym, ap, ◌∙◌}
use mathlib.Core.Bool.{true, false}
use Rattle.std.proofs.lemmas.Result.{err_from_is_err_and}
use Rattle.refusals.specs.Number.{number, read_table}
use Rattle.refusals.specs.Told.{Told, accepted, refused}
use Rattle.vault.specs.declared.Standard.{Standard}
use Rattle.vault.specs.declared.Header.{Header}
use Rattle.vault.specs.Block.{told_checked, same_standard, of_standard, judge_of}
use Rattle.vault.proofs.judge.Goals as goal

module _ (standard : Standard) {found : Told Header} (header : Header) (e : accepted header ≡ found) where
  own : same_standard header.standard standard ≡ true → accepted header ≡ of_standard standard found
  own same = sym is ∙ ap (of_standard standard) e
    where
      is : of_standard standard (accepted header) ≡ accepted header
      is = rw same

  other : same_standard header.standard standard ≡ false → refused 5 0 ≡ of_standard standard found
  other differs = sym is ∙ ap (of_standard standard) e
    where
      is : of_standard standard (accepted header) ≡ refused 5 0
      is = rw differs

pub returns-then-not-same_standard : goal.returns-then-not-same_standard
unfolding judge_of number read_table
returns-then-not-same_standard c =
    ap told_checked c.refused.ensures
    ∙ other c.args.standard _ (sym (ap told_checked c.in_ok-header.was) ∙ c.of_clip.ensures) (sym c.same_standard.ensures ∙ c.if-not-same_standard.true)

pub returns-in_err-header : goal.returns-in_err-header
unfolding judge_of
returns-in_err-header c =
    let p = err_from_is_err_and c.from_residual.result c.from_residual.ensures.1 in
    rw (p.1, p.2) (ap (of_standard c.args.standard) (sym (ap told_checked c.in_err-header.was) ∙ c.of_clip.ensures))

pub returns : goal.returns
unfolding judge_of
returns c = own c.args.standard _ (sym (ap told_checked c.in_ok-header.was) ∙ c.of_clip.ensures) (sym c.same_standard.ensures ∙ c.if-not-same_standard.false)
