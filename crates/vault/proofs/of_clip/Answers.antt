-- `vault::of_clip` meets its contract: by what `check` found. Assumes nothing.
use borrow.Author.Tests.{eq-eqb, ne_eqb}
use mathlib.Core.Path.{◌≡◌, sym, ap, ◌∙◌}
use Prim.Native.Nat.{ℕ}
use Rattle.std.proofs.lemmas.Result.{err_from_is_err_and}
use Rattle.refusals.specs.Number.{number, read_table}
use Rattle.refusals.specs.Told.{Told, accepted, refused}
use Rattle.vault.specs.declared.Header.{Header}
use Rattle.vault.specs.Block.{told_checked, of_clip}
use Rattle.vault.proofs.of_clip.Goals as goal

module _ {clip : ℕ} {found : Told Header} where
  own : (header : Header) → accepted header ≡ found → header.clip ≡ clip → accepted header ≡ of_clip clip found
  own header e same = sym (is header same) ∙ ap (of_clip clip) e
    where
      is : (header : Header) → header.clip ≡ clip → of_clip clip (accepted header) ≡ accepted header
      is header same = rw (eq-eqb header.clip clip same)

  other : (header : Header) → accepted header ≡ found → (header.clip ≡ clip → ⊥) → refused 23 0 ≡ of_clip clip found
  other header e differs = sym (is header differs) ∙ ap (of_clip clip) e
    where
      is : (header : Header) → (header.clip ≡ clip → ⊥) → of_clip clip (accepted header) ≡ refused 23 0
      is header differs = rw (ne_eqb header.clip clip differs)

pub returns-then-header-clip : goal.returns-then-header-clip
unfolding number read_table
returns-then-header-clip c =
    ap told_checked c.refused.ensures ∙ other _ (sym (ap told_checked c.in_ok-header.was) ∙ c.check.ensures) c.if-header-clip.true

pub returns-in_err-header : goal.returns-in_err-header
returns-in_err-header c =
    let p = err_from_is_err_and c.from_residual.result c.from_residual.ensures.1 in
    rw (p.1, p.2) (ap (of_clip c.args.clip) (sym (ap told_checked c.in_err-header.was) ∙ c.check.ensures))

pub returns : goal.returns
returns c = own _ (sym (ap told_checked c.in_ok-header.was) ∙ c.check.ensures) c.if-header-clip.false
