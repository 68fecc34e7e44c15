-- `standing::first_line` meets its contract: the first of its tests that holds. Assumes nothing.
use mathlib.Core.Path.{◌≡◌, sym, ap, ◌∙◌}
use mathlib.Core.Bool.{Bool, true, false}
use lib.Dec.{eqb}
use Rattle.laws.specs.Choice.{both, opposite}
use Rattle.vault.specs.declared.Header.{Header}
use Rattle.standing.specs.declared.Place.{Place}
use Rattle.standing.specs.declared.Progress.{Progress}
use Rattle.standing.specs.declared.Line.TheVariants.{Earlier, Next, Anew, Otherwise}
use Rattle.standing.specs.Receive.{earlier_place, same_place, is_lost, place_of, line_of}
use Rattle.standing.proofs.first_line.Goals as goal

module _ {here : Place} {old : Bool} (p : Progress) (header : Header) (at : here ≡ place_of header) (is : old ≡ earlier_place here p.wanted) where
  one : (b : Bool) → old ≡ b → earlier_place (place_of header) p.wanted ≡ b
  one b e = sym (is ∙ ap (λ (q : Place). earlier_place q p.wanted) at) ∙ e

  line_1 : old ≡ true → Earlier ≡ line_of p header
  unfolding line_of
  line_1 e = sym (rw (one true e))

  module _ {next : Bool} (not_old : old ≡ false) (is_next : next ≡ both (same_place here p.wanted) (opposite (is_lost p.standing))) where
    two : (b : Bool) → next ≡ b → both (same_place (place_of header) p.wanted) (opposite (is_lost p.standing)) ≡ b
    two b e = sym (is_next ∙ ap (λ (q : Place). both (same_place q p.wanted) (opposite (is_lost p.standing))) at) ∙ e

    line_2 : next ≡ true → Next ≡ line_of p header
    unfolding line_of
    line_2 e = sym (rw (one false not_old, two true e))

    module _ {anew : Bool} (not_next : next ≡ false) (is_anew : anew ≡ both (eqb header.part 0) header.refresh) where
      line_3 : anew ≡ true → Anew ≡ line_of p header
      unfolding line_of
      line_3 e = sym (rw (one false not_old, two false not_next, sym is_anew ∙ e))

      line_4 : anew ≡ false → Otherwise ≡ line_of p header
      unfolding line_of
      line_4 e = sym (rw (one false not_old, two false not_next, sym is_anew ∙ e))

pub returns-then-earlier : goal.returns-then-earlier
returns-then-earlier c =
    line_1 c.args.progress c.args.header c.place_of-here.ensures c.earlier.ensures c.if-earlier.true

pub returns-then-continues : goal.returns-then-continues
returns-then-continues c =
    line_2 c.args.progress c.args.header c.place_of-here.ensures c.earlier.ensures c.if-earlier.false c.continues.ensures c.if-continues.true

pub returns-then-begins : goal.returns-then-begins
returns-then-begins c =
    line_3 c.args.progress c.args.header c.place_of-here.ensures c.earlier.ensures c.if-earlier.false c.continues.ensures c.if-continues.false c.begins.ensures c.if-begins.true

pub returns : goal.returns
returns c =
    line_4 c.args.progress c.args.header c.place_of-here.ensures c.earlier.ensures c.if-earlier.false c.continues.ensures c.if-continues.false c.begins.ensures c.if-begins.false
