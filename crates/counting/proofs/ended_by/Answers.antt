-- `counting::ended_by` meets its contract: by the line. Assumes nothing.
use mathlib.Core.Path.{◌≡◌, refl, sym, ap, ◌∙◌}
use Rattle.std.specs.Prelude.{ℕ, Option}
use Rattle.vault.specs.declared.Header.{Header}
use Rattle.standing.specs.declared.Line.{Line}
use Rattle.counting.specs.Ending.{ended_by}
use Rattle.counting.proofs.ended_by.Goals as goal

lined : {line found told : Line} {x : Option ℕ} (header : Header) → found ≡ line → found ≡ told → x ≡ ended_by told header → x ≡ ended_by line header
lined header f e h = h ∙ ap (λ (l : Line). ended_by l header) (sym e ∙ f)

pub returns-in-Earlier : goal.returns-in-Earlier
returns-in-Earlier c = lined c.args.header c.first_line.ensures c.in-Earlier.is refl

pub returns-in-Next : goal.returns-in-Next
returns-in-Next c = lined c.args.header c.first_line.ensures c.in-Next.is c.ended_with.ensures

pub returns-in-Anew : goal.returns-in-Anew
returns-in-Anew c = lined c.args.header c.first_line.ensures c.in-Anew.is c.ended_with-in-Anew.ensures

pub returns-in-Otherwise : goal.returns-in-Otherwise
returns-in-Otherwise c = lined c.args.header c.first_line.ensures c.in-Otherwise.is refl
