-- `receiver::act` meets its contract: by the line. Assumes nothing.
use mathlib.Core.Path.{◌≡◌, sym, ap, ◌∙◌}
use mathlib.Core.List.{List}
use Prim.Native.Nat.{ℕ}
use Rattle.coding.specs.Kind.{coding_of}
use Rattle.vault.specs.declared.Header.{Header}
use Rattle.vault.specs.Parts.{placed_payload}
use Rattle.standing.specs.declared.Receiver.{Receiver}
use Rattle.standing.specs.declared.Line.{Line}
use Rattle.standing.specs.declared.Line.TheVariants.{Earlier, Next, Anew, Otherwise}
use Rattle.standing.specs.Answered.{Reply, reply}
use Rattle.standing.specs.Answered as A
use Rattle.standing.specs.declared.Standing.TheVariants as S
use Rattle.standing.specs.Receive.{Buffers, buffers, Outcome, line_of, took_of, by_line, lost_progress, with_progress, came_to}
use Rattle.receiver.proofs.act.Goals as goal

module _ {line : Line} (r : Receiver) (header : Header) (block collection first second : List ℕ) (is : line ≡ line_of r.progress header) where
  abbrev lent : Buffers
  lent = buffers collection first second

  -- what the call comes to by a line
  comes : Line → Outcome
  comes l = came_to coding_of r block lent (by_line coding_of l r header block collection)

  abbrev aim : Outcome
  aim = came_to coding_of r block lent (by_line coding_of (line_of r.progress header) r header block collection)

  at : (l : Line) → line ≡ l → comes l ≡ aim
  unfolding comes
  at l e = ap comes (sym e ∙ is)

  earlier : {x : Reply} → line ≡ Earlier → x ≡ reply (A.old header.picture header.part) r → record { gave = x; left = lent } ≡ aim
  unfolding comes came_to by_line
  earlier e h = ap (λ (y : Reply). record { gave = y; left = lent }) h ∙ at Earlier e

  next : {x : Outcome} → line ≡ Next → x ≡ came_to coding_of r block lent (took_of coding_of r header r.progress.standing (placed_payload block header.part collection)) → x ≡ aim
  unfolding comes by_line
  next e h = h ∙ at Next e

  anew : {x : Outcome} → line ≡ Anew → x ≡ came_to coding_of r block lent (took_of coding_of r header S.Catching (placed_payload block header.part collection)) → x ≡ aim
  unfolding comes by_line
  anew e h = h ∙ at Anew e

  otherwise : {x : Reply} → line ≡ Otherwise → x ≡ reply A.lost (with_progress r (lost_progress r.progress)) → record { gave = x; left = lent } ≡ aim
  unfolding comes came_to by_line
  otherwise e h = ap (λ (y : Reply). record { gave = y; left = lent }) h ∙ at Otherwise e

pub returns-in-Earlier : goal.returns-in-Earlier
returns-in-Earlier c =
    earlier c.args.receiver c.args.header c.args.block.now c.args.collection.now c.args.first.now c.args.second.now c.first_line-line.ensures c.in-Earlier.is c.pass_over.ensures

pub returns-in-Next : goal.returns-in-Next
returns-in-Next c =
    next c.args.receiver c.args.header c.args.block.now c.args.collection.now c.args.first.now c.args.second.now c.first_line-line.ensures c.in-Next.is c.collect.ensures

pub returns-in-Anew : goal.returns-in-Anew
returns-in-Anew c =
    anew c.args.receiver c.args.header c.args.block.now c.args.collection.now c.args.first.now c.args.second.now c.first_line-line.ensures c.in-Anew.is c.collect-in-Anew.ensures

pub returns-in-Otherwise : goal.returns-in-Otherwise
returns-in-Otherwise c =
    otherwise c.args.receiver c.args.header c.args.block.now c.args.collection.now c.args.first.now c.args.second.now c.first_line-line.ensures c.in-Otherwise.is c.lose.ensures
