-- `receiver::receive` meets its contract: by the lengths, then by the judgement of the block. Assumes nothing.
use mathlib.Core.Path.{◌≡◌, sym, ap, ◌∙◌}
use mathlib.Core.Bool.{Bool, true, false}
use mathlib.Core.List.{List}
use Prim.Native.Nat.{ℕ}
use lib.ListN.{length}
use Rattle.laws.specs.Choice.{pick}
use Rattle.refusals.specs.Number.{number, read_table}
use Rattle.refusals.specs.Told.{Numbers, untabled, Told, accepted, refused_by, refused}
use Rattle.size.specs.declared.Size.{Size}
use Rattle.coding.specs.Kind.{kind_size, kind_standard, coding_of}
use Rattle.vault.specs.Block.{told_checked, judge_of}
use Rattle.vault.specs.declared.Standard.{Standard}
use Rattle.vault.specs.declared.Header.{Header}
use Rattle.standing.specs.declared.Receiver.{Receiver}
use Rattle.standing.specs.Answered.{Reply, reply}
use Rattle.standing.specs.Answered as A
use Rattle.standing.specs.Receive.{Buffers, buffers, Outcome, named_lengths, judged_block, line_of, by_line, by_judgement, decide, came_to, step}
use Rattle.receiver.proofs.Laws.{ready}
use Rattle.receiver.proofs.receive.Goals as goal

module _ {right : Bool} {size : Size} (r : Receiver) (block collection first second : List ℕ) (sz : size ≡ kind_size r.kind)
    (is : right ≡ named_lengths size (length collection) (length first) (length second)) where
  abbrev lent : Buffers
  lent = buffers collection first second

  came : (k : Told Header) → k ≡ judged_block r block lent → came_to coding_of r block lent (by_judgement coding_of k r block collection) ≡ step coding_of r block lent
  unfolding step decide
  came k e = ap (λ (k : Told Header). came_to coding_of r block lent (by_judgement coding_of k r block collection)) e

  by_lengths : (b : Bool) → right ≡ b → pick b (judge_of size (kind_standard r.kind) r.clip block) (refused 1 0) ≡ judged_block r block lent
  unfolding judged_block
  by_lengths b e =
      ap (λ (t : Bool). pick t (judge_of size (kind_standard r.kind) r.clip block) (refused 1 0)) (sym e ∙ is)
      ∙ ap (λ (z : Size). pick (named_lengths z (length collection) (length first) (length second)) (judge_of z (kind_standard r.kind) r.clip block) (refused 1 0)) sz

  module _ {found : Told Header} {standard : Standard} (st : standard ≡ kind_standard r.kind) (t : right ≡ true) (f : found ≡ judge_of size standard r.clip block) where
    judged_so : (k : Told Header) → found ≡ k → k ≡ judged_block r block lent
    judged_so k e = sym e ∙ f ∙ ap (λ (s : Standard). judge_of size s r.clip block) st ∙ by_lengths true t

    good : {x : Outcome} {header : Header} → found ≡ accepted header
        → x ≡ came_to coding_of r block lent (by_line coding_of (line_of r.progress header) r header block collection) → x ≡ step coding_of r block lent
    unfolding by_judgement
    good {header = header} e h = h ∙ came (accepted header) (judged_so (accepted header) e)

    bad : {x : Reply} {numbers : Numbers} → found ≡ refused_by numbers → x ≡ reply (A.refused numbers) r → record { gave = x; left = lent } ≡ step coding_of r block lent
    unfolding by_judgement came_to
    bad {numbers = numbers} e h = ap (λ (y : Reply). record { gave = y; left = lent }) h ∙ came (refused_by numbers) (judged_so (refused_by numbers) e)

  short : {x : Reply} → right ≡ false → x ≡ reply (A.refused (untabled 1 0)) r → record { gave = x; left = lent } ≡ step coding_of r block lent
  unfolding by_judgement came_to
  short e h = ap (λ (y : Reply). record { gave = y; left = lent }) h ∙ came (refused 1 0) (by_lengths false e)

pub act-requires : goal.act-requires
act-requires c =
    ready c.args.receiver.kind _ c.args.receiver.clip _ c.args.block.now c.args.collection.now c.args.first.now c.args.second.now c.size_of-size.ensures (sym c.named.ensures ∙ c.if-named.true)
    (sym c.judge-checked.ensures ∙ ap told_checked c.in-Ok.is)

pub returns-in-Ok : goal.returns-in-Ok
returns-in-Ok c =
    good c.args.receiver c.args.block.now c.args.collection.now c.args.first.now c.args.second.now c.size_of-size.ensures c.named.ensures c.standard_of-standard.ensures c.if-named.true c.judge-checked.ensures (ap told_checked c.in-Ok.is) c.act.ensures

pub returns-in-Err : goal.returns-in-Err
returns-in-Err c =
    bad c.args.receiver c.args.block.now c.args.collection.now c.args.first.now c.args.second.now c.size_of-size.ensures c.named.ensures c.standard_of-standard.ensures c.if-named.true c.judge-checked.ensures (ap told_checked c.in-Err.is) c.refuse.ensures

pub returns-else-named : goal.returns-else-named
unfolding number read_table
returns-else-named c =
    short c.args.receiver c.args.block.now c.args.collection.now c.args.first.now c.args.second.now c.size_of-size.ensures c.named.ensures c.if-named.false c.refuse-else-named.ensures
