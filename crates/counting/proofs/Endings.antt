-- What a block ends, told without reading: the receiver's decision reads exactly where a last part is taken. Assumes nothing.
use Prim.Native.Nat.{ℕ}
use mathlib.Core.Path.{◌≡◌, refl, sym, ap, ◌∙◌}
use mathlib.Core.Bool.{Bool, true, false}
use mathlib.Core.List.{List}
use lib.ListN.{length}
use Rattle.std.specs.Prelude.{Option, Some, None}
use Rattle.laws.specs.Choice.{pick, alike}
use Rattle.refusals.specs.Told.{Numbers, untabled, Told, accepted, refused_by, refused}
use Rattle.size.specs.declared.Size.{Size}
use Rattle.layout.specs.Flat.{Flat}
use Rattle.coding.specs.Kind.{kind_size, kind_standard, coding_of}
use Rattle.vault.specs.declared.Standard.{Standard}
use Rattle.vault.specs.declared.Header.{Header}
use Rattle.vault.specs.Block.{judge_of}
use Rattle.vault.specs.Parts.{placed_payload}
use Rattle.standing.specs.declared.Line.{Line}
use Rattle.standing.specs.declared.Line.TheVariants.{Earlier, Next, Anew, Otherwise}
use Rattle.standing.specs.declared.Receiver.{Receiver}
use Rattle.standing.specs.declared.Standing.{Standing}
use Rattle.standing.specs.declared.Standing.TheVariants as S
use Rattle.standing.specs.Receive.{taken, failed, finished, count_of, mark_of, Buffers, buffers, named_lengths, judged_block, ended_picture, took_of, line_of, by_line, by_judgement, decide}
use Rattle.counting.specs.Ending.{ended_after, ended_with, ended_by}

-- a last part that is taken is read, whatever is found
read_ended : (r : Receiver) (header : Header) (found : Told Flat) → ended_after (ended_picture coding_of r header found) ≡ Some (count_of header)
unfolding ended_picture
read_ended r header (refused_by numbers) = refl
read_ended r header (accepted d) = either_way (alike ((coding_of r.kind).refresh d) (mark_of r.progress header))
  where
    either_way : (b : Bool) → ended_after (pick b (finished header d) (failed header (untabled 24 0))) ≡ Some (count_of header)
    either_way true = refl
    either_way false = refl

took_ended : (r : Receiver) (header : Header) (standing : Standing) (collection : List ℕ) → ended_after (took_of coding_of r header standing collection) ≡ ended_with header
unfolding took_of
took_ended r header standing collection = by header.last
  where
    by : (b : Bool) → ended_after (pick b (ended_picture coding_of r header ((coding_of r.kind).read collection (count_of header))) (taken header standing)) ≡ pick b (Some (count_of header)) None
    by true = read_ended r header ((coding_of r.kind).read collection (count_of header))
    by false = refl

line_ended : (line : Line) (r : Receiver) (header : Header) (block collection : List ℕ) → ended_after (by_line coding_of line r header block collection) ≡ ended_by line header
unfolding by_line
line_ended Earlier r header block collection = refl
line_ended Next r header block collection = took_ended r header r.progress.standing (placed_payload block header.part collection)
line_ended Anew r header block collection = took_ended r header S.Catching (placed_payload block header.part collection)
line_ended Otherwise r header block collection = refl

-- ---- of a block that comes to a receiver
module _ {right : Bool} {size : Size} (r : Receiver) (block collection first second : List ℕ) (sz : size ≡ kind_size r.kind)
    (is : right ≡ named_lengths size (length collection) (length first) (length second)) where
  abbrev lent : Buffers
  lent = buffers collection first second

  judged : (k : Told Header) → k ≡ judged_block r block lent → ended_after (by_judgement coding_of k r block collection) ≡ ended_after (decide coding_of r block lent)
  unfolding decide
  judged k e = ap (λ (k : Told Header). ended_after (by_judgement coding_of k r block collection)) e

  by_lengths : (b : Bool) → right ≡ b → pick b (judge_of size (kind_standard r.kind) r.clip block) (refused 1 0) ≡ judged_block r block lent
  unfolding judged_block
  by_lengths b e =
      ap (λ (t : Bool). pick t (judge_of size (kind_standard r.kind) r.clip block) (refused 1 0)) (sym e ∙ is)
      ∙ ap (λ (z : Size). pick (named_lengths z (length collection) (length first) (length second)) (judge_of z (kind_standard r.kind) r.clip block) (refused 1 0)) sz

  module _ {found : Told Header} {standard : Standard} (st : standard ≡ kind_standard r.kind) (t : right ≡ true) (f : found ≡ judge_of size standard r.clip block) where
    judged_so : (k : Told Header) → found ≡ k → k ≡ judged_block r block lent
    judged_so k e = sym e ∙ f ∙ ap (λ (s : Standard). judge_of size s r.clip block) st ∙ by_lengths true t

    pub good_ends : {header : Header} {x : Option ℕ} → found ≡ accepted header → x ≡ ended_by (line_of r.progress header) header → x ≡ ended_after (decide coding_of r block lent)
    unfolding by_judgement
    good_ends {header} e h =
        h ∙ sym (line_ended (line_of r.progress header) r header block collection) ∙ judged (accepted header) (judged_so (accepted header) e)

    pub refused_ends : {numbers : Numbers} → found ≡ refused_by numbers → None ≡ ended_after (decide coding_of r block lent)
    unfolding by_judgement
    refused_ends {numbers} e = judged (refused_by numbers) (judged_so (refused_by numbers) e)

  pub short_ends : right ≡ false → None ≡ ended_after (decide coding_of r block lent)
  unfolding by_judgement
  short_ends e = judged (refused 1 0) (by_lengths false e)
