-- `receiver::collect` meets its contract: by whether the part is the last. Assumes nothing.
use mathlib.Core.Path.{◌≡◌, sym, ap, ◌∙◌}
use mathlib.Core.Bool.{true, false}
use mathlib.Core.List.{List}
use Prim.Native.Nat.{ℕ}
use Rattle.coding.specs.Kind.{coding_of}
use Rattle.vault.specs.Parts.{placed_payload}
use Rattle.vault.specs.declared.Header.{Header}
use Rattle.standing.specs.Stores.{stores}
use Rattle.standing.specs.declared.Receiver.{Receiver}
use Rattle.standing.specs.declared.Received.{Received}
use Rattle.standing.specs.declared.Standing.{Standing}
use Rattle.standing.specs.Answered.{Reply, reply}
use Rattle.standing.specs.Answered as A
use Rattle.standing.specs.Receive.{Buffers, buffers, taken, count_of, ended_picture, took_of, taken_progress, with_progress, outcome, came_to}
use Rattle.receiver.specs.Receiving.{Settles}
use Rattle.receiver.proofs.Laws.{ended_collects}
use Rattle.receiver.proofs.collect.Goals as goal

module _ (r : Receiver) (header : Header) (standing : Standing) (block collection first second : List ℕ) where
  abbrev lent : Buffers
  lent = buffers collection first second

  abbrev whole : List ℕ
  whole = placed_payload block header.part collection

  last_comes : {after : List ℕ} → header.last ≡ true → after ≡ whole
      → ended_picture coding_of r header ((coding_of r.kind).read after (count_of header)) ≡ took_of coding_of r header standing whole
  unfolding took_of
  last_comes l e = ap (λ (c : List ℕ). ended_picture coding_of r header ((coding_of r.kind).read c (count_of header))) e ∙ sym (rw l)

  last_part : {x : Received} {after first₁ second₁ : List ℕ} → header.last ≡ true → after ≡ whole
      → Settles coding_of r (stores first second) (ended_picture coding_of r header ((coding_of r.kind).read after (count_of header))) x (stores first₁ second₁)
      → outcome x (buffers after first₁ second₁) ≡ came_to coding_of r block lent (took_of coding_of r header standing whole)
  unfolding came_to
  last_part {x} {after} l e s =
      (λ i. record {
        gave = s.gave i;
        left = record {
          collection = (e ∙ sym (ended_collects coding_of r header block collection ((coding_of r.kind).read after (count_of header)))) i;
          both = s.left i;
        };
      })
      ∙ ap (came_to coding_of r block lent) (last_comes l e)

  more_comes : header.last ≡ false → taken header standing ≡ took_of coding_of r header standing whole
  unfolding took_of
  more_comes l = sym (rw l)

  more_parts : {x : Reply} {after : List ℕ} → header.last ≡ false → after ≡ whole
      → x ≡ reply (A.taken header.picture header.part) (with_progress r (taken_progress r.progress header standing))
      → record { gave = x; left = buffers after first second } ≡ came_to coding_of r block lent (took_of coding_of r header standing whole)
  unfolding came_to
  more_parts l e h = (λ i. record { gave = h i; left = buffers (e i) first second }) ∙ ap (came_to coding_of r block lent) (more_comes l)

pub returns-then-header : goal.returns-then-header
returns-then-header c =
    last_part c.args.receiver c.args.header c.args.standing c.args.block.now c.args.collection.now c.args.first.now c.args.second.now c.if-header.true c.place.ensures c.finish.ensures

pub returns : goal.returns
returns c =
    more_parts c.args.receiver c.args.header c.args.standing c.args.block.now c.args.collection.now c.args.first.now c.args.second.now c.if-header.false c.place.ensures c.take.ensures
