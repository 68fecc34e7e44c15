-- `listing::begin` meets its contract: by the lengths, and by what is found. Assumes nothing.
use Prim.Native.Nat.{ℕ}
use mathlib.Core.Path.{◌≡◌, sym, ap, ◌∙◌}
use mathlib.Core.Bool.{Bool, true, false}
use mathlib.Core.List.{List}
use Rattle.std.specs.Prelude.{Err}
use Rattle.laws.specs.Choice.{pick}
use Rattle.refusals.specs.declared.Reason.TheVariants.{Length}
use Rattle.refusals.specs.declared.Refusal.{Refusal}
use Rattle.refusals.specs.Number.{number, read_table, refusal}
use Rattle.refusals.specs.Told.{Told, accepted, refused}
use Rattle.size.specs.declared.Size.{Size}
use Rattle.coding.specs.Kind.{coding_of}
use Rattle.standing.specs.declared.Receiver.{Receiver}
use Rattle.standing.specs.Answered.{told_opened}
use Rattle.standing.specs.Receive.{Buffers, buffers, lent_lengths, step}
use Rattle.listing.specs.declared.Clip.{Clip}
use Rattle.listing.specs.declared.Listed.{Listed}
use Rattle.listing.specs.Listed.{came, stays, stepped, by_opened, found_by, begun}
use Rattle.listing.proofs.begin.Goals as goal

module _ (size : Size) (clip : Clip) (block : List ℕ) (b : Buffers) {right : Bool} (is : right ≡ lent_lengths size b) where
  -- what the call comes to, by whether the buffers have their named lengths
  by_lengths : (t : Bool) → right ≡ t → by_opened clip (pick t (found_by size clip block) (refused 1 0)) block b ≡ begun size clip block b
  unfolding begun
  by_lengths t h = ap (λ (u : Bool). by_opened clip (pick u (found_by size clip block) (refused 1 0)) block b) (sym h ∙ is)

  unfit : {x : Listed} → right ≡ false → x ≡ stays clip (refusal Length 0) → came x b ≡ begun size clip block b
  unfolding by_opened number read_table
  unfit h o = ap (λ (y : Listed). came y b) o ∙ by_lengths false h

  module _ (h : right ≡ true) {found : Told Receiver} (f : found ≡ found_by size clip block) where
    on : {o : Told Receiver} → found ≡ o → by_opened clip o block b ≡ begun size clip block b
    on g = ap (λ (o : Told Receiver). by_opened clip o block b) (sym g ∙ f) ∙ by_lengths true h

    first_good : {r : Receiver} → found ≡ accepted r → stepped (step coding_of r block b) ≡ begun size clip block b
    unfolding by_opened
    first_good g = on g

    not_yet : {x : Listed} {why : Refusal} → found ≡ told_opened (Err why) → x ≡ stays clip why → came x b ≡ begun size clip block b
    unfolding by_opened
    not_yet g o = ap (λ (y : Listed). came y b) o ∙ on g

pub returns-in-Ok : goal.returns-in-Ok
returns-in-Ok c =
    let a = c.args in
    c.go_on.ensures ∙ first_good a.size a.clip a.block.now (buffers a.collection.now a.first.now a.second.now)
    c.named.ensures c.if-named.true c.find.ensures (ap told_opened c.in-Ok.is)

pub returns-in-Err : goal.returns-in-Err
returns-in-Err c =
    let a = c.args in
    not_yet a.size a.clip a.block.now (buffers a.collection.now a.first.now a.second.now)
    c.named.ensures c.if-named.true c.find.ensures (ap told_opened c.in-Err.is) c.refused.ensures

pub returns-else-named : goal.returns-else-named
returns-else-named c =
    let a = c.args in
    unfit a.size a.clip a.block.now (buffers a.collection.now a.first.now a.second.now) c.named.ensures c.if-named.false c.refused-else-named.ensures
