-- `standing::show` meets its contract: by the answer, then by how the receiver stands. Assumes nothing.
use mathlib.Core.Path.{◌≡◌, refl, sym, ap, subst, ◌∙◌}
use denote.Ref.{Bor}
use mathlib.Core.Bool.{Bool, true, false}
use mathlib.Core.List.{List}
use Prim.Native.Nat.{ℕ}
use Rattle.laws.specs.Choice.{pick}
use Rattle.size.specs.declared.Size.{Size}
use Rattle.coding.specs.Kind.{kind_size}
use Rattle.standing.specs.declared.Holder.{Holder}
use Rattle.standing.specs.declared.Holder.TheVariants.{Neither}
use Rattle.standing.specs.Stores.{HandsBack}
use Rattle.standing.specs.declared.Received.{Received}
use Rattle.standing.specs.Answered.{said, told_received}
use Rattle.standing.specs.Shown.{where_shown, refused_length, holder_shown, ShowHands}
use Rattle.standing.proofs.show.Goals as goal

module _ {length : Bool} {size : Size} (x : Received) (first second : Bor (List ℕ)) (sz : size ≡ kind_size x.next.kind) (is : length ≡ refused_length (said x.answer)) where
  -- the store that is shown where the length isn't refused
  abbrev holding : Holder
  holding = where_shown x.next.progress.standing x.next.last.holder

  by_length : {part : Bor (List ℕ)} {holder : Holder} (b : Bool) → length ≡ b → holder ≡ pick b Neither holding → HandsBack size holder first second part
      → ShowHands (told_received x) first second part
  by_length {part} {holder} b e k h =
      let held : holder ≡ holder_shown (told_received x) = k ∙ ap (λ (t : Bool). pick t Neither holding) (sym e ∙ is) in
      subst (λ (z : Size). HandsBack z (holder_shown (told_received x)) first second part) sz (subst (λ (m : Holder). HandsBack size m first second part) held h)

pub returns-then-refused_length : goal.returns-then-refused_length
returns-then-refused_length c =
    by_length c.args.received c.args.first c.args.second c.size_of-size.ensures c.refused_length.ensures true c.if-refused_length.true refl c.store_shown.ensures

pub returns : goal.returns
returns c =
    by_length c.args.received c.args.first c.args.second c.size_of-size.ensures c.refused_length.ensures false c.if-refused_length.false c.where_shown-shown.ensures c.store_shown-2.ensures
