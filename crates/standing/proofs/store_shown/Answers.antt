-- `standing::store_shown` meets its contract: by the lengths, then by which store holds the picture. Assumes nothing.
use mathlib.Core.Path.{◌≡◌, refl, sym, ap, ◌∙◌}
use denote.Ref.{Bor}
use mathlib.Core.Bool.{Bool, true, false}
use mathlib.Core.List.{List, []}
use Prim.Native.Nat.{ℕ}
use lib.ListN.{length}
use Rattle.size.specs.declared.Size.{Size}
use Rattle.standing.specs.declared.Holder.{Holder}
use Rattle.standing.specs.Stores.{stores, stores_sized, last_picture, start_of, HandsBack}
use Rattle.standing.proofs.store_shown.Goals as goal

module _ {right : Bool} (size : Size) (holder : Holder) (first second part : Bor (List ℕ)) (is : right ≡ stores_sized size (length first.now) (length second.now)) where
  handed : (h : Holder) → right ≡ true → holder ≡ h → part.ref_ptr ≡ start_of h first.ref_ptr second.ref_ptr → part.now ≡ last_picture h (stores first.now second.now)
      → HandsBack size holder first second part
  handed h t e p b = record {
    begins = p ∙ sym (rw (sym is ∙ t) (ap (λ (k : Holder). start_of k first.ref_ptr second.ref_ptr) e));
    bytes = b ∙ sym (rw (sym is ∙ t) (ap (λ (k : Holder). last_picture k (stores first.now second.now)) e));
  }

  nothing : right ≡ false → part.ref_ptr ≡ first.ref_ptr → part.now ≡ [] → HandsBack size holder first second part
  nothing t p b = record { begins = p ∙ sym (rw (sym is ∙ t)); bytes = b ∙ sym (rw (sym is ∙ t)) }

pub returns-in-Neither : goal.returns-in-Neither
returns-in-Neither c =
    handed c.args.size c.args.holder c.args.first c.args.second _ c.sized.ensures _ c.if-sized.true
    c.in-Neither.is refl refl

pub returns-in-First : goal.returns-in-First
returns-in-First c =
    handed c.args.size c.args.holder c.args.first c.args.second _ c.sized.ensures _
    c.if-sized.true c.in-First.is refl refl

pub returns-in-Second : goal.returns-in-Second
returns-in-Second c =
    handed c.args.size c.args.holder c.args.first c.args.second _ c.sized.ensures _
    c.if-sized.true c.in-Second.is refl refl

pub returns-else-sized : goal.returns-else-sized
returns-else-sized c =
    nothing c.args.size c.args.holder c.args.first c.args.second _ c.sized.ensures
    c.if-sized.false refl refl
