-- `listing::list` meets its contract: by the clip. Assumes nothing.
use Prim.Native.Nat.{ℕ}
use mathlib.Core.Path.{◌≡◌, refl, sym, ap, ◌∙◌}
use mathlib.Core.List.{List}
use Rattle.size.specs.declared.Size.{Size}
use Rattle.standing.specs.Receive.{Buffers, buffers}
use Rattle.listing.specs.declared.Clip.{Clip}
use Rattle.listing.specs.Listed.{Came, begun, listed}
use Rattle.listing.proofs.list.Goals as goal

module _ (size : Size) {clip arm : Clip} (block : List ℕ) (b : Buffers) (e : clip ≡ arm) {x : Came} where
  known : x ≡ listed size arm block b → x ≡ listed size clip block b
  known o = o ∙ sym (ap (λ (k : Clip). listed size k block b) e)

  -- before the clip has a receiver
  unopened : begun size arm block b ≡ listed size arm block b → x ≡ begun size clip block b → x ≡ listed size clip block b
  unopened is o = known (o ∙ ap (λ (k : Clip). begun size k block b) e ∙ is)

pub returns-in-Known : goal.returns-in-Known
unfolding listed
returns-in-Known c =
    let a = c.args in
    known a.size a.block.now (buffers a.collection.now a.first.now a.second.now) c.in-Known.is c.go_on.ensures

pub returns-in-Unknown : goal.returns-in-Unknown
unfolding listed
returns-in-Unknown c =
    let a = c.args in
    unopened a.size a.block.now (buffers a.collection.now a.first.now a.second.now) c.in-Unknown.is refl c.begin.ensures

pub returns-in-Asked : goal.returns-in-Asked
unfolding listed
returns-in-Asked c =
    let a = c.args in
    unopened a.size a.block.now (buffers a.collection.now a.first.now a.second.now) c.in-Asked.is refl c.begin-in-Asked.ensures
