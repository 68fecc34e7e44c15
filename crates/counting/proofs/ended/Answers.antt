-- `counting::ended` meets its contract: by what is found. Assumes nothing.
use Prim.Native.Nat.{ℕ}
use mathlib.Core.Path.{◌≡◌, refl, sym, ap, ◌∙◌}
use mathlib.Core.List.{List}
use Rattle.std.specs.Prelude.{Option}
use Rattle.refusals.specs.Told.{Told}
use Rattle.standing.specs.declared.Receiver.{Receiver}
use Rattle.standing.specs.Answered.{told_opened}
use Rattle.standing.specs.Receive.{Buffers, buffers}
use Rattle.counting.specs.Ending.{ended_opened}
use Rattle.counting.proofs.ended.Goals as goal

by_found : (block : List ℕ) (b : Buffers) {found is arm : Told Receiver} {x : Option ℕ} → found ≡ is → found ≡ arm → x ≡ ended_opened arm block b → x ≡ ended_opened is block b
by_found block b f e h = h ∙ ap (λ (o : Told Receiver). ended_opened o block b) (sym e ∙ f)

pub returns-in-Ok : goal.returns-in-Ok
returns-in-Ok c =
    let a = c.args in
    by_found a.block.now (buffers a.collection.now a.first.now a.second.now) c.find.ensures (ap told_opened c.in-Ok.is) c.ended_after.ensures

pub returns-in-Err : goal.returns-in-Err
returns-in-Err c =
    let a = c.args in
    by_found a.block.now (buffers a.collection.now a.first.now a.second.now) c.find.ensures (ap told_opened c.in-Err.is) refl
