-- `stores::keep` meets its contract: by which store holds the last picture. Assumes nothing.
use mathlib.Core.Path.{◌≡◌, sym, ap, ◌∙◌}
use mathlib.Core.List.{List}
use Prim.Native.Nat.{ℕ}
use Rattle.coding.specs.declared.Kind.{Kind}
use Rattle.layout.specs.Flat.{Flat, flat}
use Rattle.coding.specs.Kind.{coding_of}
use Rattle.standing.specs.declared.Holder.{Holder}
use Rattle.standing.specs.declared.Holder.TheVariants.{Neither, First, Second}
use Rattle.standing.specs.Stores.{Stores, stores, reference, stores_with}
use Rattle.stores.proofs.keep.Goals as goal

abbrev done : Kind → Flat → Stores → Holder → Stores
done k d s holder = stores_with holder ((coding_of k).render d (reference holder s)) s

module _ {holder : Holder} (k : Kind) (d : Flat) (first second : List ℕ) where
  at_first : {picture : List ℕ} → holder ≡ Neither → picture ≡ (coding_of k).render d second → stores picture second ≡ done k d (stores first second) holder
  at_first e h = ap (λ (l : List ℕ). stores l second) h ∙ sym (ap (done k d (stores first second)) e)

  into_second : {picture : List ℕ} → holder ≡ First → picture ≡ (coding_of k).render d first → stores first picture ≡ done k d (stores first second) holder
  into_second e h = ap (stores first) h ∙ sym (ap (done k d (stores first second)) e)

  into_first : {picture : List ℕ} → holder ≡ Second → picture ≡ (coding_of k).render d second → stores picture second ≡ done k d (stores first second) holder
  into_first e h = ap (λ (l : List ℕ). stores l second) h ∙ sym (ap (done k d (stores first second)) e)

pub returns-in-Neither : goal.returns-in-Neither
returns-in-Neither c =
    at_first c.args.kind (flat c.args.head.now c.args.macroblocks.now c.args.levels.now) c.args.first.now
    c.args.second.now c.in-Neither.is c.render.ensures

pub returns-in-First : goal.returns-in-First
returns-in-First c =
    into_second c.args.kind (flat c.args.head.now c.args.macroblocks.now c.args.levels.now) c.args.first.now
    c.args.second.now c.in-First.is c.render-in-First.ensures

pub returns-in-Second : goal.returns-in-Second
returns-in-Second c =
    into_first c.args.kind (flat c.args.head.now c.args.macroblocks.now c.args.levels.now) c.args.first.now
    c.args.second.now c.in-Second.is c.render-in-Second.ensures
