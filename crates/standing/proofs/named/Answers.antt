-- `standing::named` meets its contract: by its test. Assumes nothing.
use borrow.Author.Tests.{eq-eqb, ne_eqb}
use mathlib.Core.Path.{◌≡◌, sym, ◌∙◌}
use mathlib.Core.Bool.{Bool, false}
use Prim.Native.Nat.{ℕ}
use Rattle.size.specs.declared.Size.{Size}
use Rattle.size.specs.Size.{collection_length}
use Rattle.standing.specs.Stores.{stores_sized}
use Rattle.standing.specs.Receive.{named_lengths}
use Rattle.standing.proofs.named.Goals as goal

module _ {length : ℕ} (size : Size) (collection first second : ℕ) (is : length ≡ collection_length size) where
  by_stores : {right : Bool} → collection ≡ length → right ≡ stores_sized size first second → right ≡ named_lengths size collection first second
  by_stores e h = h ∙ sym (rw (eq-eqb collection (collection_length size) (e ∙ is)))

  other : (collection ≡ length → ⊥) → false ≡ named_lengths size collection first second
  other h = sym (rw (ne_eqb collection (collection_length size) (λ e. h (e ∙ sym is))))

pub returns-then-collection-collection_length : goal.returns-then-collection-collection_length
returns-then-collection-collection_length c = by_stores c.args.size c.args.collection c.args.first c.args.second c.collection_length.ensures c.if-collection-collection_length.true c.sized.ensures

pub returns : goal.returns
returns c = other c.args.size c.args.collection c.args.first c.args.second c.collection_length.ensures c.if-collection-collection_length.false
