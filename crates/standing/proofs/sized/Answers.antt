-- `standing::sized` meets its contract: by its two tests. Assumes nothing.
use borrow.Author.Tests.{eq-eqb, ne_eqb}
use mathlib.Core.Path.{◌≡◌, sym, ap, ◌∙◌}
use mathlib.Core.Bool.{false}
use Prim.Native.Nat.{ℕ}
use lib.Dec.{eqb}
use Rattle.size.specs.declared.Size.{Size}
use Rattle.standing.specs.Stores.{stores_sized}
use Rattle.size.specs.Size.{store_length}
use Rattle.standing.proofs.sized.Goals as goal

module _ {named : ℕ} (size : Size) (first second : ℕ) (is : named ≡ store_length size) where
  not_first : (first ≡ named → ⊥) → false ≡ stores_sized size first second
  not_first h = sym (rw (ne_eqb first (store_length size) (λ e. h (e ∙ sym is))))

  by_second : first ≡ named → eqb second named ≡ stores_sized size first second
  by_second h = ap (eqb second) is ∙ sym (rw (eq-eqb first (store_length size) (h ∙ is)))

pub returns-then-first-named : goal.returns-then-first-named
returns-then-first-named c = not_first c.args.size c.args.first c.args.second c.store_length-named.ensures c.if-first-named.true

pub returns : goal.returns
returns c = by_second c.args.size c.args.first c.args.second c.store_length-named.ensures c.if-first-named.false
