-- `sender::named` meets its contract: by the description, the output, the stores. Assumes nothing.
use borrow.Author.Tests.{eq-eqb, ne_eqb}
use mathlib.Core.Path.{◌≡◌, sym, ap, ◌∙◌}
use mathlib.Core.Bool.{Bool, true, false}
use mathlib.Core.List.{List}
use Prim.Native.Nat.{ℕ}
use lib.Dec.{eqb}
use lib.ListN.{length}
use Rattle.laws.specs.Choice.{both}
use Rattle.size.specs.declared.Size.{Size}
use Rattle.size.specs.Size.{blocks_length}
use Rattle.coding.specs.declared.Kind.{Kind}
use Rattle.layout.specs.Flat.{Flat, flat}
use Rattle.coding.specs.Kind.{kind_size, coding_of}
use Rattle.standing.specs.Stores.{stores_sized}
use Rattle.sender.specs.Send.{buffers, lent_lengths}
use Rattle.sender.proofs.named.Goals as goal

module _ {one : Bool} (k : Kind) (d : Flat) (out first second : List ℕ) (is : one ≡ (coding_of k).named d) where
  abbrev aim : Bool
  aim = both ((coding_of k).named d) (lent_lengths (kind_size k) (buffers out first second))

  by_description : (b : Bool) → one ≡ b → both b (lent_lengths (kind_size k) (buffers out first second)) ≡ aim
  by_description b e = ap (λ (t : Bool). both t (lent_lengths (kind_size k) (buffers out first second))) (sym e ∙ is)

  not_one : one ≡ false → false ≡ aim
  not_one e = by_description false e

  module _ (t : one ≡ true) {size : Size} (sz : size ≡ kind_size k) {length₀ : ℕ} (n : length₀ ≡ blocks_length size) where
    by_output : (b : Bool) → eqb (length out) (blocks_length size) ≡ b → both b (stores_sized size (length first) (length second)) ≡ aim
    by_output b e =
        ap (λ (t : Bool). both t (stores_sized size (length first) (length second))) (sym e) ∙ ap (λ (z : Size). lent_lengths z (buffers out first second)) sz ∙ by_description true t

    unfit : (length out ≡ length₀ → ⊥) → false ≡ aim
    unfit h = by_output false (ne_eqb (length out) (blocks_length size) (λ e. h (e ∙ sym n)))

    fit : {right : Bool} → length out ≡ length₀ → right ≡ stores_sized size (length first) (length second) → right ≡ aim
    fit e h = h ∙ by_output true (eq-eqb (length out) (blocks_length size) (e ∙ n))

pub returns-then-not-named : goal.returns-then-not-named
returns-then-not-named c =
    not_one c.args.kind (flat c.args.head.now c.args.macroblocks.now c.args.levels.now) c.args.out.now c.args.first.now c.args.second.now c.named.ensures c.if-not-named.true

pub returns-then-out-blocks_length : goal.returns-then-out-blocks_length
returns-then-out-blocks_length c =
    unfit c.args.kind (flat c.args.head.now c.args.macroblocks.now c.args.levels.now) c.args.out.now c.args.first.now c.args.second.now c.named.ensures c.if-not-named.false c.size_of-size.ensures c.blocks_length.ensures c.if-out-blocks_length.true

pub returns : goal.returns
returns c =
    fit c.args.kind (flat c.args.head.now c.args.macroblocks.now c.args.levels.now) c.args.out.now c.args.first.now c.args.second.now c.named.ensures c.if-not-named.false c.size_of-size.ensures c.blocks_length.ensures c.if-out-blocks_length.false c.sized.ensures
