-- The order of refusals: the theorems. Assumes nothing.
use Prim.Native.Nat.{ℕ, zero, suc, ◌+◌, ◌≤◌, ◌<◌}
use mathlib.Core.Path.{◌≡◌, refl, sym, ap, subst, ◌∙◌}
use mathlib.Core.Bool.{Bool, true, false}
use mathlib.Core.List.{List, [], ◌∷◌, ◌++◌}
use mathlib.Core.Logic.{inl, inr}
use native.Mathlib.Omega.{arith}
use native.Mathlib.Nat.{le_refl}
use lib.ListN.{length, take, drop, take-append-drop}
use Rattle.refusals.specs.declared.Reason.{Reason}
use Rattle.refusals.specs.declared.Reason.TheVariants.{BitsEnd}
use Rattle.refusals.specs.declared.Refusal.{Refusal}
use Rattle.refusals.specs.Number.{number}
use Rattle.bits.specs.Bits.{Bit}
use Rattle.bits.specs.Read.{Read, got, refused, bad, Reader}
use Rattle.layout.specs.Proper.{If}
use Rattle.order.specs.Order.{bits_end, EarliestPlace}
use Rattle.order.specs.Grammar.{PictureEarliest}
use Rattle.order.proofs.Logic.{Low, Moved, From, Grown, Steady}
use Rattle.order.proofs.Layers.{picture_stands}

take_most : (j : ℕ) (bs : List Bit) → length (take j bs) ≤ j
take_most zero bs = omega arith
take_most (suc j) [] = omega arith
take_most (suc j) (b ∷ bs) = omega (arith, take_most j bs)

-- ---- what stands beside itself with more bits refuses at the earliest place
module _ {A : Type 0} {back : Reason → ℕ} {ending : Bool} {least : ℕ} {r : Reader A} (h : (bound bound' : ℕ) → Steady back ending bound bound' least r r) where
  grown : (bs more : List Bit) (at : ℕ) → Grown back ending more (r bs at) (r (bs ++ more) at)
  grown bs more at = (h (suc (length bs)) (suc (length (bs ++ more)))).grows bs more at (le_refl (suc (length bs))) (le_refl (suc (length (bs ++ more))))

  moved : (bs : List Bit) (at : ℕ) → Moved least bs at (r bs at)
  moved bs at = (h (suc (length bs)) (suc (length bs))).here.moves bs at (le_refl (suc (length bs)))

  from_refused : (q : ℕ) (why : Refusal) (y : Read A) → y ≡ refused why → From back q y → q ≤ why.place + back why.reason
  from_refused q why y e g = subst (λ (z : Read A). From back q z) e g

  stays : (bs more : List Bit) (at : ℕ) (why : Refusal) → r bs at ≡ refused why → bits_end why.reason ≡ false → r (bs ++ more) at ≡ refused why
  stays bs more at why e n =
      subst (λ (b : Bool). If b (From back why.place (r (bs ++ more) at)) (r (bs ++ more) at ≡ refused why)) n
      (subst (λ (x : Read A). Grown back ending more x (r (bs ++ more) at)) e (grown bs more at))

  taken : (bs more : List Bit) (at place : ℕ) (why : Refusal) → r bs at ≡ bad BitsEnd place → r (bs ++ more) at ≡ refused why → place ≤ why.place + back why.reason
  unfolding bits_end number
  taken bs more at place why e w =
      from_refused place why (r (bs ++ more) at) w (subst (λ (x : Read A). Grown back ending more x (r (bs ++ more) at)) e (grown bs more at))

  ended : (bs left more : List Bit) (at place : ℕ) (a : A) (why : Refusal) → r bs at ≡ got a left place → r (bs ++ more) at ≡ refused why → place ≤ why.place + back why.reason
  ended bs left more at place a why e w = by (subst (λ (x : Read A). Grown back ending more x (r (bs ++ more) at)) e (grown bs more at))
    where
      by : Grown back ending more (got a left place) (r (bs ++ more) at) → place ≤ why.place + back why.reason
      by (inl g) = absurd (let z : ◌≡◌ {A = ℕ} 0 1 = cc in omega arith)
      by (inr g) = from_refused place why (r (bs ++ more) at) w g.1.1

  before : (bs : List Bit) (at j : ℕ) (why cut : Refusal) → r bs at ≡ refused why → at + j ≤ why.place → r (take j bs) at ≡ refused cut → bits_end cut.reason ≡ true
  before bs at j why cut e l c = by (bits_end cut.reason) refl
    where
      placed : Moved {A = A} least (take j bs) at (refused cut)
      placed = subst (λ (x : Read A). Moved least (take j bs) at x) c (moved (take j bs) at)

      by : (b : Bool) → bits_end cut.reason ≡ b → bits_end cut.reason ≡ true
      by true n = n
      by false n =
          let whole : r (take j bs ++ drop j bs) at ≡ refused cut = stays (take j bs) (drop j bs) at cut c n in
          let all : r bs at ≡ refused cut = ap (λ (l : List Bit). r l at) (sym (take-append-drop j bs)) ∙ whole in
          let same : cut ≡ why = cc in
          let low : cut.place < at + length (take j bs) = subst (λ (b : Bool). Low b cut.place (at + length (take j bs))) n placed.1 in
          absurd (omega (arith, take_most j bs, ap (λ (x : Refusal). x.place) same))

  pub stands_earliest : EarliestPlace back r
  stands_earliest = record { before = before; stays = stays; taken = taken; accepted = ended }

pub picture_earliest : PictureEarliest
picture_earliest f = stands_earliest (λ bound bound'. picture_stands f)
