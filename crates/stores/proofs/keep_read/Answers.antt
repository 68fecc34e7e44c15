-- `stores::keep_read` meets its contract: by which store holds the last picture. Assumes nothing.
use mathlib.Core.Path.{◌≡◌, refl, sym, ap, subst, ◌∙◌}
use mathlib.Core.List.{List}
use Prim.Native.Nat.{ℕ}
use Rattle.std.specs.Prelude.{Bool, Option}
use Rattle.refusals.specs.Told.{Told, accepted, refused_by, found_or}
use Rattle.coding.specs.declared.Kind.{Kind}
use Rattle.decoder.specs.Decoded.{marked_store}
use Rattle.standing.specs.declared.Holder.{Holder}
use Rattle.standing.specs.declared.Holder.TheVariants.{Neither, First, Second}
use Rattle.standing.specs.Stores.{Stores, stores, reference}
use Rattle.stores.specs.Kept.{stores_or}
use Rattle.stores.proofs.keep_read.Goals as goal

module _ (first second : List ℕ) where
  neither_or : (x : Told (List ℕ)) → stores (found_or first x) second ≡ stores_or Neither (stores first second) x
  unfolding stores_or
  neither_or (accepted picture) = refl
  neither_or (refused_by numbers) = refl

  first_or : (x : Told (List ℕ)) → stores first (found_or second x) ≡ stores_or First (stores first second) x
  unfolding stores_or
  first_or (accepted picture) = refl
  first_or (refused_by numbers) = refl

  second_or : (x : Told (List ℕ)) → stores (found_or first x) second ≡ stores_or Second (stores first second) x
  unfolding stores_or
  second_or (accepted picture) = refl
  second_or (refused_by numbers) = refl

module _ (k : Kind) (mark : Option Bool) (bytes : List ℕ) (n : ℕ) (first second : List ℕ) where
  -- what is promised
  abbrev Left : Holder → Stores → Type 0
  Left h t = t ≡ stores_or h (stores first second) (marked_store k mark bytes n (reference h (stores first second)))

  at_first : {holder : Holder} {picture : List ℕ} → holder ≡ Neither → picture ≡ found_or first (marked_store k mark bytes n second) → Left holder (stores picture second)
  at_first {picture = picture} e h =
      subst (λ (x : Holder). Left x (stores picture second)) (sym e) (ap (λ (l : List ℕ). stores l second) h ∙ neither_or first second (marked_store k mark bytes n second))

  into_second : {holder : Holder} {picture : List ℕ} → holder ≡ First → picture ≡ found_or second (marked_store k mark bytes n first) → Left holder (stores first picture)
  into_second {picture = picture} e h = subst (λ (x : Holder). Left x (stores first picture)) (sym e) (ap (stores first) h ∙ first_or first second (marked_store k mark bytes n first))

  into_first : {holder : Holder} {picture : List ℕ} → holder ≡ Second → picture ≡ found_or first (marked_store k mark bytes n second) → Left holder (stores picture second)
  into_first {picture = picture} e h =
      subst (λ (x : Holder). Left x (stores picture second)) (sym e) (ap (λ (l : List ℕ). stores l second) h ∙ second_or first second (marked_store k mark bytes n second))

pub returns-in-Neither : goal.returns-in-Neither
returns-in-Neither c =
    let left = at_first c.args.kind c.args.mark c.args.bytes.now c.args.count c.args.first.now c.args.second.now c.in-Neither.is c.draw.ensures.samples in
    record { answer = c.draw.ensures.answer; samples = left }

pub returns-in-First : goal.returns-in-First
returns-in-First c =
    let left = into_second c.args.kind c.args.mark c.args.bytes.now c.args.count c.args.first.now c.args.second.now c.in-First.is c.draw-in-First.ensures.samples in
    record { answer = c.draw-in-First.ensures.answer; samples = left }

pub returns-in-Second : goal.returns-in-Second
returns-in-Second c =
    let left = into_first c.args.kind c.args.mark c.args.bytes.now c.args.count c.args.first.now c.args.second.now c.in-Second.is c.draw-in-Second.ensures.samples in
    record { answer = c.draw-in-Second.ensures.answer; samples = left }
