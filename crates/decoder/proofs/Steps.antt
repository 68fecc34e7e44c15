-- Reading, then judging the mark, then rendering, on plain values. Assumes nothing.
use Rattle.refusals.specs.declared.Refusal.{Refusal}
use mathlib.Core.Path.{◌≡◌, refl, sym, ap, ◌∙◌}
use mathlib.Core.Bool.{Bool, true, false}
use mathlib.Core.List.{List}
use Prim.Native.Nat.{ℕ}
use borrow.Author.Tests.{eq-eqb, ne_eqb}
use lib.ListN.{length}
use Rattle.std.specs.Prelude.{Result, Option, None}
use Rattle.laws.specs.Choice.{pick}
use Rattle.refusals.specs.Told.{Numbers, Told, accepted, refused_by, refused, told_verdict, verdict_on, found_or}
use Rattle.size.specs.Size.{store_length}
use Rattle.coding.specs.declared.Kind.{Kind}
use Rattle.layout.specs.Flat.{Flat}
use Rattle.coding.specs.Kind.{kind_size, coding_of}
use Rattle.decoder.specs.Decoded.{told_drawn, true_mark, judged_mark, tr_by, drawn_by, drawn_store, marked_read, marked_tr, marked_store, decoded}

-- ---- what is drawn, by what is found and by whether the mark is true
module _ (k : Kind) (mark : Option Bool) (s : List ℕ) (n : ℕ) (reference : List ℕ) where
  -- of what is judged: the answer, and the store that is left
  module _ {x : Told Flat} (e : marked_read k mark s n ≡ x) where
    tr_as : marked_tr k mark s n ≡ tr_by (coding_of k) x
    unfolding marked_tr
    tr_as = ap (tr_by (coding_of k)) e

    store_as : marked_store k mark s n reference ≡ drawn_by (coding_of k) reference x
    unfolding marked_store
    store_as = ap (drawn_by (coding_of k) reference) e

  module _ {d : Flat} (e : (coding_of k).read s n ≡ accepted d) {is : Bool} (m : is ≡ true_mark (coding_of k) mark d) where
    by_mark : (b : Bool) → is ≡ b → marked_read k mark s n ≡ pick b (accepted d) (refused 24 0)
    by_mark b t = ap (judged_mark (coding_of k) mark) e ∙ ap (λ (b : Bool). pick b (accepted d) (refused 24 0)) (sym m ∙ t)

    pub drawn : is ≡ true → (tr : ℕ) → tr ≡ (coding_of k).tr d → (old new : List ℕ) → new ≡ (coding_of k).render d reference
        → (accepted tr ≡ marked_tr k mark s n) × (new ≡ found_or old (marked_store k mark s n reference))
    drawn t tr f old new h = (ap accepted f ∙ sym (tr_as (by_mark true t)), h ∙ sym (ap (found_or old) (store_as (by_mark true t))))

    pub untrue : is ≡ false → (old : List ℕ) → (refused 24 0 ≡ marked_tr k mark s n) × (old ≡ found_or old (marked_store k mark s n reference))
    untrue t old = (sym (tr_as (by_mark false t)), sym (ap (found_or old) (store_as (by_mark false t))))

  pub unread : {numbers : Numbers} → (coding_of k).read s n ≡ refused_by numbers → (old : List ℕ)
      → (refused_by numbers ≡ marked_tr k mark s n) × (old ≡ found_or old (marked_store k mark s n reference))
  unread e old = let judged = ap (judged_mark (coding_of k) mark) e in (sym (tr_as judged), sym (ap (found_or old) (store_as judged)))

  -- the verdict on it
  pub verdict_alike : verdict_on (marked_tr k mark s n) ≡ verdict_on (marked_store k mark s n reference)
  unfolding marked_tr marked_store
  verdict_alike = same (marked_read k mark s n)
    where
      same : (x : Told Flat) → verdict_on (tr_by (coding_of k) x) ≡ verdict_on (drawn_by (coding_of k) reference x)
      same (accepted d) = refl
      same (refused_by numbers) = refl

module _ (k : Kind) (s : List ℕ) (n : ℕ) (reference : List ℕ) where
  -- without a mark, nothing is judged
  unmarked : marked_store k None s n reference ≡ drawn_store k s n reference
  unfolding marked_store drawn_store
  unmarked = same ((coding_of k).read s n)
    where
      same : (x : Told Flat) → drawn_by (coding_of k) reference (judged_mark (coding_of k) None x) ≡ drawn_by (coding_of k) reference x
      same (accepted d) = refl
      same (refused_by numbers) = refl

  -- ---- the lengths, with the named one as the code has it
  module _ (room : ℕ) {named : ℕ} (is : named ≡ store_length (kind_size k)) where
    pub unfit_reference : (length reference ≡ named → ⊥) → decoded k s n reference room ≡ refused 1 0
    unfolding decoded
    unfit_reference h = rw (ne_eqb (length reference) (store_length (kind_size k)) (λ e. h (e ∙ sym is)))

    pub unfit_store : length reference ≡ named → (room ≡ named → ⊥) → decoded k s n reference room ≡ refused 1 0
    unfolding decoded
    unfit_store e h = rw (eq-eqb (length reference) (store_length (kind_size k)) (e ∙ is), ne_eqb room (store_length (kind_size k)) (λ e. h (e ∙ sym is)))

    fitting : length reference ≡ named → room ≡ named → decoded k s n reference room ≡ drawn_store k s n reference
    unfolding decoded
    fitting e h = rw (eq-eqb (length reference) (store_length (kind_size k)) (e ∙ is), eq-eqb room (store_length (kind_size k)) (h ∙ is))

    fit : length reference ≡ named → room ≡ named → decoded k s n reference room ≡ marked_store k None s n reference
    fit e h = fitting e h ∙ sym unmarked

    -- what came of the drawing, as a verdict
    pub by_drawn : length reference ≡ named → room ≡ named → (verdict : Result (Unit {0}) Refusal) (answer : Result ℕ Refusal) (old new : List ℕ) → told_verdict verdict ≡ verdict_on (told_drawn answer)
        → told_drawn answer ≡ marked_tr k None s n → new ≡ found_or old (marked_store k None s n reference)
        → (told_verdict verdict ≡ verdict_on (decoded k s n reference room)) × (new ≡ found_or old (decoded k s n reference room))
    by_drawn e h verdict answer old new t v b =
        (t ∙ ap verdict_on v ∙ verdict_alike k None s n reference ∙ sym (ap verdict_on (fit e h)), b ∙ sym (ap (found_or old) (fit e h)))
