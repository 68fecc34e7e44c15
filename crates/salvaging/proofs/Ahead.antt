-- A receiver's answers, one after another: which pictures can still be finished, and what a receiver that runs ahead finds out. Assumes nothing.
use mathlib.Core.Path.{◌≡◌, refl, sym, ap, subst, ◌∙◌}
use mathlib.Core.Bool.{Bool, true, false}
use mathlib.Core.Logic.{◌⊎◌, inl, inr}
use mathlib.Core.List.{List, [], ◌∷◌}
use Prim.Native.Nat.{ℕ, ◌+◌, ◌≤◌, ◌<◌}
use native.Mathlib.Omega.{arith}
use borrow.Author.Tests.{eqb-true, eqb-false, eq-eqb, ne_eqb}
use lib.Dec.{eqb}
use Rattle.laws.specs.Choice.{pick, either, one_of}
use Rattle.laws.proofs.Choice.{second_no}
use Rattle.coding.specs.declared.Kind.{Kind}
use Rattle.coding.specs.Coding.{Coding}
use Rattle.vault.specs.declared.Header.{Header}
use Rattle.vault.specs.Block.{pictures}
use Rattle.standing.specs.declared.Place.{Place}
use Rattle.standing.specs.declared.Progress.{Progress}
use Rattle.standing.specs.declared.Receiver.{Receiver}
use Rattle.standing.specs.declared.Standing.{Standing}
use Rattle.standing.specs.Answered.{Said}
use Rattle.standing.specs.Receive.{Event, refusing, old, taken, lost, failed, finished, Buffers, place, earlier_place, is_lost, decide, advance, answer_of, came_to, step}
use Rattle.standing.specs.Run.{World, world_after, answers}
use Rattle.standing.specs.Answered as A
use Rattle.salvaging.specs.Kept.{kept_numbers}
use Rattle.salvaging.specs.Step.{Collects, still_collects, looked_at}
use Rattle.salvaging.specs.declared.Sight.{Sight}
use Rattle.salvaging.specs.declared.Sight.TheVariants.{Finished, Gone, Collecting}
use Rattle.salvaging.proofs.Rising.{TookBy, by_next, by_anew, EventKnown, event_known, judged_means, later_part, took_after, Past, beyond, dropped, past_took}

-- ---- a picture that is collected
-- the next part of it is taken, or a later picture is begun
collects_took : {n : ℕ} {p : Progress} {header : Header} {standing : Standing} → Collects n p → TookBy p header standing
    → ((header.picture ≡ n) × (is_lost standing ≡ false)) ⊎ (n < header.picture)
collects_took {n} {p} {header} k (by_next e l s) = inl (ap (λ (q : Place). q.picture) e ∙ k.wants, ap is_lost s ∙ l)
collects_took {n} {p} {header} k (by_anew z r e s) =
    let begun = later_part header.picture p.wanted.picture p.wanted.part (ap (λ (m : ℕ). earlier_place (place header.picture m) p.wanted) (sym z) ∙ e) k.begun in
    inr (omega (arith, begun, k.wants))

still_so : {n : ℕ} {p : Progress} → Collects n p → still_collects n p ≡ true
still_so {n} {p} k = rw (eq-eqb p.wanted.picture n k.wants, k.stands)

-- ---- what running ahead finds, if these are the answers to come
abbrev pub LookRight : ℕ → Said → Progress → List Said → Sight → Type 0
LookRight n answer p rest Finished = one_of (kept_numbers (answer ∷ rest)) n ≡ true
LookRight n answer p rest Gone = one_of (kept_numbers (answer ∷ rest)) n ≡ false
LookRight n answer p rest Collecting = (one_of (kept_numbers (answer ∷ rest)) n ≡ one_of (kept_numbers rest) n) × Collects n p

-- an answer that finishes no picture
module _ (n : ℕ) (answer : Said) (p : Progress) (rest : List Said) (none : kept_numbers (answer ∷ rest) ≡ kept_numbers rest) where
  looks_on : Collects n p → LookRight n answer p rest (pick (still_collects n p) Collecting Gone)
  looks_on k = subst (λ (b : Bool). LookRight n answer p rest (pick b Collecting Gone)) (sym (still_so k)) (ap (λ (l : List ℕ). one_of l n) none, k)

  looks_gone : still_collects n p ≡ false → one_of (kept_numbers rest) n ≡ false → LookRight n answer p rest (pick (still_collects n p) Collecting Gone)
  looks_gone e never = subst (λ (b : Bool). LookRight n answer p rest (pick b Collecting Gone)) (sym e) (ap (λ (l : List ℕ). one_of l n) none ∙ never)

other_picture : (n : ℕ) (p : Progress) → n < p.wanted.picture → still_collects n p ≡ false
other_picture n p l = let other : p.wanted.picture ≡ n → ⊥ = λ e. omega (arith, l, e) in rw (ne_eqb p.wanted.picture n other)

module _ {D : Type 0} (coding : Kind → Coding D) where
  module _ {n : ℕ} (r : Receiver) (block : List ℕ) (b : Buffers) where
    -- ---- a picture that is past stays so, and is not finished
    past_next : (e : Event D) → EventKnown coding r block b e → Past n r.progress → Past n (advance coding r e).progress
    past_next (refusing numbers) k h = h
    past_next (old header) k h = h
    past_next (taken header standing) k h = beyond (past_took h k.by)
    past_next lost k (beyond l) = beyond l
    past_next lost k (dropped w begun l) = dropped w begun refl
    past_next (failed header numbers) k h = let l = past_took h k.1.by in beyond (omega (arith, l))
    past_next (finished header d) k h = let l = past_took h k.took.by in beyond (omega (arith, l))

    past_none : (e : Event D) → EventKnown coding r block b e → Past n r.progress → (rest : List Said)
        → one_of (kept_numbers (answer_of coding r e ∷ rest)) n ≡ one_of (kept_numbers rest) n
    unfolding kept_numbers
    past_none (refusing numbers) k h rest = refl
    past_none (old header) k h rest = refl
    past_none (taken header standing) k h rest = refl
    past_none lost k h rest = refl
    past_none (failed header numbers) k h rest = refl
    past_none (finished header d) k h rest =
        let l = past_took h k.took.by in
        let other : n ≡ header.picture → ⊥ = λ e. omega (arith, l, e) in
        rw (ne_eqb n header.picture other)

    -- ---- one that is collected
    module _ (k : Collects n r.progress) (rest : List Said) where
      abbrev Never : Event D → Type 0
      Never e = Past n (advance coding r e).progress → one_of (kept_numbers rest) n ≡ false

      abbrev next : Event D → Progress
      next e = (advance coding r e).progress

      abbrev LooksRight : Event D → Type 0
      LooksRight e = LookRight n (answer_of coding r e) (next e) rest (looked_at n (answer_of coding r e) (next e))

      took_looks : (header : Header) (standing : Standing) → ((header.picture ≡ n) × (is_lost standing ≡ false)) ⊎ (n < header.picture) → Never (taken header standing) → LooksRight (taken header standing)
      unfolding kept_numbers
      took_looks header standing (inl t) never =
          looks_on n (A.taken header.picture header.part) (next (taken header standing)) rest refl (record { wants = t.0; begun = omega arith; stands = t.1 })
      took_looks header standing (inr l) never =
          looks_gone n (A.taken header.picture header.part) (next (taken header standing)) rest refl (other_picture n (next (taken header standing)) l) (never (beyond l))

      looks_right : (e : Event D) → EventKnown coding r block b e → Never e → LooksRight e
      unfolding kept_numbers
      looks_right (refusing numbers) known never = looks_on n (A.refused numbers) r.progress rest refl k
      looks_right (old header) known never = looks_on n (A.old header.picture header.part) r.progress rest refl k
      looks_right (taken header standing) known never = took_looks header standing (collects_took k known.by) never
      looks_right lost known never =
          looks_gone n A.lost (next lost) rest refl (second_no (eqb r.progress.wanted.picture n) false refl) (never (dropped k.wants k.begun refl))
      looks_right (failed header numbers) known never =
          let after = took_after known.1.by in
          let l : n < header.picture + 1 = omega (arith, k.wants) in
          looks_gone n (A.refused numbers) (next (failed header numbers)) rest refl (other_picture n (next (failed header numbers)) l) (never (beyond l))
      looks_right (finished header d) known never = go (eqb header.picture n) refl
        where
          after : r.progress.wanted.picture ≤ header.picture
          after = took_after known.took.by

          l : n < header.picture + 1
          l = omega (arith, after, k.wants)

          go : (t : Bool) → eqb header.picture n ≡ t → LookRight n (answer_of coding r (finished header d)) (next (finished header d)) rest (pick t Finished Gone)
          go true e = let same = sym (eqb-true header.picture n e) in rw (eq-eqb n header.picture same)
          go false e =
              let other : n ≡ header.picture → ⊥ = λ q. eqb-false header.picture n e (sym q) in
              ap (λ (t : Bool). either t (one_of (kept_numbers rest) n)) (ne_eqb n header.picture other) ∙ never (beyond l)

  -- ---- over all blocks to come
  module _ (w : World) (block : List ℕ) where
    abbrev event : Event D
    event = decide coding w.receiver block w.lent

    abbrev known : EventKnown coding w.receiver block w.lent event
    known = event_known coding w.receiver block w.lent

  pub past_never : {n : ℕ} (w : World) → Past n w.receiver.progress → (blocks : List (List ℕ)) → one_of (kept_numbers (answers coding w blocks)) n ≡ false
  unfolding answers kept_numbers step came_to world_after
  past_never w h [] = refl
  past_never w h (block ∷ blocks) =
      past_none w.receiver block w.lent (event w block) (known w block) h (answers coding (world_after coding w block) blocks)
      ∙ past_never (world_after coding w block) (past_next w.receiver block w.lent (event w block) (known w block) h) blocks

  -- what the second receiver sees is right
  pub looked_right : {n : ℕ} (w : World) (block : List ℕ) (blocks : List (List ℕ)) → Collects n w.receiver.progress
      → (let x = step coding w.receiver block w.lent in
      LookRight n x.gave.answer x.gave.next.progress (answers coding (world_after coding w block) blocks) (looked_at n x.gave.answer x.gave.next.progress))
  unfolding step came_to world_after
  looked_right w block blocks k =
      looks_right w.receiver block w.lent k (answers coding (world_after coding w block) blocks) (event w block) (known w block)
      (λ h. past_never (world_after coding w block) h blocks)

  -- ---- what an answer says of the wanted place
  abbrev pub AnswerKnown : Progress → Said → Progress → Type 0
  AnswerKnown p (A.picture n tick) q = (p.wanted.picture ≤ n) × (n < pictures) × (q.wanted.picture ≡ n + 1)
  AnswerKnown p (A.taken n part) q = (p.wanted.picture ≤ n) × (n < pictures) × Collects n q
  AnswerKnown p (A.old n part) q = p.wanted.picture ≤ q.wanted.picture
  AnswerKnown p A.lost q = p.wanted.picture ≤ q.wanted.picture
  AnswerKnown p (A.refused numbers) q = p.wanted.picture ≤ q.wanted.picture

  took_stands : {p : Progress} {header : Header} {standing : Standing} → TookBy p header standing → is_lost standing ≡ false
  took_stands (by_next e l s) = ap is_lost s ∙ l
  took_stands (by_anew z r e s) = ap is_lost s

  event-answers : (r : Receiver) (block : List ℕ) (b : Buffers) (e : Event D) → EventKnown coding r block b e → AnswerKnown r.progress (answer_of coding r e) (advance coding r e).progress
  event-answers r block b (refusing numbers) k = omega arith
  event-answers r block b (old header) k = omega arith
  event-answers r block b (taken header standing) k =
      (took_after k.by, (judged_means coding r block b header k.judged).sound.picture_is, record { wants = refl; begun = omega arith; stands = took_stands k.by })
  event-answers r block b lost k = omega arith
  event-answers r block b (failed header numbers) k = let after = took_after k.1.by in omega arith
  event-answers r block b (finished header d) k = (took_after k.took.by, (judged_means coding r block b header k.took.judged).sound.picture_is, refl)

  pub answer_known : (w : World) (block : List ℕ)
      → (let x = step coding w.receiver block w.lent in AnswerKnown w.receiver.progress x.gave.answer x.gave.next.progress)
  unfolding step came_to
  answer_known w block = event-answers w.receiver block w.lent (event w block) (known w block)
