-- Laws of what is kept: one answer more. Assumes nothing.
use mathlib.Core.Path.{◌≡◌, refl, sym, ap, ◌∙◌}
use mathlib.Core.Bool.{Bool, true, false, true≢false, false≢true}
use mathlib.Core.List.{List, [], ◌∷◌, ◌++◌, append-nil}
use Prim.Native.Nat.{ℕ, ◌+◌, ◌-◌, ◌≤◌}
use native.Mathlib.Omega.{arith}
use borrow.Author.Tests.{eqb-true, ne_eqb}
use lib.Dec.{ltb}
use lib.ListN.{length, length-append}
use Rattle.laws.specs.Choice.{pick, one_of}
use Rattle.standing.specs.Answered.{Said}
use Rattle.standing.specs.Answered as A
use Rattle.salvaging.specs.Kept.{kept_numbers, new_number, number_after, next_number, finished_later, goes_on}
use Rattle.salvaging.specs.Log.{entries_for}
use Rattle.salvaging.specs.Log as L
use Rattle.salvaging.specs.Step.{tally_after, is_known, is_kept, asked_by, FateRight}
use Rattle.salvaging.specs.Going.{finishes_one, any_kept, found_fate, fate_after}
use Rattle.salvaging.specs.declared.Tally.{Tally}
use Rattle.std.specs.Prelude.{Option, Some, None}
use Rattle.salvaging.specs.declared.Fate.{Fate}

-- ---- whether any is
pub any_found : (answer : Said) (rest : List Said) → finishes_one answer ≡ true → any_kept (answer ∷ rest) ≡ true
unfolding kept_numbers
any_found (A.picture n tick) rest e = let some : length (n ∷ kept_numbers rest) ≡ 0 → ⊥ = λ z. omega (arith, z) in rw (ne_eqb (length (n ∷ kept_numbers rest)) 0 some)
any_found (A.taken n part) rest e = absurd (false≢true e)
any_found (A.old n part) rest e = absurd (false≢true e)
any_found A.lost rest e = absurd (false≢true e)
any_found (A.refused numbers) rest e = absurd (false≢true e)

pub any_later : (answer : Said) (rest : List Said) → finishes_one answer ≡ false → any_kept (answer ∷ rest) ≡ any_kept rest
unfolding kept_numbers
any_later (A.picture n tick) rest e = absurd (true≢false e)
any_later (A.taken n part) rest e = refl
any_later (A.old n part) rest e = refl
any_later A.lost rest e = refl
any_later (A.refused numbers) rest e = refl

-- ---- one more
pub kept_append : (a b : List Said) → kept_numbers (a ++ b) ≡ kept_numbers a ++ kept_numbers b
unfolding kept_numbers
kept_append [] b = refl
kept_append (A.picture n tick ∷ a) b = ap (λ (l : List ℕ). n ∷ l) (kept_append a b)
kept_append (A.taken n part ∷ a) b = kept_append a b
kept_append (A.old n part ∷ a) b = kept_append a b
kept_append (A.lost ∷ a) b = kept_append a b
kept_append (A.refused numbers ∷ a) b = kept_append a b

pub kept_few : (answered : List Said) → length (kept_numbers answered) ≤ length answered
unfolding kept_numbers
kept_few [] = omega arith
kept_few (A.picture n tick ∷ rest) = let few = kept_few rest in omega arith
kept_few (A.taken n part ∷ rest) = let few = kept_few rest in omega arith
kept_few (A.old n part ∷ rest) = let few = kept_few rest in omega arith
kept_few (A.lost ∷ rest) = let few = kept_few rest in omega arith
kept_few (A.refused numbers ∷ rest) = let few = kept_few rest in omega arith

pub number_last : (from : ℕ) (ns : List ℕ) (n : ℕ) → number_after from (ns ++ (n ∷ [])) ≡ n + 1
unfolding number_after
number_last from [] n = refl
number_last from (m ∷ ns) n = number_last (m + 1) ns n

abbrev pub tally_of : List Said → Tally
tally_of before = record { pictures = new_number before; next = next_number before }

-- an answer that finishes none
none_more : (before : List Said) (answer : Said) → kept_numbers (answer ∷ []) ≡ [] → tally_of before ≡ tally_of (before ++ (answer ∷ []))
none_more before answer e =
    let same : kept_numbers (before ++ (answer ∷ [])) ≡ kept_numbers before = kept_append before (answer ∷ []) ∙ ap (λ (l : List ℕ). kept_numbers before ++ l) e ∙ append-nil (kept_numbers before) in
    λ i. record { pictures = length (sym same i); next = number_after 0 (sym same i) }

pub tally_more : (before : List Said) (answer : Said) → tally_after (tally_of before) answer ≡ tally_of (before ++ (answer ∷ []))
unfolding kept_numbers
tally_more before (A.picture n tick) =
    let more : kept_numbers (before ++ (A.picture n tick ∷ [])) ≡ kept_numbers before ++ (n ∷ []) = kept_append before (A.picture n tick ∷ []) in
    λ i. record {
      pictures = (sym (ap length more ∙ length-append (kept_numbers before) (n ∷ []))) i;
      next = (sym (ap (number_after 0) more ∙ number_last 0 (kept_numbers before) n)) i;
    }
tally_more before (A.taken n part) = none_more before (A.taken n part) refl
tally_more before (A.old n part) = none_more before (A.old n part) refl
tally_more before A.lost = none_more before A.lost refl
tally_more before (A.refused numbers) = none_more before (A.refused numbers) refl

-- ---- a picture's fate
-- only a block that is taken asks
pub asked_taken : (fate : Option Fate) (answer : Said) (n : ℕ) → asked_by fate answer ≡ Some n → (q : ℕ) × (answer ≡ A.taken n q)
asked_taken fate (A.taken m part) n e = go (is_known fate m) e
  where
    go : (b : Bool) → pick b None (Some m) ≡ Some n → (q : ℕ) × (A.taken m part ≡ A.taken n q)
    go true e = absurd (let z : ◌≡◌ {A = ℕ} 0 1 = cc in omega arith)
    go false e = let same : m ≡ n = cc in (part, ap (λ (k : ℕ). A.taken k part) same)
asked_taken fate (A.picture m tick) n e = absurd (let z : ◌≡◌ {A = ℕ} 0 1 = cc in omega arith)
asked_taken fate (A.old m part) n e = absurd (let z : ◌≡◌ {A = ℕ} 0 1 = cc in omega arith)
asked_taken fate A.lost n e = absurd (let z : ◌≡◌ {A = ℕ} 0 1 = cc in omega arith)
asked_taken fate (A.refused numbers) n e = absurd (let z : ◌≡◌ {A = ℕ} 0 1 = cc in omega arith)

-- what is known of a picture stays right where it isn't the one that is finished
still_right : (fate : Option Fate) (answer : Said) (rest : List Said) → kept_numbers (answer ∷ rest) ≡ kept_numbers rest → FateRight fate (answer ∷ rest) → FateRight fate rest
still_right None answer rest e h = tt
still_right (Some known) answer rest e h = sym (ap (λ (l : List ℕ). one_of l known.picture) e) ∙ h

taken_right : (fate : Option Fate) (n part : ℕ) (rest : List Said) → FateRight fate rest → (known : Bool) → is_known fate n ≡ known
    → (let after = found_fate (pick known None (Some n)) fate (A.taken n part) rest in FateRight after rest × (is_kept after ≡ one_of (kept_numbers rest) n))
taken_right fate n part rest h false e = (refl, refl)
taken_right None n part rest h true e = absurd (false≢true e)
taken_right (Some known) n part rest h true e = (h, sym h ∙ ap (one_of (kept_numbers rest)) (eqb-true known.picture n e))

pub fate_next : (fate : Option Fate) (answer : Said) (rest : List Said) → FateRight fate (answer ∷ rest) → FateRight (fate_after fate answer rest) rest
unfolding kept_numbers
fate_next fate (A.picture n tick) rest h = tt
fate_next fate (A.taken n part) rest h = (taken_right fate n part rest (still_right fate (A.taken n part) rest refl h) (is_known fate n) refl).0
fate_next fate (A.old n part) rest h = still_right fate (A.old n part) rest refl h
fate_next fate A.lost rest h = still_right fate A.lost rest refl h
fate_next fate (A.refused numbers) rest h = still_right fate (A.refused numbers) rest refl h

module _ (fate : Option Fate) (rest : List Said) where
  -- what the code knows of a block is what the answers to come say
  pub goes_so : (answer : Said) → FateRight fate (answer ∷ rest) → goes_on answer (is_kept (fate_after fate answer rest)) ≡ goes_on answer (finished_later answer rest)
  unfolding kept_numbers
  goes_so (A.picture n tick) h = refl
  goes_so (A.taken n part) h = (taken_right fate n part rest (still_right fate (A.taken n part) rest refl h) (is_known fate n) refl).1
  goes_so (A.old n part) h = refl
  goes_so A.lost h = refl
  goes_so (A.refused numbers) h = refl

  pub entries_so : (block new next : ℕ) (answer : Said) → FateRight fate (answer ∷ rest)
      → entries_for block new next answer (is_kept (fate_after fate answer rest)) ≡ entries_for block new next answer (finished_later answer rest)
  unfolding kept_numbers
  entries_so block new next (A.picture n tick) h = refl
  entries_so block new next (A.taken n part) h =
      ap (entries_for block new next (A.taken n part)) (taken_right fate n part rest (still_right fate (A.taken n part) rest refl h) (is_known fate n) refl).1
  entries_so block new next (A.old n part) h = refl
  entries_so block new next A.lost h = refl
  entries_so block new next (A.refused numbers) h = refl

-- two entries a block are enough
pub entries_few : (block new next : ℕ) (answer : Said) (later : Bool) → length (entries_for block new next answer later) ≤ 2
entries_few block new next (A.picture n tick) later = run_few (ltb next n)
  where
    run_few : (b : Bool) → length (pick b (L.skipped block next (n - 1) ∷ []) [] ++ (L.kept block n new ∷ [])) ≤ 2
    run_few true = omega arith
    run_few false = omega arith
entries_few block new next (A.taken n part) true = omega arith
entries_few block new next (A.taken n part) false = omega arith
entries_few block new next (A.old n part) later = omega arith
entries_few block new next A.lost later = omega arith
entries_few block new next (A.refused numbers) later = omega arith
