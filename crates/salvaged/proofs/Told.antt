-- What a log and a new clip together tell: by going along the answers. Assumes nothing.
use mathlib.Core.Path.{◌≡◌, refl, sym, ap, subst, ◌∙◌}
use mathlib.Core.Bool.{Bool, true, false}
use mathlib.Core.List.{List, [], ◌∷◌, ◌++◌}
use Prim.Native.Nat.{ℕ, zero, suc, ◌+◌, ◌-◌, ◌*◌, ◌≤◌, ◌<◌}
use native.Mathlib.Nat.{add-zero, zero-add, suc-add, sub-zero}
use native.Mathlib.Omega.{arith}
use borrow.Author.Tests.{eq-eqb, ne_eqb, ltb-true, ltb-false}
use lib.Dec.{eqb, ltb}
use lib.ListN.{length, length-append}
use Rattle.laws.specs.Choice.{pick, both, one_of}
use Rattle.laws.proofs.Choice.{both_true}
use Rattle.vault.specs.Block.{pictures}
use Rattle.vault.specs.Renewed.{renewed_block}
use Rattle.ticks.specs.declared.Tick.{Tick}
use Rattle.ticks.specs.Tick.{is_exact}
use Rattle.standing.specs.Answered.{Said}
use Rattle.standing.specs.Answered as A
use Rattle.salvaging.specs.Kept.{kept_numbers, number_after, finished_later}
use Rattle.salvaging.specs.Log.{LogEntry, kept, skipped, dropped, entries_for, log_from}
use Rattle.salvaging.specs.Clip.{clip_from, fresh_world, answers_to}
use Rattle.salvaging.specs.Salvage.{Salvage, salvage_by}
use Rattle.salvaging.specs.Step.{tally_after}
use Rattle.salvaging.specs.declared.Tally.{Tally}
use Rattle.salvaging.proofs.Kept.{entries_few}
use Rattle.salvaged.specs.Told.{numbers_from, dropped_in, Accounted, all_told, is_written, is_dropped, WrittenOrDropped, old_numbers, new_numbers, old_named, NumbersCovered, NumbersFall, LimitsKept, exact_ticks, no_run_before, RunsLead, RunsRestart, LogTellsAll}
use Rattle.salvaged.proofs.Walk.{clip_at, log_at, clip_whole, log_whole, no_tally, Rises, fresh_rises, answers-length}

-- ---- the entries of a block, by what they tell
module _ (at new next : ℕ) (n : ℕ) (rest : List LogEntry) where
  abbrev entered : Bool → List LogEntry
  entered run = (pick run (skipped at next (n - 1) ∷ []) [] ++ (kept at n new ∷ [])) ++ rest

  none_dropped : (run : Bool) → dropped_in (entered run) ≡ dropped_in rest
  unfolding dropped_in
  none_dropped true = refl
  none_dropped false = refl

  one_old : (run : Bool) → old_numbers (entered run) ≡ n ∷ old_numbers rest
  unfolding old_numbers
  one_old true = refl
  one_old false = refl

  one_new : (run : Bool) → new_numbers (entered run) ≡ new ∷ new_numbers rest
  unfolding new_numbers
  one_new true = refl
  one_new false = refl

  one_fallen : (run : Bool) → new ≤ n → n < pictures → NumbersFall rest → NumbersFall (entered run)
  one_fallen true l m h = (l, m, h)
  one_fallen false l m h = (l, m, h)

  one_lead : (run : Bool) → ltb next n ≡ run → RunsLead rest → RunsLead (entered run)
  one_lead true e h = let l = ltb-true next n e in ((omega arith, refl, omega arith), h)
  one_lead false e h = h

-- ---- each block
module _ (clip : ℕ) where
  accounted : (at : ℕ) (t : Tally) (blocks : List (List ℕ)) (answered : List Said) → length answered ≡ length blocks
      → Accounted clip at blocks answered (clip_at clip t answered blocks) (dropped_in (log_at at t answered))
  unfolding dropped_in
  accounted at t [] [] l = all_told
  accounted at t [] (answer ∷ answered) l = absurd (omega (arith, l))
  accounted at t (block ∷ blocks) [] l = absurd (omega (arith, l))
  accounted at t (block ∷ blocks) (A.picture n tick ∷ answered) l =
      let rest = accounted (at + 1) (tally_after t (A.picture n tick)) blocks answered (omega (arith, l)) in
      subst (Accounted clip at (block ∷ blocks) (A.picture n tick ∷ answered) (renewed_block clip t.pictures block ∷ clip_at clip (tally_after t (A.picture n tick)) answered blocks))
      (sym (none_dropped at t.pictures t.next n (log_at (at + 1) (tally_after t (A.picture n tick)) answered) (ltb t.next n))) (is_written t.pictures rest)
  accounted at t (block ∷ blocks) (A.taken n part ∷ answered) l = go (one_of (kept_numbers answered) n) (accounted (at + 1) t blocks answered (omega (arith, l)))
    where
      go : (later : Bool) → Accounted clip (at + 1) blocks answered (clip_at clip t answered blocks) (dropped_in (log_at (at + 1) t answered))
          → Accounted clip at (block ∷ blocks) (A.taken n part ∷ answered) (pick later (renewed_block clip t.pictures block ∷ []) [] ++ clip_at clip t answered blocks)
          (dropped_in (pick later [] (dropped at (A.taken n part) ∷ []) ++ log_at (at + 1) t answered))
      go true rest = is_written t.pictures rest
      go false rest = is_dropped rest
  accounted at t (block ∷ blocks) (A.old n part ∷ answered) l = is_dropped (accounted (at + 1) t blocks answered (omega (arith, l)))
  accounted at t (block ∷ blocks) (A.lost ∷ answered) l = is_dropped (accounted (at + 1) t blocks answered (omega (arith, l)))
  accounted at t (block ∷ blocks) (A.refused numbers ∷ answered) l = is_dropped (accounted (at + 1) t blocks answered (omega (arith, l)))

  counted : {at : ℕ} {blocks made : List (List ℕ)} {answered : List Said} {entries : List LogEntry} → Accounted clip at blocks answered made entries → length made + length entries ≡ length blocks
  counted all_told = refl
  counted (is_written picture a) = let more = counted a in omega arith
  counted (is_dropped a) = let more = counted a in omega arith

-- ---- numbers one after another
numbers_join : (a b from : ℕ) → numbers_from a from ++ numbers_from b (from + a) ≡ numbers_from (a + b) from
unfolding numbers_from
numbers_join zero b from = (λ i. numbers_from b (add-zero from i)) ∙ (λ i. numbers_from (sym (zero-add b) i) from)
numbers_join (suc a) b from =
    ap (λ (l : List ℕ). from ∷ l) ((λ i. numbers_from a (from + 1) ++ numbers_from b (moved i)) ∙ numbers_join a b (from + 1))
    ∙ (λ i. numbers_from (sym (suc-add a b) i) from)
  where
    moved : from + suc a ≡ from + 1 + a
    moved = omega arith

-- a run and the picture after it
run_covers : (at new next n a : ℕ) (rest : List LogEntry) → next ≤ n → n + 1 ≤ a → old_named rest ≡ numbers_from (a - (n + 1)) (n + 1) → (run : Bool) → ltb next n ≡ run
    → old_named (entered at new next n rest run) ≡ numbers_from (a - next) next
unfolding old_named numbers_from
run_covers at new next n a rest l m h true e =
    let less = ltb-true next n e in
    let many : n - 1 + 1 - next ≡ n - next = omega arith in
    let there : n ≡ next + (n - next) = omega arith in
    let all : n - next + suc (a - (n + 1)) ≡ a - next = omega arith in
    (λ i. numbers_from (many i) next ++ (n ∷ h i))
    ∙ (λ i. numbers_from (n - next) next ++ numbers_from (suc (a - (n + 1))) (there i))
    ∙ numbers_join (n - next) (suc (a - (n + 1))) next
    ∙ (λ i. numbers_from (all i) next)
run_covers at new next n a rest l m h false e =
    let least = ltb-false next n e in
    let same : n ≡ next = omega arith in
    let all : suc (a - (n + 1)) ≡ a - next = omega arith in
    (λ i. same i ∷ h i) ∙ (λ i. next ∷ numbers_from (a - (n + 1)) (same i + 1)) ∙ (λ i. numbers_from (all i) next)

-- a block that is taken has no entry, or one that these don't count
taken_told {ℓ} : {A : Type ℓ} (f : List LogEntry → A) (entry : LogEntry) (rest : List LogEntry) → f (entry ∷ rest) ≡ f rest → (later : Bool) → f (pick later [] (entry ∷ []) ++ rest) ≡ f rest
taken_told f entry rest e true = refl
taken_told f entry rest e false = e

-- ---- the log, entry by entry
old_are : (at : ℕ) (t : Tally) (answered : List Said) → old_numbers (log_at at t answered) ≡ kept_numbers answered
unfolding old_numbers kept_numbers
old_are at t [] = refl
old_are at t (A.picture n tick ∷ rest) =
    one_old at t.pictures t.next n (log_at (at + 1) (tally_after t (A.picture n tick)) rest) (ltb t.next n) ∙ ap (λ (l : List ℕ). n ∷ l) (old_are (at + 1) (tally_after t (A.picture n tick)) rest)
old_are at t (A.taken n part ∷ rest) = taken_told old_numbers (dropped at (A.taken n part)) (log_at (at + 1) t rest) refl (one_of (kept_numbers rest) n) ∙ old_are (at + 1) t rest
old_are at t (A.old n part ∷ rest) = old_are (at + 1) t rest
old_are at t (A.lost ∷ rest) = old_are (at + 1) t rest
old_are at t (A.refused numbers ∷ rest) = old_are (at + 1) t rest

new_are : (at : ℕ) (t : Tally) (answered : List Said) → new_numbers (log_at at t answered) ≡ numbers_from (length (kept_numbers answered)) t.pictures
unfolding new_numbers kept_numbers numbers_from
new_are at t [] = refl
new_are at t (A.picture n tick ∷ rest) =
    one_new at t.pictures t.next n (log_at (at + 1) (tally_after t (A.picture n tick)) rest) (ltb t.next n)
    ∙ ap (λ (l : List ℕ). t.pictures ∷ l) (new_are (at + 1) (tally_after t (A.picture n tick)) rest)
new_are at t (A.taken n part ∷ rest) = taken_told new_numbers (dropped at (A.taken n part)) (log_at (at + 1) t rest) refl (one_of (kept_numbers rest) n) ∙ new_are (at + 1) t rest
new_are at t (A.old n part ∷ rest) = new_are (at + 1) t rest
new_are at t (A.lost ∷ rest) = new_are (at + 1) t rest
new_are at t (A.refused numbers ∷ rest) = new_are (at + 1) t rest

-- numbers rise to the last kept one
rises_to : (exact : Bool) (next : ℕ) (answered : List Said) → Rises exact next answered → next ≤ number_after next (kept_numbers answered)
unfolding kept_numbers number_after
rises_to exact next [] r = omega arith
rises_to exact next (A.picture n tick ∷ rest) r = let more = rises_to (is_exact tick) (n + 1) rest r.3 in omega (arith, more, r.0)
rises_to exact next (A.taken n part ∷ rest) r = rises_to exact next rest r
rises_to exact next (A.old n part ∷ rest) r = rises_to exact next rest r
rises_to exact next (A.lost ∷ rest) r = rises_to exact next rest r
rises_to exact next (A.refused numbers ∷ rest) r = rises_to exact next rest r

all_covered : (at : ℕ) (t : Tally) (exact : Bool) (answered : List Said) → Rises exact t.next answered
    → old_named (log_at at t answered) ≡ numbers_from (number_after t.next (kept_numbers answered) - t.next) t.next
unfolding old_named kept_numbers number_after numbers_from
all_covered at t exact [] r = let none : 0 ≡ t.next - t.next = omega arith in λ i. numbers_from (none i) t.next
all_covered at t exact (A.picture n tick ∷ rest) r =
    run_covers at t.pictures t.next n (number_after (n + 1) (kept_numbers rest)) (log_at (at + 1) (tally_after t (A.picture n tick)) rest) r.0 (rises_to (is_exact tick) (n + 1) rest r.3)
    (all_covered (at + 1) (tally_after t (A.picture n tick)) (is_exact tick) rest r.3) (ltb t.next n) refl
all_covered at t exact (A.taken n part ∷ rest) r =
    taken_told old_named (dropped at (A.taken n part)) (log_at (at + 1) t rest) refl (one_of (kept_numbers rest) n) ∙ all_covered (at + 1) t exact rest r
all_covered at t exact (A.old n part ∷ rest) r = all_covered (at + 1) t exact rest r
all_covered at t exact (A.lost ∷ rest) r = all_covered (at + 1) t exact rest r
all_covered at t exact (A.refused numbers ∷ rest) r = all_covered (at + 1) t exact rest r

all_fall : (at : ℕ) (t : Tally) (exact : Bool) (answered : List Said) → Rises exact t.next answered → t.pictures ≤ t.next → NumbersFall (log_at at t answered)
all_fall at t exact [] r l = tt
all_fall at t exact (A.picture n tick ∷ rest) r l =
    one_fallen at t.pictures t.next n (log_at (at + 1) (tally_after t (A.picture n tick)) rest) (ltb t.next n) (omega (arith, l, r.0)) r.1
    (all_fall (at + 1) (tally_after t (A.picture n tick)) (is_exact tick) rest r.3 (omega (arith, l, r.0)))
all_fall at t exact (A.taken n part ∷ rest) r l =
    subst (λ (X : Type 0). X) (sym (taken_told NumbersFall (dropped at (A.taken n part)) (log_at (at + 1) t rest) refl (one_of (kept_numbers rest) n))) (all_fall (at + 1) t exact rest r l)
all_fall at t exact (A.old n part ∷ rest) r l = all_fall (at + 1) t exact rest r l
all_fall at t exact (A.lost ∷ rest) r l = all_fall (at + 1) t exact rest r l
all_fall at t exact (A.refused numbers ∷ rest) r l = all_fall (at + 1) t exact rest r l

all_lead : (at : ℕ) (t : Tally) (answered : List Said) → RunsLead (log_at at t answered)
all_lead at t [] = tt
all_lead at t (A.picture n tick ∷ rest) =
    one_lead at t.pictures t.next n (log_at (at + 1) (tally_after t (A.picture n tick)) rest) (ltb t.next n) refl (all_lead (at + 1) (tally_after t (A.picture n tick)) rest)
all_lead at t (A.taken n part ∷ rest) =
    subst (λ (X : Type 0). X) (sym (taken_told RunsLead (dropped at (A.taken n part)) (log_at (at + 1) t rest) refl (one_of (kept_numbers rest) n))) (all_lead (at + 1) t rest)
all_lead at t (A.old n part ∷ rest) = all_lead (at + 1) t rest
all_lead at t (A.lost ∷ rest) = all_lead (at + 1) t rest
all_lead at t (A.refused numbers ∷ rest) = all_lead (at + 1) t rest

few_entered : (at : ℕ) (t : Tally) (answered : List Said) → length (log_at at t answered) ≤ 2 * length answered
few_entered at t [] = omega arith
few_entered at t (answer ∷ rest) =
    let one = entries_few at t.pictures t.next answer (finished_later answer rest) in
    let more = few_entered (at + 1) (tally_after t answer) rest in
    omega (arith, one, more, length-append (entries_for at t.pictures t.next answer (finished_later answer rest)) (log_at (at + 1) (tally_after t answer) rest))

-- ticks are exact until the first run
no_run : (exact : Bool) (at new next n : ℕ) (tick : Tick) (rest : List LogEntry) → next ≤ n → is_exact tick ≡ both exact (eqb n next) → (run : Bool) → ltb next n ≡ run
    → is_exact tick ∷ no_run_before (is_exact tick) rest ≡ no_run_before exact (entered at new next n rest run)
unfolding no_run_before
no_run exact at new next n tick rest l h true e =
    let less = ltb-true next n e in
    let other : n ≡ next → ⊥ = λ s. omega (arith, s, less) in
    ap (λ (b : Bool). b ∷ no_run_before b rest) (h ∙ ap (both exact) (ne_eqb n next other) ∙ never exact)
  where
    never : (b : Bool) → both b false ≡ false
    never true = refl
    never false = refl
no_run exact at new next n tick rest l h false e =
    let least = ltb-false next n e in
    let same : n ≡ next = omega arith in
    ap (λ (b : Bool). b ∷ no_run_before b rest) (h ∙ ap (both exact) (eq-eqb n next same) ∙ both_true exact)

all_turn : (at : ℕ) (t : Tally) (exact : Bool) (answered : List Said) → Rises exact t.next answered → exact_ticks answered ≡ no_run_before exact (log_at at t answered)
unfolding exact_ticks no_run_before
all_turn at t exact [] r = refl
all_turn at t exact (A.picture n tick ∷ rest) r =
    ap (λ (l : List Bool). is_exact tick ∷ l) (all_turn (at + 1) (tally_after t (A.picture n tick)) (is_exact tick) rest r.3)
    ∙ no_run exact at t.pictures t.next n tick (log_at (at + 1) (tally_after t (A.picture n tick)) rest) r.0 r.2 (ltb t.next n) refl
all_turn at t exact (A.taken n part ∷ rest) r =
    all_turn (at + 1) t exact rest r ∙ sym (taken_told (no_run_before exact) (dropped at (A.taken n part)) (log_at (at + 1) t rest) refl (one_of (kept_numbers rest) n))
all_turn at t exact (A.old n part ∷ rest) r = all_turn (at + 1) t exact rest r
all_turn at t exact (A.lost ∷ rest) r = all_turn (at + 1) t exact rest r
all_turn at t exact (A.refused numbers ∷ rest) r = all_turn (at + 1) t exact rest r

-- ---- of the salvage of blocks that were answered so
module _ (new : ℕ) (blocks : List (List ℕ)) (answered : List Said) (long : length answered ≡ length blocks) (rising : Rises true 0 answered) where
  abbrev salvage : Salvage
  salvage = salvage_by new blocks answered

  told_accounted : WrittenOrDropped new blocks answered salvage
  told_accounted = let all : Accounted new 0 blocks answered (clip_from new [] answered blocks) (dropped_in (log_from [] answered)) =
      subst (λ (made : List (List ℕ)). Accounted new 0 blocks answered made (dropped_in (log_from [] answered))) (sym (clip_whole new answered blocks))
      (subst (λ (entries : List LogEntry). Accounted new 0 blocks answered (clip_at new no_tally answered blocks) (dropped_in entries)) (sym (log_whole answered)) (accounted new 0 no_tally blocks answered long)) in
      record { each = all; count = counted new all }

  told_covered : NumbersCovered answered salvage
  told_covered = record {
    kept_are = ap old_numbers (log_whole answered) ∙ old_are 0 no_tally answered;
    covered =
        ap old_named (log_whole answered)
        ∙ all_covered 0 no_tally true answered rising
        ∙ (λ i. numbers_from (sub-zero (number_after 0 (kept_numbers answered)) i) 0)
        ∙ sym (ap (λ (l : List ℕ). numbers_from (number_after 0 l) 0) (ap old_numbers (log_whole answered) ∙ old_are 0 no_tally answered));
    renumbered = ap new_numbers (log_whole answered) ∙ new_are 0 no_tally answered;
  }

  told_limits : LimitsKept blocks salvage
  told_limits = record {
    few_blocks = let c = told_accounted.count in omega (arith, c);
    few_entries = let few = few_entered 0 no_tally answered in subst (λ (entries : List LogEntry). length entries ≤ 2 * length blocks) (sym (log_whole answered)) (omega (arith, few, long));
    numbers = subst NumbersFall (sym (log_whole answered)) (all_fall 0 no_tally true answered rising (omega arith));
  }

  told_runs : RunsRestart answered salvage
  told_runs = record { lead = subst RunsLead (sym (log_whole answered)) (all_lead 0 no_tally answered); turn = all_turn 0 no_tally true answered rising ∙ ap (no_run_before true) (sym (log_whole answered)) }

-- THE THEOREM
pub log_tells_all : LogTellsAll
log_tells_all D coding kind old new blocks =
    let answered : List Said = answers_to coding old kind blocks in
    let long : length answered ≡ length blocks = answers-length coding (fresh_world old kind) blocks in
    let rising : Rises true 0 answered = fresh_rises coding old kind blocks in
    record {
      blocks_are = told_accounted new blocks answered long rising;
      numbers_are = told_covered new blocks answered long rising;
      limits = told_limits new blocks answered long rising;
      runs = told_runs new blocks answered long rising;
    }
