-- A list of answers gone along with the number of the block and the pictures so far: the new clip and the log are made by the way. What is known of a fresh receiver's answers. Assumes nothing.
use mathlib.Core.Path.{◌≡◌, refl, sym, ap, ◌∙◌}
use mathlib.Core.Bool.{Bool, true}
use mathlib.Core.List.{List, [], ◌∷◌, ◌++◌}
use Prim.Native.Nat.{ℕ, suc, ◌+◌, ◌≤◌, ◌<◌}
use native.Mathlib.Omega.{arith}
use lib.Dec.{eqb}
use lib.ListN.{length, length-append}
use Rattle.laws.specs.Choice.{pick, both}
use Rattle.coding.specs.declared.Kind.{Kind}
use Rattle.coding.specs.Coding.{Coding}
use Rattle.vault.specs.Block.{pictures}
use Rattle.vault.specs.Renewed.{renewed_block}
use Rattle.ticks.specs.declared.Tick.{Tick}
use Rattle.ticks.specs.Tick.{is_exact}
use Rattle.ticks.proofs.TickLaws.{as_exact, later_exact}
use Rattle.standing.specs.declared.Holder.{Holder}
use Rattle.standing.specs.declared.Holder.TheVariants.{Neither, First, Second}
use Rattle.standing.specs.declared.Receiver.{Receiver}
use Rattle.standing.specs.Stores.{goes_into}
use Rattle.standing.specs.Answered.{Said}
use Rattle.standing.specs.Answered as A
use Rattle.standing.specs.Receive.{Event, refusing, old, taken, lost, failed, finished, Buffers, decide, tick_in, finished_tick, advance, answer_of, collection_after, stored_by, came_to, step}
use Rattle.standing.specs.Run.{World, world_after, answers}
use Rattle.salvaging.specs.Kept.{kept_numbers, number_after, finished_later, goes_on}
use Rattle.salvaging.specs.Log.{LogEntry, entries_for, log_from}
use Rattle.salvaging.specs.Clip.{clip_from, fresh_world, answers_to}
use Rattle.salvaging.specs.Step.{tally_after}
use Rattle.salvaging.specs.declared.Tally.{Tally}
use Rattle.salvaging.proofs.Kept.{tally_of, tally_more}
use Rattle.salvaging.proofs.Rising.{EventKnown, event_known, judged_means, took_after}

-- ---- the clip and the log, by the way
abbrev pub clip_at : ℕ → Tally → List Said → List (List ℕ) → List (List ℕ)
clip_at clip t [] blocks = []
clip_at clip t (answer ∷ after) [] = []
clip_at clip t (answer ∷ after) (block ∷ blocks) = pick (goes_on answer (finished_later answer after)) (renewed_block clip t.pictures block ∷ []) [] ++ clip_at clip (tally_after t answer) after blocks

abbrev pub log_at : ℕ → Tally → List Said → List LogEntry
log_at at t [] = []
log_at at t (answer ∷ after) = entries_for at t.pictures t.next answer (finished_later answer after) ++ log_at (at + 1) (tally_after t answer) after

clip_walk : (clip : ℕ) (before after : List Said) (blocks : List (List ℕ)) → clip_from clip before after blocks ≡ clip_at clip (tally_of before) after blocks
unfolding clip_from
clip_walk clip before [] blocks = refl
clip_walk clip before (answer ∷ after) [] = refl
clip_walk clip before (answer ∷ after) (block ∷ blocks) =
    ap (λ (l : List (List ℕ)). pick (goes_on answer (finished_later answer after)) (renewed_block clip (length (kept_numbers before)) block ∷ []) [] ++ l)
    (clip_walk clip (before ++ (answer ∷ [])) after blocks ∙ ap (λ (t : Tally). clip_at clip t after blocks) (sym (tally_more before answer)))

log_walk : (before after : List Said) → log_from before after ≡ log_at (length before) (tally_of before) after
unfolding log_from
log_walk before [] = refl
log_walk before (answer ∷ after) =
    ap (λ (l : List LogEntry). entries_for (length before) (tally_of before).pictures (tally_of before).next answer (finished_later answer after) ++ l)
    (log_walk (before ++ (answer ∷ [])) after ∙ (λ i. log_at (length-append before (answer ∷ []) i) (sym (tally_more before answer) i) after))

-- before all of them
abbrev pub no_tally : Tally
no_tally = record { pictures = 0; next = 0 }

-- all of them
pub clip_whole : (clip : ℕ) (answered : List Said) (blocks : List (List ℕ)) → clip_from clip [] answered blocks ≡ clip_at clip no_tally answered blocks
unfolding kept_numbers number_after
clip_whole clip answered blocks = clip_walk clip [] answered blocks

pub log_whole : (answered : List Said) → log_from [] answered ≡ log_at 0 no_tally answered
unfolding kept_numbers number_after
log_whole answered = log_walk [] answered

-- ---- what is known of answers: no number before this one is finished any more, and ticks are exact as long as they have been and no number is skipped
abbrev pub Rises : Bool → ℕ → List Said → Type 0
Rises exact next [] = Unit {0}
Rises exact next (A.picture n tick ∷ rest) = (next ≤ n) × (n < pictures) × (is_exact tick ≡ both exact (eqb n next)) × Rises (is_exact tick) (n + 1) rest
Rises exact next (A.old n part ∷ rest) = Rises exact next rest
Rises exact next (A.taken n part ∷ rest) = Rises exact next rest
Rises exact next (A.lost ∷ rest) = Rises exact next rest
Rises exact next (A.refused numbers ∷ rest) = Rises exact next rest

-- what the last finished picture says of that
abbrev LastSays : Holder → ℕ → Tick → Bool → ℕ → Type 0
LastSays Neither picture tick exact next = (exact ≡ true) × (next ≡ 0)
LastSays First picture tick exact next = (exact ≡ is_exact tick) × (next ≡ picture + 1)
LastSays Second picture tick exact next = (exact ≡ is_exact tick) × (next ≡ picture + 1)

-- the tick of the next one
tick_exact : (modulus : ℕ) (holder : Holder) (picture : ℕ) (tick : Tick) (exact : Bool) (next n tr : ℕ) → LastSays holder picture tick exact next
    → is_exact (tick_in modulus (record { holder = holder; picture = picture; tick = tick }) n tr) ≡ both exact (eqb n next)
unfolding tick_in
tick_exact modulus Neither picture tick exact next n tr h = as_exact (eqb n 0) tr ∙ (λ i. both (sym h.0 i) (eqb n (sym h.1 i)))
tick_exact modulus First picture tick exact next n tr h = later_exact modulus picture tick n tr ∙ (λ i. both (sym h.0 i) (eqb n (sym h.1 i)))
tick_exact modulus Second picture tick exact next n tr h = later_exact modulus picture tick n tr ∙ (λ i. both (sym h.0 i) (eqb n (sym h.1 i)))

into_says : (holder : Holder) (n : ℕ) (tick : Tick) → LastSays (goes_into holder) n tick (is_exact tick) (n + 1)
into_says Neither n tick = (refl, refl)
into_says First n tick = (refl, refl)
into_says Second n tick = (refl, refl)

record Known (r : Receiver) (exact : Bool) (next : ℕ) : Type 0 where
  wanted : next ≤ r.progress.wanted.picture
  says : LastSays r.last.holder r.last.picture r.last.tick exact next

module _ {D : Type 0} (coding : Kind → Coding D) where
  module _ (r : Receiver) (block : List ℕ) (b : Buffers) (blocks : List (List ℕ)) where
    -- once the block has come to this
    abbrev after : Event D → World
    after e = record { receiver = advance coding r e; lent = record { collection = collection_after block b.collection e; both = stored_by coding r b.both e } }

    rises_by : (exact : Bool) (next : ℕ) → Known r exact next → (e : Event D) → EventKnown coding r block b e
        → ((exact : Bool) (next : ℕ) → Known (advance coding r e) exact next → Rises exact next (answers coding (after e) blocks))
        → Rises exact next (answer_of coding r e ∷ answers coding (after e) blocks)
    rises_by exact next h (refusing numbers) k on = on exact next h
    rises_by exact next h (old header) k on = on exact next h
    rises_by exact next h (taken header standing) k on = let l = took_after k.by in on exact next (record { wanted = omega (arith, l, h.wanted); says = h.says })
    rises_by exact next h lost k on = on exact next (record { wanted = h.wanted; says = h.says })
    rises_by exact next h (failed header numbers) k on = let l = took_after k.1.by in on exact next (record { wanted = omega (arith, l, h.wanted); says = h.says })
    rises_by exact next h (finished header d) k on =
        let l = took_after k.took.by in
        let tick : Tick = finished_tick coding r header d in (
          omega (arith, l, h.wanted),
          (judged_means coding r block b header k.took.judged).sound.picture_is,
          tick_exact (coding r.kind).modulus r.last.holder r.last.picture r.last.tick exact next header.picture ((coding r.kind).tr d) h.says,
          on (is_exact tick) (header.picture + 1) (record { wanted = omega arith; says = into_says r.last.holder header.picture tick }),
        )

  rises : (w : World) (exact : Bool) (next : ℕ) → Known w.receiver exact next → (blocks : List (List ℕ)) → Rises exact next (answers coding w blocks)
  unfolding answers world_after step came_to
  rises w exact next h [] = tt
  rises w exact next h (block ∷ blocks) =
      rises_by w.receiver block w.lent blocks exact next h (decide coding w.receiver block w.lent) (event_known coding w.receiver block w.lent)
      (λ exact next h. rises (world_after coding w block) exact next h blocks)

  pub fresh_rises : (clip : ℕ) (kind : Kind) (blocks : List (List ℕ)) → Rises true 0 (answers_to coding clip kind blocks)
  fresh_rises clip kind blocks = rises (fresh_world clip kind) true 0 (record { wanted = omega arith; says = (refl, refl) }) blocks

  pub answers-length : (w : World) (blocks : List (List ℕ)) → length (answers coding w blocks) ≡ length blocks
  unfolding answers
  answers-length w [] = refl
  answers-length w (block ∷ blocks) = ap suc (answers-length (world_after coding w block) blocks)
