-- Blocks that are answered in turn are all kept, each as it is under its own number: so salvaging the new clip again changes nothing. Assumes nothing.
use mathlib.Core.Path.{◌≡◌, refl, sym, ap, subst, ◌∙◌}
use mathlib.Core.Bool.{Bool, true, false}
use mathlib.Core.List.{List, [], ◌∷◌, ◌++◌}
use Prim.Native.Nat.{ℕ, suc, ◌+◌, ◌-◌, ◌*◌, ◌/◌, ◌≤◌}
use native.Mathlib.Omega.{arith}
use borrow.Author.Tests.{eq-eqb, le-ltb}
use lib.Dec.{ltb}
use lib.ListN.{length, length-append}
use lib.Seq.{take_at, drop_at}
use Rattle.laws.specs.Choice.{pick, one_of}
use Rattle.layout.specs.Flat.{Flat}
use Rattle.coding.specs.declared.Kind.{Kind}
use Rattle.coding.specs.Coding.{Coding}
use Rattle.coding.specs.Kind.{kind_size, coding_of}
use Rattle.coding.proofs.AllLawful.{coding_lawful}
use Rattle.sender.specs.Run.{cut}
use Rattle.standing.specs.Answered.{Said}
use Rattle.standing.specs.Answered as A
use Rattle.salvaging.specs.Kept.{kept_numbers}
use Rattle.salvaging.specs.Log.{LogEntry, kept, skipped, dropped, log_from}
use Rattle.salvaging.specs.Clip.{listed, joined, blank_buffers, answers_to, clip_from}
use Rattle.salvaging.specs.declared.Tally.{Tally}
use Rattle.salvaged.specs.Replayed.{InTurn, all_finished, next_part, last_part}
use Rattle.salvaged.specs.Again.{KeptAlone, SecondAlikeAlways, SecondAlikeMet}
use Rattle.salvaged.proofs.Walk.{clip_at, log_at, clip_whole, log_whole}
use Rattle.salvaged.proofs.Follow.{Owned}
use Rattle.salvaged.proofs.Replayed.{blank_named, new_finishes, codings_read_bits}

-- so many pictures, and this one is next
abbrev evenly : ℕ → Tally
evenly k = record { pictures = k; next = k }

-- a picture whose next part is still to come will be finished
turn_kept : {n part : ℕ} {answered : List Said} → InTurn n part answered → 1 ≤ part → one_of (kept_numbers answered) n ≡ true
unfolding kept_numbers
turn_kept all_finished l = absurd (omega (arith, l))
turn_kept (next_part t) l = turn_kept t (omega arith)
turn_kept {n} (last_part tick t) l = rw (eq-eqb n n refl)

module _ (clip : ℕ) where
  clip_own : {k part : ℕ} {answered : List Said} → InTurn k part answered → (blocks : List (List ℕ)) → Owned clip k answered blocks → clip_at clip (evenly k) answered blocks ≡ blocks
  clip_own all_finished [] o = refl
  clip_own all_finished (block ∷ blocks) o = absurd o
  clip_own (next_part t) [] o = absurd o
  clip_own (next_part t) (block ∷ blocks) o = λ i. pick (turn_kept t (omega arith) i) (o.0.same i ∷ []) [] ++ clip_own t blocks o.1 i
  clip_own (last_part tick t) [] o = absurd o
  clip_own (last_part tick t) (block ∷ blocks) o = λ i. o.0.same i ∷ clip_own t blocks o.1 i

  -- the bytes of such blocks, one after another, are cut into them again
  joined_long : {k part : ℕ} {answered : List Said} → InTurn k part answered → (blocks : List (List ℕ)) → Owned clip k answered blocks → length (joined blocks) ≡ 512 * length blocks
  unfolding joined
  joined_long all_finished [] o = refl
  joined_long all_finished (block ∷ blocks) o = absurd o
  joined_long (next_part t) [] o = absurd o
  joined_long (next_part t) (block ∷ blocks) o = omega (arith, length-append block (joined blocks), o.0.long, joined_long t blocks o.1)
  joined_long (last_part tick t) [] o = absurd o
  joined_long (last_part tick t) (block ∷ blocks) o = omega (arith, length-append block (joined blocks), o.0.long, joined_long t blocks o.1)

  cut_next : (block : List ℕ) (rest : List (List ℕ)) → length block ≡ 512 → cut (length rest) (joined rest) ≡ rest → cut (suc (length rest)) (joined (block ∷ rest)) ≡ block ∷ rest
  unfolding joined cut
  cut_next block rest l e =
      (λ i. take_at block (joined rest) 512 l i ∷ cut (length rest) (drop_at block (joined rest) 512 l i)) ∙ ap (λ (bs : List (List ℕ)). block ∷ bs) e

  joined-cut : {k part : ℕ} {answered : List Said} → InTurn k part answered → (blocks : List (List ℕ)) → Owned clip k answered blocks → cut (length blocks) (joined blocks) ≡ blocks
  unfolding cut
  joined-cut all_finished [] o = refl
  joined-cut all_finished (block ∷ blocks) o = absurd o
  joined-cut (next_part t) [] o = absurd o
  joined-cut (next_part t) (block ∷ blocks) o = cut_next block blocks o.0.long (joined-cut t blocks o.1)
  joined-cut (last_part tick t) [] o = absurd o
  joined-cut (last_part tick t) (block ∷ blocks) o = cut_next block blocks o.0.long (joined-cut t blocks o.1)

  bytes_cut : {answered : List Said} → InTurn 0 0 answered → (blocks : List (List ℕ)) → Owned clip 0 answered blocks → listed (joined blocks) ≡ blocks
  bytes_cut t blocks o =
      let long = joined_long t blocks o in
      let many : length (joined blocks) / 512 ≡ length blocks = omega (arith, long) in
      ap (λ (n : ℕ). cut n (joined blocks)) many ∙ joined-cut t blocks o

-- the entries of answers in turn
alone_more : (at k : ℕ) (rest : List LogEntry) (run : Bool) → run ≡ false → KeptAlone rest → KeptAlone ((pick run (skipped at k (k - 1) ∷ []) [] ++ (kept at k k ∷ [])) ++ rest)
alone_more at k rest run e h = subst (λ (b : Bool). KeptAlone ((pick b (skipped at k (k - 1) ∷ []) [] ++ (kept at k k ∷ [])) ++ rest)) (sym e) (refl, h)

log_alone : {k part : ℕ} {answered : List Said} → InTurn k part answered → (at : ℕ) → KeptAlone (log_at at (evenly k) answered)
log_alone all_finished at = tt
log_alone {k} {part} (next_part {rest = rest} t) at =
    subst (λ (b : Bool). KeptAlone (pick b [] (dropped at (A.taken k part) ∷ []) ++ log_at (at + 1) (evenly k) rest)) (sym (turn_kept t (omega arith))) (log_alone t (at + 1))
log_alone {k} (last_part {rest = rest} tick t) at = alone_more at k (log_at (at + 1) (evenly (k + 1)) rest) (ltb k k) (le-ltb k k (omega arith)) (log_alone t (at + 1))

-- ---- blocks that are answered in turn
module _ {D : Type 0} (coding : Kind → Coding D) (kind : Kind) (clip : ℕ) (blocks : List (List ℕ)) (t : InTurn 0 0 (answers_to coding clip kind blocks)) where
  pub turn_alone : KeptAlone (log_from [] (answers_to coding clip kind blocks))
  turn_alone = subst KeptAlone (sym (log_whole (answers_to coding clip kind blocks))) (log_alone t 0)

  pub turn_clip : Owned clip 0 (answers_to coding clip kind blocks) blocks → clip_from clip [] (answers_to coding clip kind blocks) blocks ≡ blocks
  turn_clip o = clip_whole clip (answers_to coding clip kind blocks) blocks ∙ clip_own clip t blocks o

-- THE THEOREM
pub second_alike : SecondAlikeAlways
second_alike D coding lawful reads kind old new blocks has_new =
    let made : List (List ℕ) = clip_from new [] (answers_to coding old kind blocks) blocks in
    let f = new_finishes lawful reads kind old new blocks has_new (blank_buffers (kind_size kind)) (blank_named (kind_size kind)) in
    record {
      clip_same = turn_clip coding kind new made f.turn f.owned;
      pictures_same = f.counts;
      log_alone = turn_alone coding kind new made f.turn;
      bytes_are = bytes_cut new f.turn made f.owned;
    }

pub second_alike_met : SecondAlikeMet
second_alike_met = second_alike Flat coding_of coding_lawful codings_read_bits
