-- The new clip, fed to a fresh receiver, finishes every picture, with the samples the old receiver showed, and its ticks are exact. Assumes nothing.
use mathlib.Core.Path.{◌≡◌, refl, sym, ap, subst, ◌∙◌}
use mathlib.Core.Bool.{Bool, true, true≢false}
use mathlib.Core.List.{List, [], ◌∷◌}
use Prim.Native.Nat.{ℕ, ◌*◌, ◌≤◌}
use native.Mathlib.Omega.{arith}
use borrow.Author.Tests.{eq-eqb, ne_eqb}
use lib.Dec.{ltb}
use lib.ListN.{length, length-replicate}
use Rattle.laws.specs.Choice.{pick, either}
use Rattle.refusals.specs.Told.{accepted, refused}
use Rattle.refusals.specs.declared.Reason.TheVariants.{Count}
use Rattle.refusals.specs.Number.{refusal}
use Rattle.bits.specs.Bits.{source}
use Rattle.bits.specs.Places.{plain, stop_in}
use Rattle.bits.specs.Read.{refused as unread}
use Rattle.layout.specs.Flat.{Flat}
use Rattle.size.specs.declared.Size.{Size}
use Rattle.size.specs.Size.{limit, store_length, collection_length}
use Rattle.h261_groups.specs.Format.{size_of}
use Rattle.fields.specs.Answer.{map_read, found}
use Rattle.coding.specs.declared.Kind.{Kind}
use Rattle.coding.specs.Coding.{Coding}
use Rattle.coding.specs.declared.Kind.TheVariants.{H261, H263}
use Rattle.coding.specs.Kind.{kind_size, coding_of, AllLawful}
use Rattle.coding.proofs.AllLawful.{coding_lawful}
use Rattle.standing.specs.Answered.{Said}
use Rattle.standing.specs.Receive.{Buffers, fresh_receiver, lent_lengths}
use Rattle.standing.specs.Run.{answers}
use Rattle.salvaging.specs.Kept.{kept_numbers}
use Rattle.salvaging.specs.Clip.{blank_buffers, fresh_world, answers_to, clip_from}
use Rattle.demand3.specs.Clip.{Fresh}
use Rattle.demand3.specs.Ticks.{NoneSkipped}
use Rattle.demand3.proofs.InStep.{start}
use Rattle.demand3.proofs.Ticks.{exact_from_the_first}
use Rattle.salvaged.specs.Told.{numbers_from}
use Rattle.salvaged.specs.Replayed.{AllReadBits, InTurn, all_finished, next_part, last_part, opened_world, stores_shown, ClipFinishes, ClipFinishedAlways, CodingsReadBits, ClipFinishedMet}
use Rattle.salvaged.proofs.Walk.{clip_whole, no_tally}
use Rattle.salvaged.proofs.Follow.{Finishes, waits, follow}
use Rattle.h261_description.specs.Value as V261
use Rattle.h261_layers.specs.Grammar as G261
use Rattle.h261_reader.specs.Described as R261
use Rattle.h263_description.specs.Value as V263
use Rattle.h263_layers.specs.Grammar as G263
use Rattle.h263_reader.specs.Described as R263

-- ---- answers in turn
-- they skip no number
none_skipped : {n part : ℕ} {answered : List Said} → InTurn n part answered → NoneSkipped n answered
none_skipped all_finished = tt
none_skipped (next_part t) = none_skipped t
none_skipped (last_part tick t) = (refl, none_skipped t)

turn_numbers : {n part : ℕ} {answered : List Said} → InTurn n part answered → kept_numbers answered ≡ numbers_from (length (kept_numbers answered)) n
unfolding kept_numbers numbers_from
turn_numbers all_finished = refl
turn_numbers (next_part t) = turn_numbers t
turn_numbers {n = n} (last_part tick t) = ap (λ (l : List ℕ). n ∷ l) (turn_numbers t)

-- ---- a fresh receiver of the new clip, which is opened
opened_fresh : (clip : ℕ) (kind : Kind) → 1 ≤ clip → Buffers → Fresh clip kind
opened_fresh clip kind l lent = record {
  receiver = fresh_receiver clip kind;
  is_open = let some : clip ≡ 0 → ⊥ = λ z. omega (arith, z, l) in ap (λ (b : Bool). pick b (refused 22 0) (accepted (fresh_receiver clip kind))) (ne_eqb clip 0 some);
  lent = lent;
}

pub blank_named : (size : Size) → lent_lengths size (blank_buffers size) ≡ true
blank_named size =
    rw (length-replicate {A = ℕ} (collection_length size) 0, length-replicate {A = ℕ} (store_length size) 0, eq-eqb (collection_length size) (collection_length size) refl, eq-eqb (store_length size) (store_length size) refl)

module _ {D : Type 0} {coding : Kind → Coding D} (lawful : AllLawful coding) (reads : AllReadBits coding) (kind : Kind) (old new : ℕ) (blocks : List (List ℕ)) (has_new : 1 ≤ new) (lent : Buffers) (named : lent_lengths (kind_size kind) lent ≡ true) where
  abbrev said : List Said
  said = answers_to coding old kind blocks

  abbrev NewFinishes : List (List ℕ) → Type 0
  NewFinishes clip =
      Finishes new 0 0 (answers coding (opened_world new kind lent) clip) clip (stores_shown coding (opened_world new kind lent) clip) (stores_shown coding (fresh_world old kind) blocks) (length (kept_numbers said))

  pub new_finishes : NewFinishes (clip_from new [] said blocks)
  new_finishes =
      subst NewFinishes (sym (clip_whole new said blocks))
      (follow lawful reads kind old new has_new blocks no_tally (start (blank_buffers (kind_size kind))) (start lent)
      (record { named_old = blank_named (kind_size kind); named_new = named; holder_same = refl; last_same = tt; begun = λ h l. absurd (true≢false l); few = omega arith })
      (waits refl (λ l. refl) (λ c h. absurd (true≢false h.stands))))

  clip_finishes : ClipFinishes coding kind old new blocks lent
  unfolding opened_fresh
  clip_finishes =
      let f : NewFinishes (clip_from new [] said blocks) = new_finishes in
      record {
        in_turn = f.turn;
        numbers_are = turn_numbers f.turn ∙ ap (λ (n : ℕ). numbers_from n 0) f.counts;
        stores_are = f.shows;
        ticks_are = exact_from_the_first D coding new kind (opened_fresh new kind has_new lent) (clip_from new [] said blocks) (none_skipped f.turn);
      }

-- THE THEOREM
pub clip_finished : ClipFinishedAlways
clip_finished D coding lawful reads kind old new blocks has_new lent named = clip_finishes lawful reads kind old new blocks has_new lent named

-- ---- and of ours
read_alike : (k : Kind) (a b : List ℕ) (n : ℕ) → length a ≡ length b → source a n ≡ source b n → (coding_of k).read a n ≡ (coding_of k).read b n
unfolding coding_of R261.described G261.reading R263.described G263.reading
read_alike (H261 f) a b n l s = λ i.
    found (map_read (V261.laid_picture f) (pick (either (ltb (8 * l i) n) (ltb (limit (size_of f)) n)) (unread (stop_in plain (refusal Count 0) 0)) (G261.picture f (s i) 0)))
read_alike (H263 size) a b n l s = λ i.
    found (map_read (V263.laid_picture size) (pick (either (ltb (8 * l i) n) (ltb (limit size) n)) (unread (stop_in plain (refusal Count 0) 0)) (G263.picture size (s i) 0)))

pub codings_read_bits : CodingsReadBits
codings_read_bits = record { each = λ k. record { exactly = read_alike k } }

pub clip_finished_met : ClipFinishedMet
clip_finished_met = clip_finished Flat coding_of coding_lawful codings_read_bits
