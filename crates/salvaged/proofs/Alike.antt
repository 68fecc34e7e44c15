-- Two receivers that differ in what they are lent alone answer alike: what is collected begins alike, and nothing else is read. Assumes nothing.
use mathlib.Core.Path.{◌≡◌, refl, sym, ap, subst, ◌∙◌}
use mathlib.Core.Bool.{Bool, true, false, true≢false}
use mathlib.Core.List.{List, [], ◌∷◌}
use Prim.Native.Nat.{ℕ, ◌*◌}
use native.Mathlib.Omega.{arith}
use borrow.Author.Tests.{eqb-true}
use lib.Dec.{eqb}
use lib.ListN.{take}
use Rattle.laws.specs.Choice.{pick, both, opposite}
use Rattle.laws.proofs.Choice.{two_of}
use Rattle.refusals.specs.Told.{Told, accepted, refused_by, refused}
use Rattle.size.specs.declared.Size.{Size}
use Rattle.coding.specs.declared.Kind.{Kind}
use Rattle.coding.specs.Coding.{Coding}
use Rattle.coding.specs.Kind.{kind_size, kind_standard, AllLawful}
use Rattle.vault.specs.declared.Header.{Header}
use Rattle.vault.specs.Block.{judge_of}
use Rattle.vault.specs.Parts.{placed_payload}
use Rattle.vault.proofs.Judged.{Sound}
use Rattle.standing.specs.declared.Line.{Line}
use Rattle.standing.specs.declared.Line.TheVariants.{Earlier, Next, Anew, Otherwise}
use Rattle.standing.specs.declared.Place.{Place}
use Rattle.standing.specs.declared.Receiver.{Receiver}
use Rattle.standing.specs.declared.Standing.{Standing}
use Rattle.standing.specs.Answered.{Said}
use Rattle.standing.specs.Receive.{Event, refusing, old, taken, lost, failed, finished, Buffers, place, place_of, earlier_place, same_place, is_lost, line_of, count_of, lent_lengths, judged_block, ended_picture, took_of, by_line, by_judgement, decide, advance, answer_of, collection_after, stored_by, came_to, step}
use Rattle.standing.specs.Run.{world_after, answers}
use Rattle.salvaging.specs.Clip.{blank_buffers}
use Rattle.salvaging.proofs.Rising.{TookBy, by_next, by_anew, EventKnown, event_known, judged_means}
use Rattle.demand3.proofs.Finished.{kept_sized}
use Rattle.demand3.proofs.Step.{stores_are, lengths_make}
use Rattle.demand3.proofs.Held.{not_lost}
use Rattle.salvaged.specs.Replayed.{AllReadBits, AnswersAlikeAlways}
use Rattle.salvaged.proofs.Taking.{placing, placed_long, placed_alike, read_alike}
use Rattle.salvaged.proofs.Replayed.{blank_named}

-- the first line that matches, by which do
abbrev line_by : Bool → Bool → Bool → Line
line_by earlier next anew = pick earlier Earlier (pick next Next (pick anew Anew Otherwise))

-- ---- what the two are lent
pub record Begin (r : Receiver) (b c : Buffers) : Type 0 where
  pub named : lent_lengths (kind_size r.kind) b ≡ true
  pub named' : lent_lengths (kind_size r.kind) c ≡ true
  -- what is collected, unless the receiver is lost
  pub alike : is_lost r.progress.standing ≡ false → take (500 * r.progress.wanted.part) b.collection ≡ take (500 * r.progress.wanted.part) c.collection

module _ {D : Type 0} {coding : Kind → Coding D} (lawful : AllLawful coding) (reads : AllReadBits coding) where
  module _ (r : Receiver) (block : List ℕ) (b c : Buffers) (same : Begin r b c) where
    abbrev size : Size
    size = kind_size r.kind

    -- up to a block that is taken
    begins : {header : Header} {standing : Standing} → TookBy r.progress header standing → take (500 * header.part) b.collection ≡ take (500 * header.part) c.collection
    begins {header} (by_next e l s) =
        let at : r.progress.wanted.part ≡ header.part = sym (ap (λ (p : Place). p.part) e) in
        subst (λ (part : ℕ). take (500 * part) b.collection ≡ take (500 * part) c.collection) at (same.alike l)
    begins {header} (by_anew z q e s) = (λ i. take (500 * z i) b.collection) ∙ sym (λ i. take (500 * z i) c.collection)

    -- ---- what the block comes to
    module _ (header : Header) (sound : Sound size block header) where
      took_alike : {standing : Standing} → TookBy r.progress header standing
          → took_of coding r header standing (placed_payload block header.part c.collection) ≡ took_of coding r header standing (placed_payload block header.part b.collection)
      unfolding took_of
      took_alike {standing} t =
          let most = sound.used_most in
          ap (λ (x : Told D). pick header.last (ended_picture coding r header x) (taken header standing))
          (read_alike (placing sound c same.named') (placing sound b same.named) refl (sym (begins t)) (reads.each r.kind) (count_of header) (omega (arith, most)))

      line_alike : by_line coding (line_of r.progress header) r header block c.collection ≡ by_line coding (line_of r.progress header) r header block b.collection
      unfolding line_of by_line
      line_alike =
          go (earlier_place (place_of header) r.progress.wanted) (both (same_place (place_of header) r.progress.wanted) (opposite (is_lost r.progress.standing))) (both (eqb header.part 0) header.refresh) refl refl refl
        where
          go : (x y z : Bool) → earlier_place (place_of header) r.progress.wanted ≡ x → both (same_place (place_of header) r.progress.wanted) (opposite (is_lost r.progress.standing)) ≡ y
              → both (eqb header.part 0) header.refresh ≡ z
              → by_line coding (line_by x y z) r header block c.collection ≡ by_line coding (line_by x y z) r header block b.collection
          go true y z e f g = refl
          go false true z e f g =
              let sides = two_of (same_place (place_of header) r.progress.wanted) (opposite (is_lost r.progress.standing)) f in
              let here = two_of (eqb header.picture r.progress.wanted.picture) (eqb header.part r.progress.wanted.part) sides.0 in
              took_alike
              (by_next (λ i. place (eqb-true header.picture r.progress.wanted.picture here.0 i) (eqb-true header.part r.progress.wanted.part here.1 i)) (not_lost (is_lost r.progress.standing) sides.1) refl)
          go false false true e f g =
              let sides = two_of (eqb header.part 0) header.refresh g in
              took_alike (by_anew (eqb-true header.part 0 sides.0) sides.1 e refl)
          go false false false e f g = refl

    judged_alike : judged_block r block c ≡ judged_block r block b
    unfolding judged_block
    judged_alike = ap (λ (t : Bool). pick t (judge_of size (kind_standard r.kind) r.clip block) (refused 1 0)) (same.named' ∙ sym same.named)

    decided_alike : decide coding r block c ≡ decide coding r block b
    unfolding decide by_judgement
    decided_alike = ap (λ (t : Told Header). by_judgement coding t r block c.collection) judged_alike ∙ go (judged_block r block b) refl
      where
        go : (t : Told Header) → judged_block r block b ≡ t → by_judgement coding t r block c.collection ≡ by_judgement coding t r block b.collection
        go (refused_by numbers) e = refl
        go (accepted header) e = line_alike header (judged_means coding r block b header e).sound

    -- ---- and then
    abbrev after : Buffers → Event D → Buffers
    after x e = record { collection = collection_after block x.collection e; both = stored_by coding r x.both e }

    module _ (header : Header) (sound : Sound size block header) where
      placed_named : (x : Buffers) → lent_lengths size x ≡ true → lent_lengths size (record { collection = placed_payload block header.part x.collection; both = x.both }) ≡ true
      placed_named x named =
          lengths_make size (placed_payload block header.part x.collection) x.both (placed_long (placing sound x named)) (stores_are size x named)

      finished_named : (d : D) (x : Buffers) → lent_lengths size x ≡ true → lent_lengths size (after x (finished header d)) ≡ true
      finished_named d x named =
          lengths_make size (placed_payload block header.part x.collection) (stored_by coding r x.both (finished header d)) (placed_long (placing sound x named))
          (kept_sized size r.last.holder _ x.both ((lawful.each r.kind).rendered_long d _) (stores_are size x named))

    begin_next : (e : Event D) → EventKnown coding r block b e → Begin (advance coding r e) (after b e) (after c e)
    begin_next (refusing numbers) k = same
    begin_next (old header) k = same
    begin_next lost k = record { named = same.named; named' = same.named'; alike = λ l. absurd (true≢false l) }
    begin_next (taken header standing) k =
        let sound : Sound size block header = (judged_means coding r block b header k.judged).sound in
        record {
          named = placed_named header sound b same.named;
          named' = placed_named header sound c same.named';
          alike = λ l. placed_alike (placing sound b same.named) (placing sound c same.named') refl (begins k.by);
        }
    begin_next (failed header numbers) k =
        let sound : Sound size block header = (judged_means coding r block b header k.1.judged).sound in
        record { named = placed_named header sound b same.named; named' = placed_named header sound c same.named'; alike = λ l. absurd (true≢false l) }
    begin_next (finished header d) k =
        let sound : Sound size block header = (judged_means coding r block b header k.took.judged).sound in
        record { named = finished_named header sound d b same.named; named' = finished_named header sound d c same.named'; alike = λ l. refl }

  -- ---- all blocks
  alike_from : (blocks : List (List ℕ)) (r : Receiver) (b c : Buffers) → Begin r b c → answers coding (record { receiver = r; lent = c }) blocks ≡ answers coding (record { receiver = r; lent = b }) blocks
  unfolding answers world_after step came_to
  alike_from [] r b c same = refl
  alike_from (block ∷ blocks) r b c same =
      ap (λ (e : Event D). answer_of coding r e ∷ answers coding (record { receiver = advance coding r e; lent = after r block b c same c e }) blocks) (decided_alike r block b c same)
      ∙ ap (λ (l : List Said). answer_of coding r (decide coding r block b) ∷ l)
      (alike_from blocks (advance coding r (decide coding r block b)) (after r block b c same b (decide coding r block b)) (after r block b c same c (decide coding r block b))
      (begin_next r block b c same (decide coding r block b) (event_known coding r block b)))

-- THE THEOREM
pub answers_alike : AnswersAlikeAlways
answers_alike D coding lawful reads clip kind lent named blocks =
    alike_from lawful reads blocks _ (blank_buffers (kind_size kind)) lent (record { named = blank_named (kind_size kind); named' = named; alike = λ l. absurd (true≢false l) })
