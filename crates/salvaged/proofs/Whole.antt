-- A sender's clip, whole and in order: a fresh receiver takes each block and finishes each picture, so that all is kept. Assumes nothing.
use mathlib.Core.Path.{◌≡◌, refl, sym, ap, subst, ◌∙◌}
use mathlib.Core.Bool.{Bool, true, false}
use mathlib.Core.List.{List, [], ◌∷◌, ◌++◌}
use mathlib.Core.Option.{some, some-injective}
use Prim.Native.Nat.{ℕ, suc, ◌+◌, ◌<◌}
use native.Mathlib.Nat.{add-zero, zero-add}
use native.Mathlib.Omega.{arith}
use borrow.Author.Tests.{eqb-true, eqb-false, eq-eqb, le-ltb}
use lib.Dec.{eqb}
use lib.ListN.{length, get_elem?}
use Rattle.laws.specs.Choice.{both, opposite}
use Rattle.coding.specs.declared.Kind.{Kind}
use Rattle.coding.specs.Coding.{Coding}
use Rattle.coding.specs.Kind.{kind_size, kind_standard, AllLawful}
use Rattle.coding.specs.Described.{bytes_in}
use Rattle.vault.specs.declared.Standard.{Standard}
use Rattle.vault.specs.Parts.{part_count, header_at, payload_at, block_at}
use Rattle.vault.specs.Renewed.{renewed_block}
use Rattle.vault.proofs.KeptLaws.{payload_length}
use Rattle.vault.proofs.Renewed.{renewed_same}
use Rattle.standing.specs.declared.Standing.{Standing}
use Rattle.standing.specs.declared.Standing.TheVariants as S
use Rattle.standing.specs.declared.Place.{Place}
use Rattle.ticks.specs.declared.Tick.{Tick}
use Rattle.standing.specs.Stores.{reference, shown_store}
use Rattle.standing.specs.Answered.{Said}
use Rattle.standing.specs.Answered as A
use Rattle.standing.specs.Receive.{Buffers, place, earlier_place, same_place, is_lost, Outcome, step}
use Rattle.standing.specs.Run.{world_after, answers}
use Rattle.standing.specs.Shown.{where_shown, shown_by}
use Rattle.salvaging.specs.Kept.{kept_numbers}
use Rattle.salvaging.specs.Log.{LogEntry, kept, skipped, dropped, log_from}
use Rattle.salvaging.specs.Clip.{blank_buffers, fresh_world, answers_to}
use Rattle.demand3.specs.Clip.{Picture, PartOf, Clip, opening, blocks_in, pictures_in, Shows}
use Rattle.demand3.specs.Arrives.{in_turn}
use Rattle.demand3.proofs.Finished.{none_shown}
use Rattle.demand3.proofs.Step.{Moment, world_at, outcome_at, bits_of, refresh_of, tick_of, header_of, further, arrived, Takes, takes_next, takes_anew, block_long}
use Rattle.demand3.proofs.Held.{Sound, Held, Fits, block_of, fits_next, fits_anew, goes_further, goes_answers, goes_arrived, held_further, held_drawn, line_of_lem}
use Rattle.demand3.proofs.InStep.{sound_clip, start, start_held}
use Rattle.demand3.proofs.WholeClip.{blocks_each, clip_in_turn}
use Rattle.salvaged.specs.Told.{dropped_in}
use Rattle.salvaged.specs.Replayed.{all_finished, shown_after, stores_shown}
use Rattle.salvaged.specs.Again.{KeptAlone, stores_sent, WholeComesBackAlways}
use Rattle.salvaged.proofs.Told.{log_tells_all}
use Rattle.salvaged.proofs.Follow.{Own, Finishes, more_part, more_picture}
use Rattle.salvaged.proofs.Replayed.{blank_named, clip_finished}
use Rattle.salvaged.proofs.Again.{turn_alone, turn_clip}

-- ---- a block as it was sent is the same under its own clip and number
sent_same : (standard : Standard) (clip p : ℕ) (refresh : Bool) (bytes : List ℕ) (count part : ℕ) → renewed_block clip p (block_at standard clip p refresh bytes count part) ≡ block_at standard clip p refresh bytes count part
unfolding block_at
sent_same standard clip p refresh bytes count part = renewed_same (header_at standard clip p refresh count part) (payload_at bytes count part) (payload_length bytes count part)

-- ---- a receiver that this part is to come to: it wants it, or it is fresh and this is the first of all
data Expects (p part : ℕ) (m : Moment) : Type 0 where
  wants_it : is_lost m.standing ≡ false → m.wanted ≡ place p part → Expects p part m
  is_first : part ≡ 0 → p ≡ 0 → m.wanted ≡ place 0 0 → is_lost m.standing ≡ true → Expects p part m

shift : (p i : ℕ) → p + suc i ≡ p + 1 + i
shift p i = omega arith

module _ {D : Type 0} {coding : Kind → Coding D} (lawful : AllLawful coding) {clip : ℕ} {kind : Kind} {sent : List (Picture D)} (sound : Sound coding clip kind sent) where
  abbrev count : Picture D → ℕ
  count x = part_count (length (bits_of coding kind x))

  -- in step at picture p, the store that is shown is the sender's
  store_shown : (p : ℕ) (x : Picture D) → get_elem? sent p ≡ some x → (store : List ℕ) → Shows sent (S.InStep p) store → store ≡ x.store
  store_shown p x at store shown = shown.2 ∙ ap (λ (y : Picture D). y.store) (some-injective shown.0 x (sym shown.1 ∙ at))

  -- ---- one block
  module _ {p part : ℕ} {block : List ℕ} (h : PartOf sent p part block) (m : Moment) (held : Held lawful sound m) where
    is_own : Own clip p block
    is_own = record {
      same = subst (λ (b : List ℕ). renewed_block clip p b ≡ b) (block_of lawful sound h).is (sent_same (kind_standard kind) clip p (refresh_of coding kind h.picture) (bytes_in (bits_of coding kind h.picture)) (length (bits_of coding kind h.picture)) part);
      long = block_long coding kind h.picture (block_of lawful sound h);
    }

    record Taken : Type 0 where
      standing : Standing
      stands : is_lost standing ≡ false
      takes : Takes lawful clip kind (block_of lawful sound h) m held.named standing
      fits : Fits lawful sound h m held
      shows : Shows sent standing (shown_store (kind_size kind) (where_shown standing m.last.holder) m.lent.both)

    not_before : (q n : ℕ) → earlier_place (place q n) (place q n) ≡ false
    not_before q n = rw (le-ltb q q (omega arith), eq-eqb q q refl, le-ltb n n (omega arith))

    here : (q n : ℕ) → same_place (place q n) (place q n) ≡ true
    here q n = rw (eq-eqb q q refl, eq-eqb n n refl)

    is_taken : Expects p part m → Taken
    is_taken (wants_it l w) = record {
      standing = m.standing;
      stands = l;
      takes =
          takes_next lawful clip kind (block_of lawful sound h) m held.named
          (line_of_lem lawful sound h m held false true _ (ap (earlier_place (place p part)) w ∙ not_before p part) ((λ i. both (same_place (place p part) (w i)) (opposite (l i))) ∙ ap (λ (b : Bool). both b true) (here p part)) refl);
      fits = fits_next lawful sound h m held l (sym (ap (λ (q : Place). q.picture) w)) (sym (ap (λ (q : Place). q.part) w));
      shows = held.shows;
    }
    is_taken (is_first z q w l) = record {
      standing = S.Catching;
      stands = refl;
      takes =
          takes_anew lawful clip kind (block_of lawful sound h) m held.named
          (line_of_lem lawful sound h m held false false true ((λ i. earlier_place (place (q i) (z i)) (w i)) ∙ not_before 0 0)
          ((λ i. both (same_place (place (q i) (z i)) (w i)) (opposite (l i))) ∙ ap (λ (b : Bool). both b false) (here 0 0)) (λ i. both (eq-eqb part 0 z i) (both (is_refresh i) (eq-eqb part 0 z i))));
      fits = fits_anew lawful sound h m held z is_refresh;
      shows = none_shown (kind_size kind) m.lent.both;
    }
      where
        is_refresh : refresh_of coding kind h.picture ≡ true
        is_refresh = (sound.whole p h.picture h.at).first q

    -- what comes of it, and then of the blocks after it
    module _ (later : List (List ℕ)) (wanted : List (List ℕ)) (many : ℕ) where
      abbrev By : Outcome → Type 0
      By x =
          Finishes clip p part (x.gave.answer ∷ answers coding (record { receiver = x.gave.next; lent = x.left }) later) (block ∷ later)
          (shown_after x ++ stores_shown coding (record { receiver = x.gave.next; lent = x.left }) later) wanted many

      by : (x : Outcome) → step coding (world_at clip kind m).receiver block m.lent ≡ x → By x
          → Finishes clip p part (answers coding (world_at clip kind m) (block ∷ later)) (block ∷ later) (stores_shown coding (world_at clip kind m) (block ∷ later)) wanted many
      unfolding answers stores_shown world_after
      by x e g = subst By (sym e) g

    goes_on : (t : Taken) (later wanted : List (List ℕ)) (many : ℕ) → eqb (part + 1) (count h.picture) ≡ false
        → ((n : Moment) → Held lawful sound n → Expects p (part + 1) n → Finishes clip p (part + 1) (answers coding (world_at clip kind n) later) later (stores_shown coding (world_at clip kind n) later) wanted many)
        → Finishes clip p part (answers coding (world_at clip kind m) (block ∷ later)) (block ∷ later) (stores_shown coding (world_at clip kind m) (block ∷ later)) wanted many
    goes_on t later wanted many e on =
        let c = goes_further lawful sound h m held t.standing t.takes e in
        let n : Moment = further m (header_of coding kind h.picture clip p part) t.standing block in
        by later wanted many (outcome_at clip kind (A.taken p part) n) (c.is ∙ ap (λ (a : Said). outcome_at clip kind a n) (goes_answers lawful sound h m held t.standing t.takes e))
        (more_part is_own (on n (held_further lawful sound h m held t.standing t.fits t.shows) (wants_it t.stands refl)))

    is_finished : (t : Taken) (later wanted : List (List ℕ)) (many : ℕ) → eqb (part + 1) (count h.picture) ≡ true
        → ((n : Moment) → Held lawful sound n → Expects (p + 1) 0 n → Finishes clip (p + 1) 0 (answers coding (world_at clip kind n) later) later (stores_shown coding (world_at clip kind n) later) wanted many)
        → Finishes clip p part (answers coding (world_at clip kind m) (block ∷ later)) (block ∷ later) (stores_shown coding (world_at clip kind m) (block ∷ later)) (h.picture.store ∷ wanted) (suc many)
    unfolding shown_by
    is_finished t later wanted many e on =
        let f = goes_arrived lawful sound h m held t.standing t.takes t.fits e in
        let after = held_drawn lawful sound h m held t.fits in
        let tick : Tick = tick_of coding kind h.picture m.last p in
        let n : Moment = arrived m (header_of coding kind h.picture clip p part) block ((coding kind).render h.picture.description (reference m.last.holder m.lent.both)) tick in
        by later (h.picture.store ∷ wanted) (suc many) (outcome_at clip kind (A.picture p tick) n) (f.comes.is ∙ ap (λ (a : Said). outcome_at clip kind a n) f.answers)
        (more_picture is_own tick _ h.picture.store (store_shown p h.picture h.at _ after.shows) (on n after (wants_it refl refl)))

  -- ---- the rest of a picture's blocks
  parts_go : (p : ℕ) (x : Picture D) → get_elem? sent p ≡ some x → (part : ℕ) (rest : List (List ℕ)) → ((i : ℕ) → get_elem? rest i ≡ get_elem? x.blocks (part + i)) → part + length rest ≡ length x.blocks
      → part < length x.blocks → (m : Moment) → Held lawful sound m → Expects p part m → (later wanted : List (List ℕ)) (many : ℕ)
      → ((n : Moment) → Held lawful sound n → Expects (p + 1) 0 n → Finishes clip (p + 1) 0 (answers coding (world_at clip kind n) later) later (stores_shown coding (world_at clip kind n) later) wanted many)
      → Finishes clip p part (answers coding (world_at clip kind m) (rest ++ later)) (rest ++ later) (stores_shown coding (world_at clip kind m) (rest ++ later)) (x.store ∷ wanted) (suc many)
  parts_go p x at part [] same l less m held ex later wanted many on = absurd (omega (arith, l, less))
  parts_go p x at part (block ∷ rest) same l less m held ex later wanted many on =
      go (eqb (part + 1) (count x)) refl
      (λ less n held ex. parts_go p x at (part + 1) rest (λ i. same (suc i) ∙ ap (get_elem? x.blocks) (shift part i)) (sym (shift part (length rest)) ∙ l) less n held ex later wanted many on)
    where
      h : PartOf sent p part block
      h = record { picture = x; at = at; has = ap (get_elem? x.blocks) (sym (add-zero part)) ∙ sym (same 0) }

      counted : length x.blocks ≡ count x
      counted = (sound.whole p x at).count

      none_left : (rest : List (List ℕ)) → length rest ≡ 0 → rest ≡ []
      none_left [] e = refl
      none_left (b ∷ bs) e = absurd (omega (arith, e))

      go : (last : Bool) → eqb (part + 1) (count x) ≡ last
          → (part + 1 < length x.blocks → (n : Moment) → Held lawful sound n → Expects p (part + 1) n
          → Finishes clip p (part + 1) (answers coding (world_at clip kind n) (rest ++ later)) (rest ++ later) (stores_shown coding (world_at clip kind n) (rest ++ later)) (x.store ∷ wanted) (suc many))
          → Finishes clip p part (answers coding (world_at clip kind m) (block ∷ (rest ++ later))) (block ∷ (rest ++ later)) (stores_shown coding (world_at clip kind m) (block ∷ (rest ++ later))) (x.store ∷ wanted) (suc many)
      go true e below =
          let end = eqb-true (part + 1) (count x) e in
          let none : rest ≡ [] = none_left rest (omega (arith, end, counted, l)) in
          subst (λ (r : List (List ℕ)). Finishes clip p part (answers coding (world_at clip kind m) (block ∷ (r ++ later))) (block ∷ (r ++ later)) (stores_shown coding (world_at clip kind m) (block ∷ (r ++ later))) (x.store ∷ wanted) (suc many)) (sym none)
          (is_finished h m held (is_taken h m held ex) later wanted many e on)
      go false e below =
          let other = eqb-false (part + 1) (count x) e in
          goes_on h m held (is_taken h m held ex) (rest ++ later) (x.store ∷ wanted) (suc many) e (below (omega (arith, other, counted, less)))

  -- ---- all pictures from one on
  pictures_go : (xs : List (Picture D)) (p : ℕ) → ((i : ℕ) → get_elem? xs i ≡ get_elem? sent (p + i)) → (m : Moment) → Held lawful sound m → Expects p 0 m
      → Finishes clip p 0 (answers coding (world_at clip kind m) (in_turn (blocks_each xs))) (in_turn (blocks_each xs)) (stores_shown coding (world_at clip kind m) (in_turn (blocks_each xs))) (stores_sent coding xs) (length xs)
  unfolding answers stores_shown kept_numbers
  pictures_go [] p same m held ex = record { turn = all_finished; owned = tt; shows = refl; counts = refl }
  pictures_go (x ∷ xs) p same m held ex =
      parts_go p x at 0 x.blocks (λ i. ap (get_elem? x.blocks) (sym (zero-add i))) (zero-add (length x.blocks)) some_blocks m held ex (in_turn (blocks_each xs)) (stores_sent coding xs) (length xs)
      (λ n held ex. pictures_go xs (p + 1) (λ i. same (suc i) ∙ ap (get_elem? sent) (shift p i)) n held ex)
    where
      at : get_elem? sent p ≡ some x
      at = ap (get_elem? sent) (sym (add-zero p)) ∙ sym (same 0)

      some_blocks : 0 < length x.blocks
      some_blocks =
          let bits = (lawful.each kind).has_bits x.description in
          let many = (sound.whole p x at).count in
          omega (arith, bits, many)

-- ---- the whole clip
module _ {D : Type 0} {coding : Kind → Coding D} (lawful : AllLawful coding) (c : Clip D) where
  sent_finishes : Finishes c.number 0 0 (answers_to coding c.number c.kind (blocks_in coding c)) (blocks_in coding c) (stores_shown coding (fresh_world c.number c.kind) (blocks_in coding c)) (stores_sent coding (pictures_in coding c)) (length (pictures_in coding c))
  sent_finishes =
      let lent : Buffers = blank_buffers (kind_size c.kind) in
      subst (λ (blocks : List (List ℕ)). Finishes c.number 0 0 (answers_to coding c.number c.kind blocks) blocks (stores_shown coding (fresh_world c.number c.kind) blocks) (stores_sent coding (pictures_in coding c)) (length (pictures_in coding c)))
      (sym (clip_in_turn coding (opening coding c) c.calls))
      (pictures_go lawful (sound_clip lawful c) (pictures_in coding c) 0 (λ i. ap (get_elem? (pictures_in coding c)) (sym (zero-add i))) (start lent) (start_held lawful (sound_clip lawful c) lent (blank_named (kind_size c.kind))) (is_first refl refl refl refl))

none_dropped : (log : List LogEntry) → KeptAlone log → dropped_in log ≡ []
unfolding dropped_in
none_dropped [] h = refl
none_dropped (kept block old new ∷ rest) h = none_dropped rest h.1
none_dropped (skipped block first last ∷ rest) h = absurd h
none_dropped (dropped block answer ∷ rest) h = absurd h

-- THE THEOREM
pub whole_comes_back : WholeComesBackAlways
whole_comes_back D coding lawful reads c =
    let f = sent_finishes lawful c in
    let blocks : List (List ℕ) = blocks_in coding c in
    let alone = turn_alone coding c.kind c.number blocks f.turn in
    record {
      back = λ new has_new lent named.
          let all = (log_tells_all D coding c.kind c.number new blocks).blocks_are.count in
          let none : length (dropped_in (log_from [] (answers_to coding c.number c.kind blocks))) ≡ 0 = ap length (none_dropped (log_from [] (answers_to coding c.number c.kind blocks)) alone) in
          record {
            pictures_all = f.counts;
            log_alone = alone;
            blocks_all = omega (arith, all, none);
            stores_same = (clip_finished D coding lawful reads c.kind c.number new blocks has_new lent named).stores_are ∙ f.shows;
          };
      same_bytes = turn_clip coding c.kind c.number blocks f.turn f.owned;
    }
