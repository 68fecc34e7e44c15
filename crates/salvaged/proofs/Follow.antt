-- The new clip, fed in order: block by block the new receiver does what the old one did with the blocks of the pictures that it finished. A cut is always before a refresh; between cuts the reference is
-- the picture kept before, for both. Assumes nothing.
use mathlib.Core.Path.{◌≡◌, refl, sym, ap, subst, ◌∙◌}
use mathlib.Core.Bool.{Bool, true, false, true≢false, false≢true}
use mathlib.Core.Logic.{◌⊎◌, inl, inr}
use mathlib.Core.List.{List, [], ◌∷◌, ◌++◌}
use Prim.Native.Nat.{ℕ, suc, ◌+◌, ◌*◌, ◌≤◌, ◌<◌}
use native.Mathlib.Omega.{arith}
use borrow.Author.Tests.{eqb-true, eqb-false, eq-eqb, ne_eqb}
use lib.Dec.{eqb}
use lib.ListN.{length, take}
use Rattle.laws.specs.Choice.{pick, both, either, alike, one_of}
use Rattle.laws.proofs.Choice.{true-T, alike_same}
use Rattle.refusals.specs.Told.{accepted}
use Rattle.size.specs.declared.Size.{Size}
use Rattle.size.specs.Size.{collection_length}
use Rattle.coding.specs.declared.Kind.{Kind}
use Rattle.coding.specs.Coding.{Coding}
use Rattle.coding.specs.Kind.{kind_size, AllLawful}
use Rattle.vault.specs.declared.Header.{Header}
use Rattle.vault.specs.Parts.{placed_payload}
use Rattle.vault.specs.Renewed.{renewed_block, renewed_header}
use Rattle.ticks.specs.declared.Tick.{Tick}
use Rattle.standing.specs.declared.Holder.{Holder}
use Rattle.standing.specs.declared.Holder.TheVariants.{Neither, First, Second}
use Rattle.standing.specs.declared.Last.{Last}
use Rattle.standing.specs.declared.Place.{Place}
use Rattle.standing.specs.declared.Receiver.{Receiver}
use Rattle.standing.specs.declared.Standing.{Standing}
use Rattle.standing.specs.declared.Standing.TheVariants as S
use Rattle.standing.specs.Stores.{Stores, goes_into, any_finished, reference, stores_with}
use Rattle.standing.specs.Answered.{Said}
use Rattle.standing.specs.Answered as A
use Rattle.standing.specs.Receive.{Event, refusing, old, taken, lost, failed, finished, place, place_of, earlier_place, judged_block, is_lost, mark_of, count_of, lent_lengths, decide, finished_tick, finished_reply, advance, answer_of, collection_after, stored_by, came_to, step}
use Rattle.standing.specs.Run.{World, world_after, answers}
use Rattle.standing.specs.Shown.{shown_by}
use Rattle.salvaging.specs.Kept.{kept_numbers}
use Rattle.salvaging.specs.Step.{tally_after, Collects}
use Rattle.salvaging.specs.declared.Tally.{Tally}
use Rattle.salvaging.proofs.Rising.{TookBy, by_next, by_anew, Good, EventKnown, event_known, judged_means, later_part, took_after, Past, beyond, dropped}
use Rattle.salvaging.proofs.Ahead.{past_never}
use Rattle.demand3.proofs.Finished.{kept_sized, kept_shown}
use Rattle.demand3.proofs.Step.{Moment, progress_at, receiver_at, world_at, further, astray, arrived, stores_are, lengths_make}
use Rattle.salvaged.specs.Replayed.{AllReadBits, InTurn, all_finished, next_part, last_part, shown_after, stores_shown}
use Rattle.salvaged.proofs.Walk.{clip_at}
use Rattle.salvaged.proofs.Taking.{Fits, own, TakenToo, taken_too, finished_too, placing, placed_long, renewed_long, place_new, begins_more}

-- ---- what is to be shown of what the new receiver answers
-- a block that is the same if it is renewed under this clip and number
pub record Own (clip k : ℕ) (block : List ℕ) : Type 0 where
  pub same : renewed_block clip k block ≡ block
  pub long : length block ≡ 512

-- each block is, under its picture's number
abbrev pub Owned : ℕ → ℕ → List Said → List (List ℕ) → Type 0
Owned clip k [] [] = Unit {0}
Owned clip k [] (block ∷ blocks) = ⊥
Owned clip k (answer ∷ rest) [] = ⊥
Owned clip k (A.picture n tick ∷ rest) (block ∷ blocks) = Own clip k block × Owned clip (k + 1) rest blocks
Owned clip k (A.taken n part ∷ rest) (block ∷ blocks) = Own clip k block × Owned clip k rest blocks
Owned clip k (A.old n part ∷ rest) (block ∷ blocks) = ⊥
Owned clip k (A.lost ∷ rest) (block ∷ blocks) = ⊥
Owned clip k (A.refused numbers ∷ rest) (block ∷ blocks) = ⊥

pub record Finishes (clip k part : ℕ) (answered : List Said) (blocks shown wanted : List (List ℕ)) (count : ℕ) : Type 0 where
  pub turn : InTurn k part answered
  pub owned : Owned clip k answered blocks
  pub shows : shown ≡ wanted
  pub counts : length (kept_numbers answered) ≡ count

module _ {clip k part : ℕ} {answered : List Said} {blocks shown wanted : List (List ℕ)} {count : ℕ} {block : List ℕ} (is_own : Own clip k block) where
  pub more_part : Finishes clip k (part + 1) answered blocks shown wanted count → Finishes clip k part (A.taken k part ∷ answered) (block ∷ blocks) shown wanted count
  unfolding kept_numbers
  more_part f = record { turn = next_part f.turn; owned = (is_own, f.owned); shows = f.shows; counts = f.counts }

  pub more_picture : (tick : Tick) (a b : List ℕ) → a ≡ b → Finishes clip (k + 1) 0 answered blocks shown wanted count
      → Finishes clip k part (A.picture k tick ∷ answered) (block ∷ blocks) (a ∷ shown) (b ∷ wanted) (suc count)
  unfolding kept_numbers
  more_picture tick a b e f = record { turn = last_part tick f.turn; owned = (is_own, f.owned); shows = (λ i. e i ∷ f.shows i); counts = ap suc f.counts }

-- ---- two pairs of stores that hold the same last picture
abbrev pub SameLast : Holder → Stores → Stores → Type 0
SameLast Neither s t = Unit {0}
SameLast First s t = s.first ≡ t.first
SameLast Second s t = s.second ≡ t.second

same_with : (holder : Holder) (p q : List ℕ) (s t : Stores) → p ≡ q → SameLast (goes_into holder) (stores_with holder p s) (stores_with holder q t)
same_with Neither p q s t e = e
same_with First p q s t e = e
same_with Second p q s t e = e

some_holder : (holder : Holder) → any_finished (goes_into holder) ≡ true
some_holder Neither = refl
some_holder First = refl
some_holder Second = refl

module _ {D : Type 0} {coding : Kind → Coding D} (lawful : AllLawful coding) (reads : AllReadBits coding) (kind : Kind) (old_clip new : ℕ) (has_new : 1 ≤ new) where
  abbrev size : Size
  size = kind_size kind

  -- ---- the two receivers
  -- a receiver that has finished none and isn't lost collects a picture that its mark calls a refresh
  abbrev Begun : Moment → Type 0
  Begun m = m.last.holder ≡ Neither → is_lost m.standing ≡ false → (m.mark ≡ true) × (1 ≤ m.wanted.part)

  pub record Paired (k : ℕ) (m n : Moment) : Type 0 where
    pub named_old : lent_lengths size m.lent ≡ true
    pub named_new : lent_lengths size n.lent ≡ true
    pub holder_same : m.last.holder ≡ n.last.holder
    pub last_same : SameLast m.last.holder m.lent.both n.lent.both
    pub begun : Begun m
    pub few : k ≤ m.wanted.picture

  -- by what the old one will answer
  pub data Follows (k : ℕ) (m n : Moment) (answered : List Said) : Type 0 where
    -- the new one waits for picture k; what the old one collects, if anything, is never finished
    waits : n.wanted ≡ place k 0 → (is_lost n.standing ≡ true → m.last.holder ≡ Neither)
        → ((c : ℕ) → Collects c (progress_at m) → one_of (kept_numbers answered) c ≡ false) → Follows k m n answered
    -- both collect the same picture, which will be finished
    collects : (c part : ℕ) → m.wanted ≡ place c part → 1 ≤ part → is_lost m.standing ≡ false → n.wanted ≡ place k part → is_lost n.standing ≡ false → m.mark ≡ n.mark
        → take (500 * part) m.lent.collection ≡ take (500 * part) n.lent.collection → one_of (kept_numbers answered) c ≡ true → Follows k m n answered

  abbrev old_world : Moment → World
  old_world m = world_at old_clip kind m

  abbrev new_world : Moment → World
  new_world n = world_at new kind n

  -- what is to be shown of them
  abbrev pub Goal : Tally → Moment → Moment → List (List ℕ) → Type 0
  Goal t m n blocks =
      let clip = clip_at new t (answers coding (old_world m) blocks) blocks in
      Finishes new t.pictures n.wanted.part (answers coding (new_world n) clip) clip (stores_shown coding (new_world n) clip) (stores_shown coding (old_world m) blocks)
      (length (kept_numbers (answers coding (old_world m) blocks)))

  -- ---- one block more
  follows_skip : {k : ℕ} {m n : Moment} {rest : List Said} (answer : Said) → kept_numbers (answer ∷ rest) ≡ kept_numbers rest → Follows k m n (answer ∷ rest) → Follows k m n rest
  follows_skip answer e (waits w l none) = waits w l (λ c h. ap (λ (ns : List ℕ). one_of ns c) (sym e) ∙ none c h)
  follows_skip answer e (collects c part mw begun ml nw nl mk beg kept) = collects c part mw begun ml nw nl mk beg (ap (λ (ns : List ℕ). one_of ns c) (sym e) ∙ kept)

  -- the mark of a picture that is begun before any was finished
  took_mark : (m : Moment) {header : Header} {standing : Standing} → Begun m → m.last.holder ≡ Neither → TookBy (progress_at m) header standing → mark_of (progress_at m) header ≡ true
  took_mark m {header} begun h (by_next e l s) =
      let b = begun h l in
      let same : header.part ≡ m.wanted.part = ap (λ (p : Place). p.part) e in
      let other : header.part ≡ 0 → ⊥ = λ z. omega (arith, z, same, b.1) in
      ap (λ (t : Bool). pick t header.refresh m.mark) (ne_eqb header.part 0 other) ∙ b.0
  took_mark m {header} begun h (by_anew z r e s) = ap (λ (t : Bool). pick t header.refresh m.mark) (eq-eqb header.part 0 z) ∙ r

  module _ (t : Tally) (m n : Moment) (a : Paired t.pictures m n) (block : List ℕ) (blocks : List (List ℕ)) where
    abbrev r : Receiver
    r = receiver_at old_clip kind m

    abbrev after_old : Event D → World
    after_old e = record { receiver = advance coding r e; lent = record { collection = collection_after block m.lent.collection e; both = stored_by coding r m.lent.both e } }

    abbrev said_old : Event D → List Said
    said_old e = answer_of coding r e ∷ answers coding (after_old e) blocks

    abbrev GoalBy : Event D → Type 0
    GoalBy e =
        let clip = clip_at new t (said_old e) (block ∷ blocks) in
        Finishes new t.pictures n.wanted.part (answers coding (new_world n) clip) clip (stores_shown coding (new_world n) clip)
        (shown_after (came_to coding r block m.lent e) ++ stores_shown coding (after_old e) blocks) (length (kept_numbers (said_old e)))

    -- the blocks after it
    abbrev On : Type 0
    On = (u : Tally) (m n : Moment) → Paired u.pictures m n → Follows u.pictures m n (answers coding (old_world m) blocks) → Goal u m n blocks

    -- ---- a block that is taken
    module _ (header : Header) (standing : Standing) (by : TookBy (progress_at m) header standing) (judged : judged_block r block m.lent ≡ accepted header) where
      abbrev good : Good coding r block m.lent header
      good = judged_means coding r block m.lent header judged

      long_placed : length (placed_payload block header.part m.lent.collection) ≡ collection_length size
      long_placed = placed_long (placing good.sound m.lent a.named_old)

      few_more : t.pictures ≤ header.picture
      few_more = let l = took_after by in omega (arith, l, a.few)

      -- what was collected before is dropped, if this isn't its next part
      abbrev Dropped : List Said → Type 0
      Dropped answered = (c : ℕ) → c < header.picture → one_of (kept_numbers answered) c ≡ false

      begins_later : {c part : ℕ} → m.wanted ≡ place c part → 1 ≤ part → header.part ≡ 0 → earlier_place (place_of header) m.wanted ≡ false → c < header.picture
      begins_later {c} {part} w l z e =
          later_part header.picture c part ((λ i. earlier_place (place header.picture (sym z i)) (sym w i)) ∙ e) l

      -- its picture will be finished, or is
      fits : (answered : List Said) → Follows t.pictures m n answered → one_of (kept_numbers answered) header.picture ≡ true → Dropped answered
          → Fits reads kind old_clip new has_new t.pictures m n block header
      fits answered follows kept gone = go follows by
        where
          fit : n.wanted ≡ place t.pictures header.part → (is_lost n.standing ≡ false) ⊎ ((header.part ≡ 0) × (header.refresh ≡ true))
              → take (500 * header.part) m.lent.collection ≡ take (500 * header.part) n.lent.collection → mark_of (progress_at m) header ≡ mark_of (progress_at n) header
              → Fits reads kind old_clip new has_new t.pictures m n block header
          fit w l b k = record {
            judged = good.judged;
            sound = good.sound;
            numbered = let less = good.sound.picture_is in let few = few_more in omega (arith, less, few);
            named_old = a.named_old;
            named_new = a.named_new;
            wants = w;
            takes = l;
            begins = b;
            marks = k;
          }

          first : n.wanted ≡ place t.pictures 0 → header.part ≡ 0 → (is_lost n.standing ≡ false) ⊎ ((header.part ≡ 0) × (header.refresh ≡ true)) → Fits reads kind old_clip new has_new t.pictures m n block header
          first w z l =
              fit (w ∙ (λ i. place t.pictures (sym z i))) l
              ((λ i. take (500 * z i) m.lent.collection) ∙ sym (λ i. take (500 * z i) n.lent.collection))
              ((λ i. pick (eq-eqb header.part 0 z i) header.refresh m.mark) ∙ sym (λ i. pick (eq-eqb header.part 0 z i) header.refresh n.mark))

          go : Follows t.pictures m n answered → TookBy (progress_at m) header standing → Fits reads kind old_clip new has_new t.pictures m n block header
          go (waits w l none) (by_anew z q e s) = first w z (inr (z, q))
          go (waits w l none) (by_next e nl s) = start (eqb header.part 0) refl
            where
              same : header.part ≡ m.wanted.part
              same = ap (λ (p : Place). p.part) e

              stands : header.part ≡ 0 → (b : Bool) → is_lost n.standing ≡ b → is_lost n.standing ≡ false
              stands z false f = f
              stands z true f = absurd (let b = a.begun (l f) nl in omega (arith, z, same, b.1))

              start : (b : Bool) → eqb header.part 0 ≡ b → Fits reads kind old_clip new has_new t.pictures m n block header
              start true f = let z = eqb-true header.part 0 f in first w z (inl (stands z (is_lost n.standing) refl))
              start false f =
                  let other = eqb-false header.part 0 f in
                  absurd (true≢false (sym kept ∙ none header.picture (record { wants = sym (ap (λ (p : Place). p.picture) e); begun = omega (arith, other, same); stands = nl })))
          go (collects c part mw begun ml nw nl mk beg will) (by_anew z q e s) = absurd (true≢false (sym will ∙ gone c (begins_later mw begun z e)))
          go (collects c part mw begun ml nw nl mk beg will) (by_next e l s) =
              let same : header.part ≡ part = ap (λ (p : Place). p.part) (e ∙ mw) in
              fit (nw ∙ (λ i. place t.pictures (sym same i))) (inl nl)
              ((λ i. take (500 * same i) m.lent.collection) ∙ beg ∙ sym (λ i. take (500 * same i) n.lent.collection))
              (λ i. pick (eqb header.part 0) header.refresh (mk i))

      -- ---- the old receiver, a part further
      abbrev further_old : Moment
      further_old = further m header standing block

      alike-further : (n' : Moment) → lent_lengths size n'.lent ≡ true → n'.last ≡ n.last → n'.lent.both ≡ n.lent.both → Paired t.pictures further_old n'
      alike-further n' named last both = record {
        named_old = lengths_make size (placed_payload block header.part m.lent.collection) m.lent.both long_placed (stores_are size m.lent a.named_old);
        named_new = named;
        holder_same = a.holder_same ∙ sym (ap (λ (l : Last). l.holder) last);
        last_same = subst (SameLast m.last.holder m.lent.both) (sym both) a.last_same;
        begun = λ h l. (took_mark m a.begun h by, omega arith);
        few = few_more;
      }

      -- its picture is never finished
      on_dropped : (header.last ≡ false) → (answered : List Said) → answered ≡ said_old (taken header standing) → one_of (kept_numbers answered) header.picture ≡ false → Dropped answered
          → Follows t.pictures m n answered → Follows t.pictures further_old n (answers coding (after_old (taken header standing)) blocks)
      unfolding kept_numbers
      on_dropped last answered is never gone (waits w l none) =
          waits w l (λ c h. ap (λ (s : List Said). one_of (kept_numbers s) c) (sym is) ∙ ap (one_of (kept_numbers answered)) (sym h.wants) ∙ never)
      on_dropped last answered is never gone (collects c part mw begun ml nw nl mk beg will) = absurd (go by)
        where
          go : TookBy (progress_at m) header standing → ⊥
          go (by_next e l s) = true≢false (sym will ∙ ap (one_of (kept_numbers answered)) (sym (ap (λ (p : Place). p.picture) (e ∙ mw))) ∙ never)
          go (by_anew z q e s) = true≢false (sym will ∙ gone c (begins_later mw begun z e))

      -- ---- the new receiver
      module _ (f : Fits reads kind old_clip new has_new t.pictures m n block header) where
        abbrev made : List ℕ
        made = renewed_block new t.pictures block

        abbrev made_header : Header
        made_header = renewed_header new t.pictures header

        is_own : Own new t.pictures made
        is_own = record { same = own reads kind old_clip new has_new f; long = renewed_long reads kind old_clip new has_new f }

        abbrev rn : Receiver
        rn = receiver_at new kind n

        abbrev after_new : Event D → World
        after_new e = record { receiver = advance coding rn e; lent = record { collection = collection_after made n.lent.collection e; both = stored_by coding rn n.lent.both e } }

        -- what it comes to with this block, and then with the rest of the clip
        abbrev NewBy : List (List ℕ) → List (List ℕ) → ℕ → Event D → Type 0
        NewBy clip wanted count e =
            Finishes new t.pictures n.wanted.part (answer_of coding rn e ∷ answers coding (after_new e) clip) (made ∷ clip)
            (shown_after (came_to coding rn made n.lent e) ++ stores_shown coding (after_new e) clip) wanted count

        new_by : (clip wanted : List (List ℕ)) (count : ℕ) (e : Event D) → decide coding rn made n.lent ≡ e → NewBy clip wanted count e
            → Finishes new t.pictures n.wanted.part (answers coding (new_world n) (made ∷ clip)) (made ∷ clip) (stores_shown coding (new_world n) (made ∷ clip)) wanted count
        unfolding answers stores_shown world_after step came_to
        new_by clip wanted count e q g = subst (NewBy clip wanted count) (sym q) g

        -- at the part that it wants
        at_part : {answered : List Said} {clip shown wanted : List (List ℕ)} {count : ℕ} → Finishes new t.pictures header.part answered clip shown wanted count
            → Finishes new t.pictures n.wanted.part answered clip shown wanted count
        at_part {answered} {clip} {shown} {wanted} {count} g =
            subst (λ (p : ℕ). Finishes new t.pictures p answered clip shown wanted count) (sym (ap (λ (p : Place). p.part) f.wants)) g

        -- a part further
        goes_further : header.last ≡ false → one_of (kept_numbers (answers coding (after_old (taken header standing)) blocks)) header.picture ≡ true → is_lost standing ≡ false → On
            → (let clip = clip_at new t (answers coding (after_old (taken header standing)) blocks) blocks in
            Finishes new t.pictures n.wanted.part (answers coding (new_world n) (made ∷ clip)) (made ∷ clip) (stores_shown coding (new_world n) (made ∷ clip))
            (stores_shown coding (after_old (taken header standing)) blocks) (length (kept_numbers (answers coding (after_old (taken header standing)) blocks))))
        unfolding came_to
        goes_further last kept stands on =
            let too : TakenToo reads kind old_clip new has_new f = taken_too reads kind old_clip new has_new f last in
            let n' : Moment = further n made_header too.standing made in
            let named : lent_lengths size n'.lent ≡ true = lengths_make size n'.lent.collection n.lent.both (placed_long (place_new reads kind old_clip new has_new f)) (stores_are size n.lent a.named_new) in
            new_by (clip_at new t (answers coding (after_old (taken header standing)) blocks) blocks) _ _ (taken made_header too.standing) too.does
            (at_part (more_part is_own
            (on t further_old n' (alike-further n' named refl refl)
            (collects header.picture (header.part + 1) refl (omega arith) stands refl too.stands f.marks (begins_more reads kind old_clip new has_new f) kept))))

        -- the picture is finished, drawn alike
        module _ (last : header.last ≡ true) (d : D) (found : (coding kind).read (placed_payload block header.part m.lent.collection) (count_of header) ≡ accepted d)
            (marked : alike ((coding kind).refresh d) (mark_of (progress_at m) header) ≡ true) where
          abbrev e : Event D
          e = finished header d

          abbrev tick : Tick
          tick = finished_tick coding r header d

          abbrev tick_new : Tick
          tick_new = finished_tick coding rn made_header d

          abbrev drawn_old : List ℕ
          drawn_old = (coding kind).render d (reference m.last.holder m.lent.both)

          abbrev drawn_new : List ℕ
          drawn_new = (coding kind).render d (reference n.last.holder n.lent.both)

          is_refresh : m.last.holder ≡ Neither → (coding kind).refresh d ≡ true
          is_refresh h = alike_same ((coding kind).refresh d) (mark_of (progress_at m) header) (true-T _ marked) ∙ took_mark m a.begun h by

          drawn_over : (holder : Holder) (s u : Stores) → SameLast holder s u → (holder ≡ Neither → (coding kind).refresh d ≡ true) → (coding kind).render d (reference holder s) ≡ (coding kind).render d (reference holder u)
          drawn_over Neither s u same h = (lawful.each kind).anew d s.second u.second ((lawful.each kind).reads_valid (placed_payload block header.part m.lent.collection) (count_of header) d found) (h refl)
          drawn_over First s u same h = ap ((coding kind).render d) same
          drawn_over Second s u same h = ap ((coding kind).render d) same

          drawn_same : drawn_old ≡ drawn_new
          drawn_same =
              drawn_over m.last.holder m.lent.both n.lent.both a.last_same is_refresh
              ∙ ap (λ (h : Holder). (coding kind).render d (reference h n.lent.both)) a.holder_same

          abbrev m' : Moment
          m' = arrived m header block drawn_old tick

          abbrev n' : Moment
          n' = arrived n made_header made drawn_new tick_new

          abbrev u : Tally
          u = tally_after t (A.picture header.picture tick)

          alike-arrived : Paired u.pictures m' n'
          alike-arrived = record {
            named_old = lengths_make size m'.lent.collection m'.lent.both long_placed (kept_sized size m.last.holder drawn_old m.lent.both ((lawful.each kind).rendered_long d _) (stores_are size m.lent a.named_old));
            named_new =
                lengths_make size n'.lent.collection n'.lent.both (placed_long (place_new reads kind old_clip new has_new f))
                (kept_sized size n.last.holder drawn_new n.lent.both ((lawful.each kind).rendered_long d _) (stores_are size n.lent a.named_new));
            holder_same = ap goes_into a.holder_same;
            last_same =
                subst (λ (h : Holder). SameLast (goes_into m.last.holder) (stores_with m.last.holder drawn_old m.lent.both) (stores_with h drawn_new n.lent.both)) a.holder_same
                (same_with m.last.holder drawn_old drawn_new m.lent.both n.lent.both drawn_same);
            begun = λ h l. absurd (true≢false (sym (some_holder m.last.holder) ∙ ap any_finished h));
            few = let l = few_more in omega (arith, l);
          }

          shown_same : shown_by (finished_reply rn made_header tick_new) (stores_with n.last.holder drawn_new n.lent.both) ≡ shown_by (finished_reply r header tick) (stores_with m.last.holder drawn_old m.lent.both)
          unfolding shown_by
          shown_same =
              kept_shown size n.last.holder drawn_new n.lent.both ((lawful.each kind).rendered_long d _) (stores_are size n.lent a.named_new)
              ∙ sym drawn_same
              ∙ sym (kept_shown size m.last.holder drawn_old m.lent.both ((lawful.each kind).rendered_long d _) (stores_are size m.lent a.named_old))

          goes_finished : On → GoalBy e
          unfolding kept_numbers came_to
          goes_finished on =
              new_by (clip_at new u (answers coding (after_old e) blocks) blocks) _ _ (finished made_header d) (finished_too reads kind old_clip new has_new f last d found marked)
              (at_part (more_picture is_own tick_new _ _ shown_same
              (on u m' n' alike-arrived (waits refl (λ l. absurd (false≢true l)) (λ c h. absurd (omega (arith, h.begun)))))))

    -- ---- whatever it comes to
    none_after : (c : ℕ) (ev : Event D) → Past c (advance coding r ev).progress → one_of (kept_numbers (answers coding (after_old ev) blocks)) c ≡ false
    none_after c ev h = past_never coding (after_old ev) h blocks

    took_stands : {header : Header} {standing : Standing} → TookBy (progress_at m) header standing → is_lost standing ≡ false
    took_stands (by_next e l s) = ap is_lost s ∙ l
    took_stands (by_anew z q e s) = ap is_lost s

    lost_follows : Follows t.pictures m n (said_old lost) → Follows t.pictures (astray m) n (answers coding (old_world (astray m)) blocks)
    unfolding kept_numbers
    lost_follows (waits w l none) = waits w l (λ c h. absurd (true≢false h.stands))
    lost_follows (collects c part mw begun ml nw nl mk beg will) =
        absurd (true≢false (sym will ∙ none_after c lost (dropped (ap (λ (p : Place). p.picture) mw) (subst (λ (p : Place). 1 ≤ p.part) (sym mw) begun) refl)))

    by_event : (ev : Event D) → EventKnown coding r block m.lent ev → Follows t.pictures m n (said_old ev) → On → GoalBy ev
    unfolding kept_numbers came_to
    by_event (refusing numbers) k follows on = on t m n a (follows_skip (A.refused numbers) refl follows)
    by_event (old header) k follows on = on t m n a (follows_skip (A.old header.picture header.part) refl follows)
    by_event lost k follows on =
        on t (astray m) n
        (record { named_old = a.named_old; named_new = a.named_new; holder_same = a.holder_same; last_same = a.last_same; begun = λ h l. absurd (true≢false l); few = a.few })
        (lost_follows follows)
    by_event (failed header numbers) k follows on = on t failed_old n alike-failed (go follows)
      where
        after : m.wanted.picture ≤ header.picture
        after = took_after k.1.by

        failed_old : Moment
        failed_old = record {
          wanted = place (header.picture + 1) 0;
          standing = S.Lost;
          last = m.last;
          mark = mark_of (progress_at m) header;
          lent = record { collection = placed_payload block header.part m.lent.collection; both = m.lent.both };
        }

        alike-failed : Paired t.pictures failed_old n
        alike-failed = record {
          named_old = lengths_make size failed_old.lent.collection m.lent.both (long_placed header k.0 k.1.by k.1.judged) (stores_are size m.lent a.named_old);
          named_new = a.named_new;
          holder_same = a.holder_same;
          last_same = a.last_same;
          begun = λ h l. absurd (true≢false l);
          few = omega (arith, after, a.few);
        }

        go : Follows t.pictures m n (said_old (failed header numbers)) → Follows t.pictures failed_old n (answers coding (old_world failed_old) blocks)
        go (waits w l none) = waits w l (λ c h. absurd (true≢false h.stands))
        go (collects c part mw begun ml nw nl mk beg will) =
            let is : m.wanted.picture ≡ c = ap (λ (p : Place). p.picture) mw in
            absurd (true≢false (sym will ∙ none_after c (failed header numbers) (beyond (omega (arith, after, is)))))
    by_event (taken header standing) k follows on = go (one_of (kept_numbers (answers coding (after_old (taken header standing)) blocks)) header.picture) refl
      where
        gone : Dropped header standing k.by k.judged (said_old (taken header standing))
        gone c l = none_after c (taken header standing) (beyond l)

        go : (b : Bool) → one_of (kept_numbers (answers coding (after_old (taken header standing)) blocks)) header.picture ≡ b
            → (let clip = pick b (renewed_block new t.pictures block ∷ []) [] ++ clip_at new t (answers coding (after_old (taken header standing)) blocks) blocks in
            Finishes new t.pictures n.wanted.part (answers coding (new_world n) clip) clip (stores_shown coding (new_world n) clip)
            (stores_shown coding (after_old (taken header standing)) blocks) (length (kept_numbers (answers coding (after_old (taken header standing)) blocks))))
        go true e =
            goes_further header standing k.by k.judged (fits header standing k.by k.judged (said_old (taken header standing)) follows e gone) k.is_last e (took_stands k.by) on
        go false e =
            on t (further m header standing block) n (alike-further header standing k.by k.judged n a.named_new refl refl)
            (on_dropped header standing k.by k.judged k.is_last (said_old (taken header standing)) refl e gone follows)
    by_event (finished header d) k follows on =
        goes_finished header k.standing k.took.by k.took.judged
        (fits header k.standing k.took.by k.took.judged (said_old (finished header d)) follows (is_kept header.picture) gone) k.took.is_last d k.reads k.marked on
      where
        rest : List Said
        rest = answers coding (after_old (finished header d)) blocks

        is_kept : (c : ℕ) → either (eqb c c) (one_of (kept_numbers rest) c) ≡ true
        is_kept c = rw (eq-eqb c c refl)

        gone : Dropped header k.standing k.took.by k.took.judged (said_old (finished header d))
        gone c l =
            let other : c ≡ header.picture → ⊥ = λ e. omega (arith, e, l) in
            rw (ne_eqb c header.picture other) (none_after c (finished header d) (beyond (omega (arith, l))))

  -- ---- all blocks
  pub follow : (blocks : List (List ℕ)) (t : Tally) (m n : Moment) → Paired t.pictures m n → Follows t.pictures m n (answers coding (old_world m) blocks) → Goal t m n blocks
  unfolding answers stores_shown world_after step came_to kept_numbers
  follow [] t m n a (waits w l none) =
      record { turn = subst (λ (p : ℕ). InTurn t.pictures p []) (sym (ap (λ (p : Place). p.part) w)) all_finished; owned = tt; shows = refl; counts = refl }
  follow [] t m n a (collects c part mw begun ml nw nl mk beg will) = absurd (false≢true will)
  follow (block ∷ blocks) t m n a follows =
      by_event t m n a block blocks (decide coding (receiver_at old_clip kind m) block m.lent) (event_known coding (receiver_at old_clip kind m) block m.lent) follows (follow blocks)
