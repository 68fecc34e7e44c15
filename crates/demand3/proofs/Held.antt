-- What holds of a receiver of the clip after any of its blocks: what it has collected is the wanted picture's, it could draw that picture, and it shows what it says.
-- Assumes nothing.
use mathlib.Core.Path.{◌≡◌, refl, sym, ap, subst, ◌∙◌}
use mathlib.Core.Bool.{Bool, true, false, false≢true, true≢false}
use mathlib.Core.Logic.{◌⊎◌, inl, inr}
use mathlib.Core.List.{List, [], ◌∷◌}
use mathlib.Core.Option.{some, some-injective}
use Prim.Native.Nat.{ℕ, ◌+◌, ◌≤◌, ◌<◌}
use native.Mathlib.Omega.{arith}
use native.Mathlib.Nat.{pos_of_ne-zero}
use borrow.Author.Tests.{eqb-true, eqb-false, ltb-false}
use lib.Dec.{eqb, ltb}
use lib.ListN.{length, get_elem?}
use Rattle.laws.specs.Choice.{pick, both, either, opposite}
use Rattle.laws.proofs.Choice.{two_of, both_true}
use Rattle.coding.specs.declared.Kind.{Kind}
use Rattle.size.specs.Size.{store_length}
use Rattle.vault.specs.declared.Header.{Header}
use Rattle.vault.specs.Parts.{part_count, placed_payload}
use Rattle.vault.specs.Collected.{Collected}
use Rattle.vault.proofs.Collected.{collected_none}
use Rattle.ticks.specs.declared.Tick.{Tick}
use Rattle.standing.specs.Stores.{goes_into, reference, stores_with, shown_store}
use Rattle.standing.specs.declared.Standing.{Standing}
use Rattle.standing.specs.declared.Line.TheVariants.{Earlier, Next, Anew, Otherwise}
use Rattle.coding.specs.Coding.{Coding}
use Rattle.coding.specs.Kind.{kind_size, AllLawful}
use Rattle.standing.specs.Receive.{place, last_in, earlier_place, same_place, is_lost, line_of, lent_lengths, Outcome, step}
use Rattle.standing.specs.Shown.{where_shown}
use Rattle.standing.specs.Answered.{Said}
use Rattle.standing.specs.Run.{World}
use Rattle.coding.specs.Described.{bytes_in}
use Rattle.demand3.specs.Clip.{Picture, PartOf, after_block, world_given, Shows}
use Rattle.demand3.proofs.Finished.{kept_reference, kept_sized, kept_shown, none_shown}
use Rattle.demand3.proofs.Sent.{Whole, Part}
use Rattle.demand3.proofs.Step.{Moment, progress_at, world_at, marked, astray, further, arrived, bits_of, refresh_of, tick_of, header_of, Block, stores_are, lengths_make, Comes, Finishing, after_long, comes_old, old_answers, comes_lost, lost_answers, Takes, takes_next, takes_anew, comes_further, further_answers, collected_part, comes_arrived}
use Rattle.standing.specs.declared.Standing.TheVariants as T
use Rattle.standing.specs.Answered as A

-- what is known of the pictures that were sent
pub record Sound {D : Type 0} (coding : Kind → Coding D) (clip : ℕ) (kind : Kind) (sent : List (Picture D)) : Type 0 where
  pub clip_is : 1 ≤ clip
  pub whole : (p : ℕ) (x : Picture D) → get_elem? sent p ≡ some x → Whole coding clip kind p x
  pub drawn : (p : ℕ) (x : Picture D) → get_elem? sent p ≡ some x → (under : List ℕ) × (x.store ≡ (coding kind).render x.description under)
  pub onward : (p : ℕ) (x y : Picture D) → get_elem? sent p ≡ some x → get_elem? sent (p + 1) ≡ some y → y.store ≡ (coding kind).render y.description x.store

-- ---- the mark of part 0

mark_is : (part : ℕ) (refresh mine : Bool) → (0 < part → mine ≡ refresh) → pick (eqb part 0) (both refresh (eqb part 0)) mine ≡ refresh
mark_is part refresh mine h = go (eqb part 0) refl
  where
    go : (t : Bool) → eqb part 0 ≡ t → pick t (both refresh t) mine ≡ refresh
    go true e = both_true refresh
    go false e = h (pos_of_ne-zero (eqb-false part 0 e))

pub not_lost : (b : Bool) → opposite b ≡ true → b ≡ false
not_lost true e = absurd (false≢true e)
not_lost false e = refl

-- ---- lost and catching are not in step
pub lost_in_step : (k : ℕ) → T.Lost ≡ T.InStep k → ⊥
lost_in_step k e = let z : ◌≡◌ {A = ℕ} 0 1 = cc in omega arith

pub catching_in_step : (k : ℕ) → T.Catching ≡ T.InStep k → ⊥
catching_in_step k e = let z : ◌≡◌ {A = ℕ} 0 1 = cc in omega arith

pub not-either : (a b : Bool) → either a b ≡ false → a ≡ false
not-either true b e = absurd (true≢false e)
not-either false b e = refl

-- whether a picture is finished
abbrev pub is_picture : Said → Bool
is_picture (A.old p part) = false
is_picture (A.taken p part) = false
is_picture A.lost = false
is_picture (A.picture p tick) = true
is_picture (A.refused numbers) = false

module _ {D : Type 0} {coding : Kind → Coding D} (lawful : AllLawful coding) {clip : ℕ} {kind : Kind} {sent : List (Picture D)} (sound : Sound coding clip kind sent) where
  -- ---- what holds
  -- of what is collected, and of the store under the wanted picture
  pub record Collecting (m : Moment) : Type 0 where
    pub bytes : (x : Picture D) → get_elem? sent m.wanted.picture ≡ some x → Collected (bytes_in (bits_of coding kind x)) (length (bits_of coding kind x)) m.wanted.part m.lent.collection
    pub marks : (x : Picture D) → get_elem? sent m.wanted.picture ≡ some x → 0 < m.wanted.part → m.mark ≡ refresh_of coding kind x
    pub draws : (x : Picture D) → get_elem? sent m.wanted.picture ≡ some x → (coding kind).render x.description (reference m.last.holder m.lent.both) ≡ x.store

  pub record Held (m : Moment) : Type 0 where
    pub named : lent_lengths (kind_size kind) m.lent ≡ true
    pub collecting : is_lost m.standing ≡ false → Collecting m
    pub shows : Shows sent m.standing (shown_store (kind_size kind) (where_shown m.standing m.last.holder) m.lent.both)

  -- ---- a part of a picture is a block of the clip
  pub block_of : {p part : ℕ} {block : List ℕ} (h : PartOf sent p part block) → Block coding kind h.picture clip p part block
  block_of {p} {part} {block} h =
      let w : Whole coding clip kind p h.picture = sound.whole p h.picture h.at in
      let c = w.parts part block h.has in
      record { part_is = record { clip_is = sound.clip_is; picture_is = w.number; count_is = w.within; part_is = c.0 }; is = c.1 }

  pub held_astray : (m : Moment) → Held m → Held (astray m)
  held_astray m h = record { named = h.named; collecting = λ e. absurd (true≢false e); shows = none_shown (kind_size kind) m.lent.both }

  module _ {p part : ℕ} {block : List ℕ} (h : PartOf sent p part block) (m : Moment) (held : Held m) where
    abbrev x : Picture D
    x = h.picture

    abbrev header : Header
    header = header_of coding kind x clip p part

    -- what a block that is taken finds
    pub record Fits : Type 0 where
      pub collected : Collected (bytes_in (bits_of coding kind x)) (length (bits_of coding kind x)) part m.lent.collection
      pub true_mark : marked m header ≡ refresh_of coding kind x
      pub draws : (coding kind).render x.description (reference m.last.holder m.lent.both) ≡ x.store

    valid : (coding kind).valid x.description ≡ true
    valid = (sound.whole p x h.at).valid

    -- another picture of the same number is this one
    one_picture : (P : Picture D → Type 0) → P x → (y : Picture D) → get_elem? sent p ≡ some y → P y
    one_picture P z y e = subst P (some-injective x y (sym h.at ∙ e)) z

    pub held_further : (standing : Standing) → Fits → Shows sent standing (shown_store (kind_size kind) (where_shown standing m.last.holder) m.lent.both) → Held (further m header standing block)
    held_further standing fits shows = record {
      named = lengths_make (kind_size kind) (placed_payload block part m.lent.collection) m.lent.both (after_long lawful clip kind (block_of h) m held.named) (stores_are (kind_size kind) m.lent held.named);
      collecting = λ _. record {
        bytes = one_picture (λ (y : Picture D). Collected (bytes_in (bits_of coding kind y)) (length (bits_of coding kind y)) (part + 1) (placed_payload block part m.lent.collection)) (collected_part lawful clip kind (block_of h) m held.named fits.collected);
        marks = λ y e _. one_picture (λ (y : Picture D). marked m header ≡ refresh_of coding kind y) fits.true_mark y e;
        draws = one_picture (λ (y : Picture D). (coding kind).render y.description (reference m.last.holder m.lent.both) ≡ y.store) fits.draws;
      };
      shows = shows;
    }

    pub held_arrived : Fits → (store : List ℕ) (tick : Tick) → store ≡ x.store → length store ≡ store_length (kind_size kind) → Held (arrived m header block store tick)
    held_arrived fits store tick is long = record {
      named =
          lengths_make (kind_size kind) (placed_payload block part m.lent.collection) (stores_with m.last.holder store m.lent.both) (after_long lawful clip kind (block_of h) m held.named)
          (kept_sized (kind_size kind) m.last.holder store m.lent.both long (stores_are (kind_size kind) m.lent held.named));
      collecting = λ _. record {
        bytes = λ y e. collected_none (bytes_in (bits_of coding kind y)) (length (bits_of coding kind y)) _;
        marks = λ y e l. absurd (omega (arith, l));
        draws = λ y e.
            ap ((coding kind).render y.description) (kept_reference m.last.holder store m.lent.both ∙ is) ∙ sym (sound.onward p x y h.at e);
      };
      shows = (x, h.at, kept_shown (kind_size kind) m.last.holder store m.lent.both long (stores_are (kind_size kind) m.lent held.named) ∙ is);
    }

    -- the block that is wanted
    pub fits_next : is_lost m.standing ≡ false → p ≡ m.wanted.picture → part ≡ m.wanted.part → Fits
    fits_next e k q =
        let c : Collecting m = held.collecting e in
        let at : get_elem? sent m.wanted.picture ≡ some x = ap (get_elem? sent) (sym k) ∙ h.at in
        record {
          collected = subst (λ (n : ℕ). Collected (bytes_in (bits_of coding kind x)) (length (bits_of coding kind x)) n m.lent.collection) (sym q) (c.bytes x at);
          true_mark = mark_is part (refresh_of coding kind x) m.mark (λ l. c.marks x at (subst (λ (n : ℕ). 0 < n) q l));
          draws = c.draws x at;
        }

    -- part 0 of a refresh
    pub fits_anew : part ≡ 0 → refresh_of coding kind x ≡ true → Fits
    fits_anew z e =
        let under = sound.drawn p x h.at in
        record {
          collected =
              subst (λ (n : ℕ). Collected (bytes_in (bits_of coding kind x)) (length (bits_of coding kind x)) n m.lent.collection) (sym z)
              (collected_none (bytes_in (bits_of coding kind x)) (length (bits_of coding kind x)) m.lent.collection);
          true_mark = mark_is part (refresh_of coding kind x) m.mark (λ l. absurd (omega (arith, z, l)));
          draws = (lawful.each kind).anew x.description (reference m.last.holder m.lent.both) under.0 valid e ∙ sym under.1;
        }

    -- ---- a block that is taken
    abbrev store : List ℕ
    store = (coding kind).render x.description (reference m.last.holder m.lent.both)

    abbrev tick : Tick
    tick = tick_of coding kind x m.last p

    pub goes_further : (standing : Standing) → Takes lawful clip kind (block_of h) m held.named standing → eqb (part + 1) (part_count (length (bits_of coding kind x))) ≡ false
        → Comes lawful clip kind m block (further m header standing block)
    goes_further standing t e = comes_further lawful clip kind (block_of h) m held.named standing t e

    pub goes_answers : (standing : Standing) (t : Takes lawful clip kind (block_of h) m held.named standing) (e : eqb (part + 1) (part_count (length (bits_of coding kind x))) ≡ false)
        → (goes_further standing t e).answer ≡ A.taken p part
    unfolding goes_further
    goes_answers standing t e = further_answers lawful clip kind (block_of h) m held.named standing t e

    pub goes_arrived : (standing : Standing) → Takes lawful clip kind (block_of h) m held.named standing → Fits → eqb (part + 1) (part_count (length (bits_of coding kind x))) ≡ true
        → Finishing lawful clip kind p tick m block (arrived m header block store tick)
    goes_arrived standing t fits e =
        comes_arrived lawful clip kind (block_of h) m held.named valid fits.collected e standing t fits.true_mark

    pub held_drawn : Fits → Held (arrived m header block store tick)
    held_drawn fits = held_arrived fits store tick fits.draws ((lawful.each kind).rendered_long x.description _)

  -- ---- any block
  -- what only a finished picture changes stays as it was; or this block finished its picture, which isn't before the wanted one
  pub data Moves (p : ℕ) (m : Moment) (answer : Said) (next : Moment) : Type 0 where
    stays : (said : Said) → answer ≡ said → is_picture said ≡ false → next.last ≡ m.last → m.wanted.picture ≤ next.wanted.picture → Moves p m answer next
    finishes : (x : Picture D) → get_elem? sent p ≡ some x → m.wanted.picture ≤ p → answer ≡ A.picture p (tick_of coding kind x m.last p)
        → next.last ≡ last_in (goes_into m.last.holder) p (tick_of coding kind x m.last p) → next.wanted.picture ≡ p + 1 → Moves p m answer next

  -- the receiver goes on to another moment, of which the same holds. What it wants then is what it wanted, or the place after this one; and it is in step only where it was, or where this was its picture's last part
  pub record Goes (p part : ℕ) (m : Moment) (block : List ℕ) : Type 0 where
    pub next : Moment
    pub comes : Comes lawful clip kind m block next
    pub held : Held next
    pub wants : (next.wanted ≡ m.wanted) ⊎ ((next.wanted ≡ place p (part + 1)) ⊎ (next.wanted ≡ place (p + 1) 0))
    pub moves : Moves p m comes.answer next
    pub steps : (k : ℕ) → next.standing ≡ T.InStep k → (m.standing ≡ T.InStep k) ⊎ ((x : Picture D) → get_elem? sent p ≡ some x → part + 1 ≡ part_count (length (bits_of coding kind x)))

  module _ {p part : ℕ} {block : List ℕ} (h : PartOf sent p part block) (m : Moment) (held : Held m) where
    pub line_of_lem : (a b c : Bool) → earlier_place (place p part) m.wanted ≡ a → both (same_place (place p part) m.wanted) (opposite (is_lost m.standing)) ≡ b
        → both (eqb part 0) (both (refresh_of coding kind h.picture) (eqb part 0)) ≡ c
        → line_of (progress_at m) (header_of coding kind h.picture clip p part) ≡ pick a Earlier (pick b Next (pick c Anew Otherwise))
    unfolding line_of
    line_of_lem a b c ea eb ec = λ i. pick (ea i) Earlier (pick (eb i) Next (pick (ec i) Anew Otherwise))

    -- it isn't before the wanted picture
    taken_on : m.wanted.picture ≤ p → (standing : Standing) → Takes lawful clip kind (block_of h) m held.named standing → Fits h m held
        → Shows sent standing (shown_store (kind_size kind) (where_shown standing m.last.holder) m.lent.both) → ((k : ℕ) → standing ≡ T.InStep k → m.standing ≡ T.InStep k) → Goes p part m block
    taken_on from standing t fits shows was = go (eqb (part + 1) (part_count (length (bits_of coding kind h.picture)))) refl
      where
        go : (last : Bool) → eqb (part + 1) (part_count (length (bits_of coding kind h.picture))) ≡ last → Goes p part m block
        go true e = record { next = _; comes = (goes_arrived h m held standing t fits e).comes; held = held_drawn h m held fits; wants = inr (inr refl); moves = finishes h.picture h.at from (goes_arrived h m held standing t fits e).answers refl refl; steps = λ k s. inr (one_picture h m held (λ (y : Picture D). part + 1 ≡ part_count (length (bits_of coding kind y))) (eqb-true (part + 1) (part_count (length (bits_of coding kind h.picture))) e)) }
        go false e = record { next = _; comes = goes_further h m held standing t e; held = held_further h m held standing fits shows; wants = inr (inl refl); moves = stays (A.taken p part) (goes_answers h m held standing t e) refl refl from; steps = λ k s. inl (was k s) }

    on_next : line_of (progress_at m) (header_of coding kind h.picture clip p part) ≡ Next → both (same_place (place p part) m.wanted) (opposite (is_lost m.standing)) ≡ true → Goes p part m block
    on_next q e =
        let sides = two_of (same_place (place p part) m.wanted) _ e in
        let here = two_of (eqb p m.wanted.picture) _ sides.0 in
        let at : p ≡ m.wanted.picture = eqb-true p m.wanted.picture here.0 in
        taken_on (omega arith) m.standing (takes_next lawful clip kind (block_of h) m held.named q)
        (fits_next h m held (not_lost (is_lost m.standing) sides.1) at (eqb-true part m.wanted.part here.1))
        held.shows (λ k s. s)

    on_anew : earlier_place (place p part) m.wanted ≡ false → line_of (progress_at m) (header_of coding kind h.picture clip p part) ≡ Anew → both (eqb part 0) (both (refresh_of coding kind h.picture) (eqb part 0)) ≡ true → Goes p part m block
    on_anew late q e =
        let sides = two_of (eqb part 0) _ e in
        taken_on (ltb-false p m.wanted.picture (not-either (ltb p m.wanted.picture) _ late)) T.Catching (takes_anew lawful clip kind (block_of h) m held.named q)
        (fits_anew h m held (eqb-true part 0 sides.0) (two_of (refresh_of coding kind h.picture) _ sides.1).0)
        (none_shown (kind_size kind) m.lent.both) (λ k s. absurd (catching_in_step k s))

    -- whatever line it matches, what holds goes on to hold
    pub step_held : Goes p part m block
    step_held = go _ _ _ refl refl refl
      where
        go : (a b c : Bool) → earlier_place (place p part) m.wanted ≡ a → both (same_place (place p part) m.wanted) (opposite (is_lost m.standing)) ≡ b
            → both (eqb part 0) (both (refresh_of coding kind h.picture) (eqb part 0)) ≡ c → Goes p part m block
        go true b c ea eb ec = record { next = m; comes = comes_old lawful clip kind (block_of h) m held.named (line_of_lem true b c ea eb ec); held = held; wants = inl refl; moves = stays (A.old p part) (old_answers lawful clip kind (block_of h) m held.named (line_of_lem true b c ea eb ec)) refl refl (omega arith); steps = λ k s. inl s }
        go false true c ea eb ec = on_next (line_of_lem false true c ea eb ec) eb
        go false false true ea eb ec = on_anew ea (line_of_lem false false true ea eb ec) ec
        go false false false ea eb ec =
            record { next = astray m; comes = comes_lost lawful clip kind (block_of h) m held.named (line_of_lem false false false ea eb ec); held = held_astray m held; wants = inl refl; moves = stays A.lost (lost_answers lawful clip kind (block_of h) m held.named (line_of_lem false false false ea eb ec)) refl refl (omega arith); steps = λ k s. absurd (lost_in_step k s) }

  -- ---- any list of blocks
  abbrev pub Parts : List (List ℕ) → Type 0
  Parts [] = Unit {0}
  Parts (block ∷ blocks) = Part coding sent block × Parts blocks

  pub after_comes : (m : Moment) (block : List ℕ) (n : Moment) → Comes lawful clip kind m block n → after_block (step coding) (world_at clip kind m) block ≡ world_at clip kind n
  after_comes m block n c = ap (λ (x : Outcome). record { receiver = x.gave.next; lent = x.left }) c.is

  pub record Runs (m : Moment) (blocks : List (List ℕ)) : Type 0 where
    pub last : Moment
    pub is : world_given (step coding) (world_at clip kind m) blocks ≡ world_at clip kind last
    pub held : Held last

  pub run_held : (m : Moment) → Held m → (blocks : List (List ℕ)) → Parts blocks → Runs m blocks
  unfolding world_given
  run_held m h [] t = record { last = m; is = refl; held = h }
  run_held m h (block ∷ blocks) t =
      let g : Goes t.0.p t.0.part m block = step_held t.0.is m h in
      let rest : Runs g.next blocks = run_held g.next g.held blocks t.1 in
      record { last = rest.last; is = ap (λ (w : World). world_given (step coding) w blocks) (after_comes m block g.next g.comes) ∙ rest.is; held = rest.held }
