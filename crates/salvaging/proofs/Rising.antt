-- What is known of what a block comes to, and that the wanted place never falls: no place is taken twice, finished numbers rise, and a picture once dropped is never finished. Assumes nothing.
use mathlib.Core.Path.{◌≡◌, refl, sym, ap, ◌∙◌}
use mathlib.Core.Bool.{Bool, true, false, true≢false, false≢true}
use mathlib.Core.List.{List}
use Prim.Native.Nat.{ℕ, ◌≤◌, ◌<◌}
use native.Mathlib.Omega.{arith}
use borrow.Author.Tests.{eqb-true, eq-eqb, ltb-false, lt-ltb}
use lib.Dec.{eqb, ltb}
use Rattle.laws.specs.Choice.{pick, both, either, opposite, alike}
use Rattle.laws.proofs.Choice.{two_of}
use Rattle.refusals.specs.Told.{untabled, Told, accepted, refused_by, refused}
use Rattle.refusals.proofs.Told.{told_apart}
use Rattle.coding.specs.declared.Kind.{Kind}
use Rattle.coding.specs.Coding.{Coding}
use Rattle.coding.specs.Kind.{kind_size, kind_standard}
use Rattle.vault.specs.declared.Header.{Header}
use Rattle.vault.specs.Block.{judge_of}
use Rattle.vault.specs.Parts.{placed_payload}
use Rattle.vault.proofs.Judged.{Sound, judged_good, good_sound}
use Rattle.standing.specs.declared.Line.{Line}
use Rattle.standing.specs.declared.Line.TheVariants.{Earlier, Next, Anew, Otherwise}
use Rattle.standing.specs.declared.Place.{Place}
use Rattle.standing.specs.declared.Progress.{Progress}
use Rattle.standing.specs.declared.Receiver.{Receiver}
use Rattle.standing.specs.declared.Standing.{Standing}
use Rattle.standing.specs.Receive.{Event, refusing, old, taken, lost, failed, finished, Buffers, place, place_of, earlier_place, same_place, is_lost, line_of, count_of, mark_of, lent_lengths, judged_block, ended_picture, took_of, by_line, by_judgement, decide}
use Rattle.standing.specs.declared.Standing.TheVariants as S

-- ---- by which line a block is taken
pub data TookBy (p : Progress) (header : Header) (standing : Standing) : Type 0 where
  -- "Equal, and not lost: taken."
  by_next : place_of header ≡ p.wanted → is_lost p.standing ≡ false → standing ≡ p.standing → TookBy p header standing
  -- "Part 0 with refresh: collection dropped, this one begun, taken."
  by_anew : header.part ≡ 0 → header.refresh ≡ true → earlier_place (place_of header) p.wanted ≡ false → standing ≡ S.Catching → TookBy p header standing

not_so : (b : Bool) → opposite b ≡ true → b ≡ false
not_so true e = absurd (false≢true e)
not_so false e = refl

abbrev LineKnown : Progress → Header → Line → Type 0
LineKnown p header Earlier = earlier_place (place_of header) p.wanted ≡ true
LineKnown p header Next = TookBy p header p.standing
LineKnown p header Anew = TookBy p header S.Catching
LineKnown p header Otherwise = Unit {0}

line_known : (p : Progress) (header : Header) → LineKnown p header (line_of p header)
unfolding line_of
line_known p header =
    go (earlier_place (place_of header) p.wanted) (both (same_place (place_of header) p.wanted) (opposite (is_lost p.standing))) (both (eqb header.part 0) header.refresh) refl refl refl
  where
    go : (a b c : Bool) → earlier_place (place_of header) p.wanted ≡ a → both (same_place (place_of header) p.wanted) (opposite (is_lost p.standing)) ≡ b
        → both (eqb header.part 0) header.refresh ≡ c → LineKnown p header (pick a Earlier (pick b Next (pick c Anew Otherwise)))
    go true b c e f g = e
    go false true c e f g =
        let sides = two_of (same_place (place_of header) p.wanted) (opposite (is_lost p.standing)) f in
        let here = two_of (eqb header.picture p.wanted.picture) (eqb header.part p.wanted.part) sides.0 in
        by_next (λ i. place (eqb-true header.picture p.wanted.picture here.0 i) (eqb-true header.part p.wanted.part here.1 i)) (not_so (is_lost p.standing) sides.1) refl
    go false false true e f g =
        let sides = two_of (eqb header.part 0) header.refresh g in
        by_anew (eqb-true header.part 0 sides.0) sides.1 e refl
    go false false false e f g = tt

-- ---- what a block comes to
module _ {D : Type 0} (coding : Kind → Coding D) where
  -- a block that is taken: good, of this header, by a line
  pub record Took (r : Receiver) (block : List ℕ) (b : Buffers) (header : Header) (standing : Standing) (last : Bool) : Type 0 where
    pub judged : judged_block r block b ≡ accepted header
    pub by : TookBy r.progress header standing
    pub is_last : header.last ≡ last

  -- one that finishes its picture: what is collected is read, and its mark is true
  pub record Finished (r : Receiver) (block : List ℕ) (b : Buffers) (header : Header) (d : D) : Type 0 where
    pub standing : Standing
    pub took : Took r block b header standing true
    pub reads : (coding r.kind).read (placed_payload block header.part b.collection) (count_of header) ≡ accepted d
    pub marked : alike ((coding r.kind).refresh d) (mark_of r.progress header) ≡ true

  abbrev pub EventKnown : Receiver → List ℕ → Buffers → Event D → Type 0
  EventKnown r block b (refusing numbers) = Unit {0}
  EventKnown r block b (old header) = Unit {0}
  EventKnown r block b (taken header standing) = Took r block b header standing false
  EventKnown r block b lost = Unit {0}
  EventKnown r block b (failed header numbers) = (standing : Standing) × Took r block b header standing true
  EventKnown r block b (finished header d) = Finished r block b header d

  module _ (r : Receiver) (block : List ℕ) (b : Buffers) (header : Header) (judged : judged_block r block b ≡ accepted header) where
    abbrev after : List ℕ
    after = placed_payload block header.part b.collection

    ended_known : (standing : Standing) → Took r block b header standing true → (found : Told D) → (coding r.kind).read after (count_of header) ≡ found
        → EventKnown r block b (ended_picture coding r header found)
    unfolding ended_picture
    ended_known standing t (refused_by numbers) e = (standing, t)
    ended_known standing t (accepted d) e = go (alike ((coding r.kind).refresh d) (mark_of r.progress header)) refl
      where
        go : (m : Bool) → alike ((coding r.kind).refresh d) (mark_of r.progress header) ≡ m → EventKnown r block b (pick m (finished header d) (failed header (untabled 24 0)))
        go true g = record { standing = standing; took = t; reads = e; marked = g }
        go false g = (standing, t)

    took_known : (standing : Standing) → TookBy r.progress header standing → EventKnown r block b (took_of coding r header standing after)
    unfolding took_of
    took_known standing t = go header.last refl
      where
        go : (last : Bool) → header.last ≡ last → EventKnown r block b (pick last (ended_picture coding r header ((coding r.kind).read after (count_of header))) (taken header standing))
        go true e = ended_known standing (record { judged = judged; by = t; is_last = e }) ((coding r.kind).read after (count_of header)) refl
        go false e = record { judged = judged; by = t; is_last = e }

    by_line_known : (line : Line) → LineKnown r.progress header line → EventKnown r block b (by_line coding line r header block b.collection)
    unfolding by_line
    by_line_known Earlier k = tt
    by_line_known Next k = took_known r.progress.standing k
    by_line_known Anew k = took_known S.Catching k
    by_line_known Otherwise k = tt

  pub event_known : (r : Receiver) (block : List ℕ) (b : Buffers) → EventKnown r block b (decide coding r block b)
  unfolding decide by_judgement
  event_known r block b = go (judged_block r block b) refl
    where
      go : (t : Told Header) → judged_block r block b ≡ t → EventKnown r block b (by_judgement coding t r block b.collection)
      go (accepted header) e = by_line_known r block b header e (line_of r.progress header) (line_known r.progress header)
      go (refused_by numbers) e = tt

  -- of a good block: the lent buffers have their named lengths, and its header is within the rules
  pub record Good (r : Receiver) (block : List ℕ) (b : Buffers) (header : Header) : Type 0 where
    pub named : lent_lengths (kind_size r.kind) b ≡ true
    pub judged : judge_of (kind_size r.kind) (kind_standard r.kind) r.clip block ≡ accepted header
    pub clip_is : header.clip ≡ r.clip
    pub sound : Sound (kind_size r.kind) block header

  pub judged_means : (r : Receiver) (block : List ℕ) (b : Buffers) (header : Header) → judged_block r block b ≡ accepted header → Good r block b header
  unfolding judged_block
  judged_means r block b header e = go (lent_lengths (kind_size r.kind) b) refl e
    where
      go : (t : Bool) → lent_lengths (kind_size r.kind) b ≡ t → pick t (judge_of (kind_size r.kind) (kind_standard r.kind) r.clip block) (refused 1 0) ≡ accepted header → Good r block b header
      go true f g =
          let good = judged_good (kind_size r.kind) (kind_standard r.kind) r.clip block header g in
          record { named = f; judged = g; clip_is = good.1; sound = good_sound (kind_size r.kind) block header good.0 }
      go false f g = absurd (told_apart (sym g))

-- ---- places
not_first : (a b : Bool) → either a b ≡ false → a ≡ false
not_first true b e = absurd (true≢false e)
not_first false b e = refl

not_second : (a b : Bool) → either a b ≡ false → b ≡ false
not_second true b e = absurd (true≢false e)
not_second false b e = e

-- a place that isn't earlier
pub later_picture : (p part q n : ℕ) → earlier_place (place p part) (place q n) ≡ false → q ≤ p
later_picture p part q n e = ltb-false p q (not_first (ltb p q) _ e)

-- and has an earlier part: its picture is another
pub later_part : (p q n : ℕ) → earlier_place (place p 0) (place q n) ≡ false → 1 ≤ n → q < p
later_part p q n e l = go (eqb p q) refl
  where
    none : both (eqb p q) (ltb 0 n) ≡ false
    none = not_second (ltb p q) _ e

    less : q ≤ p
    less = later_picture p 0 q n e

    go : (t : Bool) → eqb p q ≡ t → q < p
    go true f = absurd (true≢false (sym (lt-ltb 0 n l) ∙ sym (ap (λ (s : Bool). both s (ltb 0 n)) f) ∙ none))
    go false f = omega (arith, less, other f)
      where
        other : eqb p q ≡ false → p ≡ q → ⊥
        other f e = absurd (true≢false (sym (eq-eqb p q e) ∙ f))

-- a block that is taken isn't before the wanted one
pub took_after : {p : Progress} {header : Header} {standing : Standing} → TookBy p header standing → p.wanted.picture ≤ header.picture
took_after {p} {header} (by_next e l s) = let same = ap (λ (q : Place). q.picture) e in omega (arith, same)
took_after {p} {header} (by_anew z r e s) = later_picture header.picture header.part p.wanted.picture p.wanted.part e

-- ---- a picture that is past, or dropped
pub data Past (n : ℕ) (p : Progress) : Type 0 where
  beyond : n < p.wanted.picture → Past n p
  dropped : p.wanted.picture ≡ n → 1 ≤ p.wanted.part → is_lost p.standing ≡ true → Past n p

pub past_took : {n : ℕ} {p : Progress} {header : Header} {standing : Standing} → Past n p → TookBy p header standing → n < header.picture
past_took (beyond l) t = let after = took_after t in omega (arith, l, after)
past_took (dropped w b l) (by_next e k s) = absurd (true≢false (sym l ∙ k))
past_took {n} {p} {header} (dropped w b l) (by_anew z r e s) =
    let begun = later_part header.picture p.wanted.picture p.wanted.part (ap (λ (k : ℕ). earlier_place (place header.picture k) p.wanted) (sym z) ∙ e) b in
    omega (arith, begun, w)
