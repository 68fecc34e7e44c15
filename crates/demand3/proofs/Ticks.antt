-- The ticks of a fresh receiver, whatever blocks come: each has its picture's TR, they rise, and they are exact while no number is skipped. Assumes nothing.
use mathlib.Core.Path.{◌≡◌, refl, sym, ap, subst, ◌∙◌}
use mathlib.Core.Bool.{Bool, true, false, true≢false, false≢true}
use mathlib.Core.List.{List, [], ◌∷◌}
use Prim.Native.Nat.{ℕ, ◌+◌, ◌*◌, ◌%◌, ◌≤◌, ◌<◌}
use native.Mathlib.Nat.{mod-eq_of_lt, mul-le-mul_left, mul-le-mul_right}
use native.Mathlib.Omega.{arith}
use borrow.Author.Tests.{eq-eqb, ltb-false}
use lib.Dec.{eqb, ltb}
use Rattle.laws.specs.Choice.{pick, both, opposite, alike}
use Rattle.refusals.specs.Told.{untabled, Told, accepted, refused_by, refused}
use Rattle.refusals.proofs.Told.{told_apart}
use Rattle.coding.specs.declared.Kind.{Kind}
use Rattle.coding.specs.Coding.{Coding}
use Rattle.coding.specs.Kind.{kind_size, kind_standard, AllLawful}
use Rattle.vault.specs.declared.Header.{Header}
use Rattle.vault.specs.Block.{pictures, judge_of}
use Rattle.vault.proofs.Judged.{judged_good, good_sound}
use Rattle.ticks.specs.declared.Tick.{Tick}
use Rattle.ticks.specs.Tick.{tick_number, is_exact, tick_above, greatest_tick, first_tick, later_tick}
use Rattle.ticks.proofs.TickLaws.{tick_is_least, as_number, as_exact, later_number, later_exact, cut_same, above_most}
use Rattle.standing.specs.declared.Last.{Last}
use Rattle.standing.specs.declared.Line.{Line}
use Rattle.standing.specs.declared.Line.TheVariants.{Earlier, Next, Anew, Otherwise}
use Rattle.standing.specs.declared.Progress.{Progress}
use Rattle.standing.specs.declared.Receiver.{Receiver}
use Rattle.standing.specs.declared.Standing.{Standing}
use Rattle.standing.specs.Stores.{any_finished, goes_into}
use Rattle.standing.specs.Receive.{Event, refusing, old, taken, lost, failed, finished, Buffers, place_of, earlier_place, same_place, is_lost, line_of, count_of, mark_of, fresh_receiver, lent_lengths, judged_block, ended_picture, took_of, by_line, by_judgement, decide, tick_in, finished_tick, advance, answer_of, collection_after, stored_by, came_to, step}
use Rattle.standing.specs.Run.{World, world_after, run, answers}
use Rattle.demand3.specs.Clip.{Fresh, begin}
use Rattle.demand3.specs.Ticks.{HasTr, EachHasTr, RiseFrom, TicksRise, NoneSkipped, EachExact, ExactFromTheFirst}
use Rattle.demand3.proofs.Held.{not-either}
use Rattle.demand3.proofs.InStep.{receiver_opened}
use Rattle.standing.specs.declared.Holder.{Holder}
use Rattle.standing.specs.declared.Holder.TheVariants as H
use Rattle.standing.specs.declared.Standing.TheVariants as S

-- ---- numbers
-- a tick below the modulus times the picture's number and one more: so is the next
below_next : (m j p last : ℕ) → last < m * (j + 1) → j < p → last + m < m * (p + 1)
below_next m j p last l less =
    let fewer : m * (j + 1) ≤ m * p = mul-le-mul_left m (omega arith) in
    omega arith

-- and it is none that would be cut
pub below_greatest : (m p : ℕ) → m ≤ 256 → p < pictures → m * (p + 1) ≤ greatest_tick
below_greatest m p l less =
    let most : m * (p + 1) ≤ 256 * (p + 1) = mul-le-mul_right (p + 1) l in
    omega arith

-- ---- a block that isn't old: its picture isn't before the wanted one
is_earlier : Line → Bool
is_earlier Earlier = true
is_earlier Next = false
is_earlier Anew = false
is_earlier Otherwise = false

not_before : (p : Progress) (header : Header) (line : Line) → line_of p header ≡ line → is_earlier line ≡ false → p.wanted.picture ≤ header.picture
unfolding line_of is_earlier
not_before p header line e n = go (earlier_place (place_of header) p.wanted) refl e
  where
    other : Line
    other = pick (both (same_place (place_of header) p.wanted) (opposite (is_lost p.standing))) Next (pick (both (eqb header.part 0) header.refresh) Anew Otherwise)

    go : (b : Bool) → earlier_place (place_of header) p.wanted ≡ b → pick b Earlier other ≡ line → p.wanted.picture ≤ header.picture
    go true h g = absurd (true≢false (ap is_earlier g ∙ n))
    go false h g = ltb-false header.picture p.wanted.picture (not-either (ltb header.picture p.wanted.picture) _ h)

-- a receiver, with what it is lent, once a block has come to this
abbrev next_world : {D : Type 0} → (Kind → Coding D) → World → List ℕ → Event D → World
next_world coding w block e = record {
  receiver = advance coding w.receiver e;
  lent = record { collection = collection_after block w.lent.collection e; both = stored_by coding w.receiver w.lent.both e };
}

module _ {D : Type 0} {coding : Kind → Coding D} (lawful : AllLawful coding) where
  -- ---- what is known of what a block comes to
  abbrev NotBefore : Receiver → Header → Type 0
  NotBefore r header = r.progress.wanted.picture ≤ header.picture

  abbrev Known : Receiver → Event D → Type 0
  Known r (refusing numbers) = Unit {0}
  Known r (old header) = Unit {0}
  Known r (taken header standing) = NotBefore r header
  Known r lost = Unit {0}
  Known r (failed header numbers) = NotBefore r header
  Known r (finished header d) = NotBefore r header × (header.picture < pictures) × ((coding r.kind).valid d ≡ true)

  module _ (r : Receiver) (header : Header) (few : header.picture < pictures) where
    ended_known : NotBefore r header → (bytes : List ℕ) (n : ℕ) (found : Told D) → (coding r.kind).read bytes n ≡ found → Known r (ended_picture coding r header found)
    unfolding ended_picture
    ended_known l bytes n (refused_by numbers) e = l
    ended_known l bytes n (accepted d) e = go (alike ((coding r.kind).refresh d) (mark_of r.progress header))
      where
        go : (b : Bool) → Known r (pick b (finished header d) (failed header (untabled 24 0)))
        go true = (l, few, (lawful.each r.kind).reads_valid bytes n d e)
        go false = l

    took_known : NotBefore r header → (standing : Standing) (collection : List ℕ) → Known r (took_of coding r header standing collection)
    unfolding took_of
    took_known l standing collection = go header.last
      where
        go : (b : Bool) → Known r (pick b (ended_picture coding r header ((coding r.kind).read collection (count_of header))) (taken header standing))
        go true = ended_known l collection (count_of header) ((coding r.kind).read collection (count_of header)) refl
        go false = l

    line_known : (line : Line) → line_of r.progress header ≡ line → (block collection : List ℕ) → Known r (by_line coding line r header block collection)
    unfolding by_line is_earlier
    line_known Earlier e block collection = tt
    line_known Next e block collection = took_known (not_before r.progress header Next e refl) r.progress.standing _
    line_known Anew e block collection = took_known (not_before r.progress header Anew e refl) S.Catching _
    line_known Otherwise e block collection = tt

  known : (r : Receiver) (block : List ℕ) (b : Buffers) → Known r (decide coding r block b)
  unfolding decide by_judgement judged_block
  known r block b = go (judged_block r block b) refl
    where
      few : (header : Header) → judged_block r block b ≡ accepted header → header.picture < pictures
      few header e = by (lent_lengths (kind_size r.kind) b) e
        where
          by : (t : Bool) → pick t (judge_of (kind_size r.kind) (kind_standard r.kind) r.clip block) (refused 1 0) ≡ accepted header → header.picture < pictures
          by true g = (good_sound (kind_size r.kind) block header (judged_good (kind_size r.kind) (kind_standard r.kind) r.clip block header g).0).picture_is
          by false g = absurd (told_apart (sym g))

      go : (t : Told Header) → judged_block r block b ≡ t → Known r (by_judgement coding t r block b.collection)
      go (accepted header) e = line_known r header (few header e) (line_of r.progress header) refl block b.collection
      go (refused_by numbers) e = tt

  -- ---- what holds of a receiver since its opening
  record Sane (r : Receiver) : Type 0 where
    before_wanted : any_finished r.last.holder ≡ true → r.last.picture < r.progress.wanted.picture
    tick_below : any_finished r.last.holder ≡ true → tick_number r.last.tick < (coding r.kind).modulus * (r.last.picture + 1)

  -- and of a picture that it finishes
  record Ticking (r : Receiver) (header : Header) (d : D) : Type 0 where
    has_tr : tick_number (finished_tick coding r header d) % (coding r.kind).modulus ≡ (coding r.kind).tr d
    below : tick_number (finished_tick coding r header d) < (coding r.kind).modulus * (header.picture + 1)
    rises : any_finished r.last.holder ≡ true → tick_number r.last.tick < tick_number (finished_tick coding r header d)

  module _ (r : Receiver) (header : Header) (d : D) (s : Sane r) (k : Known r (finished header d)) where
    abbrev modulus : ℕ
    modulus = (coding r.kind).modulus

    abbrev tr : ℕ
    tr = (coding r.kind).tr d

    abbrev first : Tick
    first = first_tick header.picture tr

    abbrev later : Tick
    later = later_tick modulus r.last.picture r.last.tick header.picture tr

    abbrev above : ℕ
    above = tick_above modulus (tick_number r.last.tick) tr

    small : tr < modulus
    small = (lawful.each r.kind).tr_below d k.2

    some : 1 ≤ modulus
    some = (lawful.each r.kind).modulus_some

    above_below : any_finished r.last.holder ≡ true → above < modulus * (header.picture + 1)
    above_below f =
        let less : r.last.picture < header.picture = omega (arith, s.before_wanted f, k.0) in
        let next : tick_number r.last.tick + modulus < modulus * (header.picture + 1) = below_next modulus r.last.picture header.picture (tick_number r.last.tick) (s.tick_below f) less in
        omega (arith, above_most modulus (tick_number r.last.tick) tr some)

    later_is : any_finished r.last.holder ≡ true → tick_number later ≡ above
    later_is f =
        later_number modulus r.last.picture r.last.tick header.picture tr
        ∙ cut_same above (omega (arith, above_below f, below_greatest modulus header.picture (lawful.each r.kind).modulus_most k.1))

    ticking : Ticking r header d
    unfolding tick_in
    ticking = go (any_finished r.last.holder) refl
      where
        go : (b : Bool) → any_finished r.last.holder ≡ b → Ticking r header d
        go false f =
            let is : tick_number (finished_tick coding r header d) ≡ tr = ap (λ (t : Bool). tick_number (pick t later first)) f ∙ as_number (eqb header.picture 0) tr in
            record { has_tr = ap (λ (n : ℕ). n % modulus) is ∙ mod-eq_of_lt small; below = omega (arith, is, small); rises = λ t. absurd (true≢false (sym t ∙ f)) }
        go true f =
            let is : tick_number (finished_tick coding r header d) ≡ above = ap (λ (t : Bool). tick_number (pick t later first)) f ∙ later_is f in
            let least = tick_is_least modulus (tick_number r.last.tick) tr some in
            record {
              has_tr = ap (λ (n : ℕ). n % modulus) is ∙ least.has_tr ∙ mod-eq_of_lt small;
              below = omega (arith, is, above_below f);
              rises = λ _. omega (arith, is, least.above);
            }

  -- ---- it goes on to hold
  sane_next : (r : Receiver) (e : Event D) → Known r e → Sane r → Sane (advance coding r e)
  sane_next r (refusing numbers) k s = s
  sane_next r (old header) k s = s
  sane_next r (taken header standing) k s = record { before_wanted = λ f. omega (arith, s.before_wanted f, k); tick_below = s.tick_below }
  sane_next r lost k s = record { before_wanted = s.before_wanted; tick_below = s.tick_below }
  sane_next r (failed header numbers) k s = record { before_wanted = λ f. omega (arith, s.before_wanted f, k); tick_below = s.tick_below }
  sane_next r (finished header d) k s = record { before_wanted = λ _. omega arith; tick_below = λ _. (ticking r header d s k).below }

  sane_after : (w : World) (block : List ℕ) → Sane w.receiver → Sane (world_after coding w block).receiver
  unfolding world_after step came_to
  sane_after w block s = sane_next w.receiver (decide coding w.receiver block w.lent) (known w.receiver block w.lent) s

  sane_run : (w : World) → Sane w.receiver → (blocks : List (List ℕ)) → Sane (run coding w blocks).receiver
  unfolding run
  sane_run w s [] = s
  sane_run w s (block ∷ blocks) = sane_run (world_after coding w block) (sane_after w block s) blocks

  sane_fresh : (number : ℕ) (kind : Kind) → Sane (fresh_receiver number kind)
  sane_fresh number kind = record { before_wanted = λ f. absurd (false≢true f); tick_below = λ f. absurd (false≢true f) }

  sane_begin : {number : ℕ} {kind : Kind} (r : Fresh number kind) → Sane r.receiver
  sane_begin {number} {kind} r = subst Sane (receiver_opened number kind r.receiver r.is_open) (sane_fresh number kind)

  -- ---- the kind stays
  kind_next : (r : Receiver) (e : Event D) → (advance coding r e).kind ≡ r.kind
  kind_next r (refusing numbers) = refl
  kind_next r (old header) = refl
  kind_next r (taken header standing) = refl
  kind_next r lost = refl
  kind_next r (failed header numbers) = refl
  kind_next r (finished header d) = refl

  kind_run : (w : World) (blocks : List (List ℕ)) → (run coding w blocks).receiver.kind ≡ w.receiver.kind
  unfolding run world_after step came_to
  kind_run w [] = refl
  kind_run w (block ∷ blocks) = kind_run (world_after coding w block) blocks ∙ kind_next w.receiver (decide coding w.receiver block w.lent)

  kind_begin : {number : ℕ} {kind : Kind} (r : Fresh number kind) → r.receiver.kind ≡ kind
  kind_begin {number} {kind} r = sym (ap (λ (x : Receiver). x.kind) (receiver_opened number kind r.receiver r.is_open))

  -- ---- each has its TR
  finishing : (w : World) → Sane w.receiver → (block : List ℕ) (header : Header) (d : D) → decide coding w.receiver block w.lent ≡ finished header d
      → HasTr coding w block header.picture ((coding w.receiver.kind).tr d) (coding w.receiver.kind).modulus
  unfolding step came_to
  finishing w s block header d e = record {
    tick = finished_tick coding w.receiver header d;
    answers = ap (λ (x : Event D). answer_of coding w.receiver x) e;
    has_tr = (ticking w.receiver header d s (subst (Known w.receiver) e (known w.receiver block w.lent))).has_tr;
  }

  -- ---- they rise
  -- what they rise from: above the last one, or 0
  record Above (least : ℕ) (r : Receiver) : Type 0 where
    above_last : any_finished r.last.holder ≡ true → least ≤ tick_number r.last.tick + 1
    at_first : any_finished r.last.holder ≡ false → least ≡ 0

  above_next : (r : Receiver) (header : Header) (d : D) → Above (tick_number (finished_tick coding r header d) + 1) (advance coding r (finished header d))
  above_next r header d = go r.last.holder
    where
      go : (h : Holder) → Above (tick_number (finished_tick coding r header d) + 1) (record { clip = r.clip; kind = r.kind; progress = (advance coding r (finished header d)).progress; last = record { holder = goes_into h; picture = header.picture; tick = finished_tick coding r header d } })
      go H.Neither = record { above_last = λ _. omega arith; at_first = λ f. absurd (true≢false f) }
      go H.First = record { above_last = λ _. omega arith; at_first = λ f. absurd (true≢false f) }
      go H.Second = record { above_last = λ _. omega arith; at_first = λ f. absurd (true≢false f) }

  from_least : (least : ℕ) (r : Receiver) (header : Header) (d : D) → Above least r → Ticking r header d → least ≤ tick_number (finished_tick coding r header d)
  from_least least r header d a t = go (any_finished r.last.holder) refl
    where
      go : (b : Bool) → any_finished r.last.holder ≡ b → least ≤ tick_number (finished_tick coding r header d)
      go true f = omega (arith, a.above_last f, t.rises f)
      go false f = omega (arith, a.at_first f)

  rise : (w : World) → Sane w.receiver → (least : ℕ) → Above least w.receiver → (blocks : List (List ℕ)) → RiseFrom least (answers coding w blocks)
  unfolding answers world_after step came_to
  rise w s least a [] = tt
  rise w s least a (block ∷ blocks) =
      go (decide coding w.receiver block w.lent) (known w.receiver block w.lent) (λ next t from b. rise next t from b blocks)
    where
      go : (e : Event D) → Known w.receiver e → ((v : World) → Sane v.receiver → (from : ℕ) → Above from v.receiver → RiseFrom from (answers coding v blocks))
          → RiseFrom least (answer_of coding w.receiver e ∷ answers coding (next_world coding w block e) blocks)
      go (refusing numbers) k below = below (next_world coding w block (refusing numbers)) s least a
      go (old header) k below = below (next_world coding w block (old header)) s least a
      go (taken header standing) k below =
          below (next_world coding w block (taken header standing)) (sane_next w.receiver (taken header standing) k s) least (record { above_last = a.above_last; at_first = a.at_first })
      go lost k below = below (next_world coding w block lost) (sane_next w.receiver lost k s) least (record { above_last = a.above_last; at_first = a.at_first })
      go (failed header numbers) k below =
          below (next_world coding w block (failed header numbers)) (sane_next w.receiver (failed header numbers) k s) least (record { above_last = a.above_last; at_first = a.at_first })
      go (finished header d) k below =
          (from_least least w.receiver header d a (ticking w.receiver header d s k), below (next_world coding w block (finished header d)) (sane_next w.receiver (finished header d) k s) _ (above_next w.receiver header d))

pub each_has_tr : EachHasTr
each_has_tr D coding lawful number kind r blocks block header d e =
    let w : World = run coding (begin r) blocks in
    subst (λ (k : Kind). HasTr coding w block header.picture ((coding k).tr d) (coding k).modulus) (kind_run lawful (begin r) blocks ∙ kind_begin lawful r)
    (finishing lawful w (sane_run lawful (begin r) (sane_begin lawful r) blocks) block header d e)

pub ticks_rise : TicksRise
ticks_rise D coding lawful number kind r blocks = rise lawful (begin r) (sane_begin lawful r) 0 (record { above_last = λ _. omega arith; at_first = λ _. refl }) blocks

-- ---- exact while no number is skipped
-- n pictures were finished, all before picture n
data Through (n : ℕ) (last : Last) : Type 0 where
  none_yet : n ≡ 0 → any_finished last.holder ≡ false → Through n last
  up_to : any_finished last.holder ≡ true → n ≡ last.picture + 1 → is_exact last.tick ≡ true → Through n last

through_exact : (m : ℕ) (last : Last) (picture tr n : ℕ) → picture ≡ n → Through n last → is_exact (tick_in m last picture tr) ≡ true
unfolding tick_in
through_exact m last picture tr n e (none_yet z f) =
    ap (λ (t : Bool). is_exact (pick t (later_tick m last.picture last.tick picture tr) (first_tick picture tr))) f
    ∙ as_exact (eqb picture 0) tr ∙ eq-eqb picture 0 (e ∙ z)
through_exact m last picture tr n e (up_to f k x) =
    ap (λ (t : Bool). is_exact (pick t (later_tick m last.picture last.tick picture tr) (first_tick picture tr))) f
    ∙ later_exact m last.picture last.tick picture tr ∙ rw (x, eq-eqb picture (last.picture + 1) (e ∙ k))

through_next : (holder : Holder) (picture n : ℕ) (tick : Tick) → picture ≡ n → is_exact tick ≡ true → Through (n + 1) (record { holder = goes_into holder; picture = picture; tick = tick })
through_next H.Neither picture n tick e x = up_to refl (ap (λ (k : ℕ). k + 1) (sym e)) x
through_next H.First picture n tick e x = up_to refl (ap (λ (k : ℕ). k + 1) (sym e)) x
through_next H.Second picture n tick e x = up_to refl (ap (λ (k : ℕ). k + 1) (sym e)) x

module _ {D : Type 0} (coding : Kind → Coding D) where
  exact_from : (w : World) (n : ℕ) → Through n w.receiver.last → (blocks : List (List ℕ)) → NoneSkipped n (answers coding w blocks) → EachExact (answers coding w blocks)
  unfolding answers world_after step came_to
  exact_from w n t [] = λ _. tt
  exact_from w n t (block ∷ blocks) = go (decide coding w.receiver block w.lent) (λ v k u. exact_from v k u blocks)
    where
      go : (e : Event D) → ((v : World) (k : ℕ) → Through k v.receiver.last → NoneSkipped k (answers coding v blocks) → EachExact (answers coding v blocks))
          → NoneSkipped n (answer_of coding w.receiver e ∷ answers coding (next_world coding w block e) blocks) → EachExact (answer_of coding w.receiver e ∷ answers coding (next_world coding w block e) blocks)
      go (refusing numbers) below = below (next_world coding w block (refusing numbers)) n t
      go (old header) below = below (next_world coding w block (old header)) n t
      go (taken header standing) below = below (next_world coding w block (taken header standing)) n t
      go lost below = below (next_world coding w block lost) n t
      go (failed header numbers) below = below (next_world coding w block (failed header numbers)) n t
      go (finished header d) below = λ s.
          let x = through_exact (coding w.receiver.kind).modulus w.receiver.last header.picture ((coding w.receiver.kind).tr d) n s.0 t in
          (x, below (next_world coding w block (finished header d)) (n + 1) (through_next w.receiver.last.holder header.picture n (finished_tick coding w.receiver header d) s.0 x) s.1)

pub exact_from_the_first : ExactFromTheFirst
exact_from_the_first D coding number kind r blocks =
    exact_from coding (begin r) 0 (subst (λ (x : Receiver). Through 0 x.last) (receiver_opened number kind r.receiver r.is_open) (none_yet refl refl)) blocks
