-- Over a sender's clip an exact tick is the one that all its pictures give, and an estimated one is never above it. Assumes nothing.
use mathlib.Core.Path.{◌≡◌, refl, sym, ap, subst, ◌∙◌}
use mathlib.Core.Bool.{Bool, true, false, true≢false, false≢true}
use mathlib.Core.List.{List, [], ◌∷◌, map}
use mathlib.Core.Option.{some, some-injective}
use Prim.Native.Nat.{ℕ, zero, suc, ◌+◌, ◌-◌, ◌*◌, ◌%◌, ◌≤◌, ◌<◌}
use native.Mathlib.Nat.{mod-le, mod-eq_of_lt, zero-add}
use native.Mathlib.Omega.{arith}
use borrow.Author.Tests.{eqb-true}
use lib.Dec.{eqb}
use lib.ListN.{get_or, get_elem?}
use Rattle.laws.specs.Choice.{pick, both}
use Rattle.laws.proofs.Choice.{two_of}
use Rattle.layout.specs.Flat.{Flat}
use Rattle.coding.specs.declared.Kind.{Kind}
use Rattle.coding.specs.Coding.{Coding}
use Rattle.coding.specs.Kind.{kind_size, coding_of, AllLawful}
use Rattle.coding.proofs.AllLawful.{coding_lawful}
use Rattle.ticks.specs.declared.Tick.{Tick}
use Rattle.ticks.specs.declared.Tick.TheVariants as T
use Rattle.ticks.specs.Tick.{tick_number, is_exact, tick_as, tick_above, cut_tick, first_tick, later_tick}
use Rattle.ticks.proofs.TickLaws.{tick_is_least, cut_same, above_most}
use Rattle.standing.specs.declared.Last.{Last}
use Rattle.standing.specs.declared.Receiver.{Receiver}
use Rattle.standing.specs.Stores.{any_finished}
use Rattle.standing.specs.Answered.{Said}
use Rattle.standing.specs.Receive.{Buffers, lent_lengths, Outcome, tick_in, step}
use Rattle.standing.specs.Run.{World}
use Rattle.demand3.specs.Clip.{Picture, opening, pictures_in, world_given, upon}
use Rattle.demand3.specs.Ticks.{tick_through, tr_in, TickAgainst, ClipTicksAlways, ClipTicksMet}
use Rattle.demand3.proofs.Sent.{Part, clip_part, none-some}
use Rattle.demand3.proofs.Step.{Moment, world_at, tick_of}
use Rattle.demand3.proofs.Held.{Sound, Held, is_picture, Moves, stays, finishes, Goes, step_held, after_comes, Parts}
use Rattle.demand3.proofs.InStep.{receiver_opened, start, sound_clip, each_part, start_held, short, short_run}
use Rattle.demand3.proofs.Ticks.{below_greatest}
use Rattle.standing.specs.Answered as A

-- ---- of lists
nth_map : {A : Type 0} (f : A → ℕ) (l : List A) (k : ℕ) (x : A) → get_elem? l k ≡ some x → get_or (map f l) k 0 ≡ f x
nth_map f [] k x e = absurd (none-some x e)
nth_map f (y ∷ l) zero x e = ap f (some-injective y x e)
nth_map f (y ∷ l) (suc k) x e = nth_map f l k x e

each_below : {A : Type 0} (f : A → ℕ) (m : ℕ) → 1 ≤ m → (l : List A) → ((k : ℕ) (x : A) → get_elem? l k ≡ some x → f x < m) → (k : ℕ) → get_or (map f l) k 0 < m
each_below f m positive [] h k = positive
each_below f m positive (y ∷ l) h zero = h 0 y refl
each_below f m positive (y ∷ l) h (suc k) = each_below f m positive l (λ i. h (suc i)) k

-- ---- the ticks that all pictures give
module _ (m : ℕ) (positive : 1 ≤ m) (tr : ℕ → ℕ) (small : (k : ℕ) → tr k < m) where
  through_tr : (k : ℕ) → tick_through m tr k % m ≡ tr k
  unfolding tick_through
  through_tr zero = mod-eq_of_lt (small zero)
  through_tr (suc k) = (tick_is_least m (tick_through m tr k) (tr (suc k)) positive).has_tr ∙ mod-eq_of_lt (small (suc k))

  through_below : (k : ℕ) → tick_through m tr k < m * (k + 1)
  unfolding tick_through
  through_below zero = omega (arith, small zero)
  through_below (suc k) = omega (arith, through_below k, above_most m (tick_through m tr k) (tr (suc k)) positive)

  through_onward : (j d : ℕ) → tick_through m tr j < tick_through m tr (suc (d + j))
  unfolding tick_through
  through_onward j zero = subst (λ (n : ℕ). tick_through m tr j < tick_above m (tick_through m tr n) (tr (suc n))) (sym (zero-add j)) (tick_is_least m (tick_through m tr j) (tr (suc j)) positive).above
  through_onward j (suc d) =
      let e : suc d + j ≡ suc (d + j) = omega arith in
      subst (λ (n : ℕ). tick_through m tr j < tick_through m tr (suc n)) (sym e)
      (omega (arith, through_onward j d, (tick_is_least m (tick_through m tr (suc (d + j))) (tr (suc (suc (d + j)))) positive).above))

  through_rises : (j k : ℕ) → j < k → tick_through m tr j < tick_through m tr k
  through_rises j k l =
      let e : suc ((k - suc j) + j) ≡ k = omega arith in
      subst (λ (n : ℕ). tick_through m tr j < tick_through m tr n) e (through_onward j (k - suc j))

-- ---- a tick against that
against : (exact : Bool) (n all : ℕ) → n ≤ all → (exact ≡ true → n ≡ all) → TickAgainst all (tick_as exact n)
against true n all l e = e refl
against false n all l e = l

against_most : (all : ℕ) (tick : Tick) → TickAgainst all tick → tick_number tick ≤ all
against_most all (T.Exact n) h = omega (arith, h)
against_most all (T.Estimated n) h = h

against_exact : (all : ℕ) (tick : Tick) → is_exact tick ≡ true → TickAgainst all tick → tick_number tick ≡ all
against_exact all (T.Exact n) e h = h
against_exact all (T.Estimated n) e h = absurd (false≢true e)

module _ {D : Type 0} {coding : Kind → Coding D} (lawful : AllLawful coding) {clip : ℕ} {kind : Kind} {sent : List (Picture D)} (sound : Sound coding clip kind sent) where
  abbrev modulus : ℕ
  modulus = (coding kind).modulus

  abbrev tr_at : ℕ → ℕ
  tr_at = tr_in (coding kind) sent

  abbrev all : ℕ → ℕ
  all = tick_through modulus tr_at

  some-modulus : 1 ≤ modulus
  some-modulus = (lawful.each kind).modulus_some

  tr_small : (k : ℕ) → tr_at k < modulus
  tr_small = each_below (λ (x : Picture D). (coding kind).tr x.description) modulus some-modulus sent (λ k x e. (lawful.each kind).tr_below x.description (sound.whole k x e).valid)

  tr_at_lem : (p : ℕ) (x : Picture D) → get_elem? sent p ≡ some x → tr_at p ≡ (coding kind).tr x.description
  tr_at_lem = nth_map (λ (y : Picture D). (coding kind).tr y.description) sent

  -- ---- what holds of what the receiver knows of its last picture
  pub record Known (m : Moment) : Type 0 where
    pub before_wanted : any_finished m.last.holder ≡ true → m.last.picture < m.wanted.picture
    pub tick_against : any_finished m.last.holder ≡ true → TickAgainst (all m.last.picture) m.last.tick

  -- ---- and of the picture that is finished next
  module _ (m : Moment) (h : Known m) (p : ℕ) (x : Picture D) (at : get_elem? sent p ≡ some x) (from : m.wanted.picture ≤ p) where
    abbrev before : ℕ
    before = m.last.picture

    abbrev tr : ℕ
    tr = (coding kind).tr x.description

    abbrev later : Tick
    later = later_tick modulus before m.last.tick p tr

    has_tr : all p % modulus ≡ tr
    has_tr = through_tr modulus some-modulus tr_at tr_small p ∙ tr_at_lem p x at

    at_first : p ≡ 0 → tr ≡ all p
    unfolding tick_through
    at_first z = sym (tr_at_lem p x at) ∙ ap tr_at z ∙ sym (ap all z)

    first_against : TickAgainst (all p) (first_tick p tr)
    first_against = against (eqb p 0) tr (all p) (subst (λ (n : ℕ). n ≤ all p) has_tr (mod-le (all p) modulus)) (λ e. at_first (eqb-true p 0 e))

    module _ (f : any_finished m.last.holder ≡ true) where
      abbrev above : ℕ
      above = tick_above modulus (tick_number m.last.tick) tr

      last_most : tick_number m.last.tick ≤ all before
      last_most = against_most (all before) m.last.tick (h.tick_against f)

      less : before < p
      less = omega (arith, h.before_wanted f, from)

      not_above : above ≤ all p
      not_above =
          let rises : all before < all p = through_rises modulus some-modulus tr_at tr_small before p less in
          let low : tr % modulus ≡ tr = mod-eq_of_lt ((lawful.each kind).tr_below x.description (sound.whole p x at).valid) in
          (tick_is_least modulus (tick_number m.last.tick) tr some-modulus).least (all p) (omega (arith, last_most)) (has_tr ∙ sym low)

      not_cut : cut_tick above ≡ above
      not_cut =
          cut_same above
          (omega (arith, not_above, through_below modulus some-modulus tr_at tr_small p, below_greatest modulus p (lawful.each kind).modulus_most (sound.whole p x at).number))

      exactly : is_exact m.last.tick ≡ true → p ≡ before + 1 → above ≡ all p
      unfolding tick_through
      exactly e q =
          let next : p ≡ suc before = omega arith in
          ap (λ (n : ℕ). tick_above modulus n tr) (against_exact (all before) m.last.tick e (h.tick_against f))
          ∙ ap (tick_above modulus (all before)) (sym (tr_at_lem p x at) ∙ ap tr_at next) ∙ sym (ap all next)

      later-against : TickAgainst (all p) later
      unfolding later_tick
      later-against =
          against (both (is_exact m.last.tick) (eqb p (before + 1))) (cut_tick above) (all p) (omega (arith, not_cut, not_above))
          (λ e. let sides = two_of (is_exact m.last.tick) _ e in not_cut ∙ exactly sides.0 (eqb-true p (before + 1) sides.1))

    finished_against : TickAgainst (all p) (tick_of coding kind x m.last p)
    unfolding tick_in
    finished_against = go (any_finished m.last.holder) refl
      where
        go : (b : Bool) → any_finished m.last.holder ≡ b → TickAgainst (all p) (tick_of coding kind x m.last p)
        go true f = subst (λ (t : Bool). TickAgainst (all p) (pick t later (first_tick p tr))) (sym f) (later-against f)
        go false f = subst (λ (t : Bool). TickAgainst (all p) (pick t later (first_tick p tr))) (sym f) first_against

  -- ---- it goes on to hold
  known_next : {p : ℕ} {m n : Moment} {answer : Said} → Known m → Moves lawful sound p m answer n → Known n
  known_next {p} {m} {n} h (stays said is other same onward) = record {
    before_wanted = λ f. omega (arith, h.before_wanted (sym (ap (λ (l : Last). any_finished l.holder) same) ∙ f), ap (λ (l : Last). l.picture) same, onward);
    tick_against = λ f. subst (λ (l : Last). TickAgainst (all l.picture) l.tick) (sym same) (h.tick_against (sym (ap (λ (l : Last). any_finished l.holder) same) ∙ f));
  }
  known_next {p} {m} {n} h (finishes x at from is last wants) = record {
    before_wanted = λ f. omega (arith, ap (λ (l : Last). l.picture) last, wants);
    tick_against = λ f. subst (λ (l : Last). TickAgainst (all l.picture) l.tick) (sym last) (finished_against m h p x at from);
  }

  record Runs (m : Moment) (blocks : List (List ℕ)) : Type 0 where
    last : Moment
    is : world_given (step coding) (world_at clip kind m) blocks ≡ world_at clip kind last
    held : Held lawful sound last
    known : Known last

  run_known : (m : Moment) → Held lawful sound m → Known m → (blocks : List (List ℕ)) → Parts lawful sound blocks → Runs m blocks
  unfolding world_given
  run_known m h k [] t = record { last = m; is = refl; held = h; known = k }
  run_known m h k (block ∷ blocks) t =
      let g : Goes lawful sound t.0.p t.0.part m block = step_held lawful sound t.0.is m h in
      let rest : Runs g.next blocks = run_known g.next g.held (known_next k g.moves) blocks t.1 in
      record { last = rest.last; is = ap (λ (w : World). world_given (step coding) w blocks) (after_comes lawful sound m block g.next g.comes) ∙ rest.is; held = rest.held; known = rest.known }

  -- ---- the tick that is answered
  same_answer : (p q : ℕ) (t u : Tick) → A.picture p t ≡ A.picture q u → (p ≡ q) × (t ≡ u)
  same_answer p q t u e = (cc, cc)

  answered : {p : ℕ} {m n : Moment} {answer : Said} → Known m → Moves lawful sound p m answer n → (k : ℕ) (tick : Tick) → answer ≡ A.picture k tick → TickAgainst (all k) tick
  answered h (stays said is other same onward) k tick e = absurd (true≢false (sym (ap is_picture (sym is ∙ e)) ∙ other))
  answered {p} {m} h (finishes x at from is last wants) k tick e =
      let same = same_answer p k (tick_of coding kind x m.last p) tick (sym is ∙ e) in
      subst (λ (n : ℕ). TickAgainst (all n) tick) same.0 (subst (TickAgainst (all p)) same.1 (finished_against m h p x at from))

  start_known : (lent : Buffers) → Known (start lent)
  start_known lent = record { before_wanted = λ f. absurd (false≢true f); tick_against = λ f. absurd (false≢true f) }

  from_start : (lent : Buffers) (blocks : List (List ℕ)) → Parts lawful sound blocks → (block : List ℕ) → Part coding sent block → (k : ℕ) (tick : Tick)
      → (upon (step coding) (world_at clip kind (start lent)) blocks block).gave.answer ≡ A.picture k tick → TickAgainst (all k) tick
  from_start lent blocks t block b k tick e = go (lent_lengths (kind_size kind) lent) refl
    where
      go : (named : Bool) → lent_lengths (kind_size kind) lent ≡ named → TickAgainst (all k) tick
      go true n =
          let ran : Runs (start lent) blocks = run_known (start lent) (start_held lawful sound lent n) (start_known lent) blocks t in
          let g : Goes lawful sound b.p b.part ran.last block = step_held lawful sound b.is ran.last ran.held in
          let is = ap (λ (w : World). step coding w.receiver block w.lent) ran.is ∙ g.comes.is in
          answered ran.known g.moves k tick (sym (ap (λ (x : Outcome). x.gave.answer) is) ∙ e)
      go false n =
          let is = ap (λ (w : World). step coding w.receiver block w.lent) (short_run lawful sound lent n blocks) ∙ short lawful sound lent n block in
          absurd (false≢true (ap is_picture (sym (ap (λ (x : Outcome). x.gave.answer) is) ∙ e)))

pub clip_ticks : ClipTicksAlways
clip_ticks D coding lawful c r blocks block each one =
    let sound : Sound coding c.number c.kind (pictures_in coding c) = sound_clip lawful c in
    subst
    (λ (x : Receiver). (k : ℕ) (tick : Tick) → (upon (step coding) (record { receiver = x; lent = r.lent }) blocks block).gave.answer ≡ A.picture k tick
    → TickAgainst (tick_through (coding c.kind).modulus (tr_in (coding c.kind) (pictures_in coding c)) k) tick)
    (receiver_opened c.number c.kind r.receiver r.is_open)
    (from_start lawful sound r.lent blocks (each_part lawful (opening coding c) c.calls sound blocks each) block (clip_part coding (opening coding c) c.calls block one))

pub clip_ticks_met : ClipTicksMet
clip_ticks_met = clip_ticks Flat coding_of coding_lawful
