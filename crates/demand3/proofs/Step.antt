-- One block of the clip, given to a receiver of that clip: what it comes to. Assumes nothing.
use mathlib.Core.Path.{◌≡◌, refl, sym, ap, subst, ◌∙◌}
use mathlib.Core.Bool.{Bool, true, false}
use mathlib.Core.List.{List}
use Prim.Native.Nat.{ℕ, ◌+◌, ◌*◌, ◌≤◌, ◌<◌}
use native.Mathlib.Omega.{arith}
use borrow.Author.Tests.{eqb-true, eq-eqb}
use lib.Dec.{eqb}
use lib.ListN.{length}
use Rattle.laws.specs.Choice.{pick, alike}
use Rattle.laws.proofs.Choice.{two_of}
use Rattle.bits.specs.Bits.{Bit}
use Rattle.coding.specs.declared.Kind.{Kind}
use Rattle.size.specs.declared.Size.{Size}
use Rattle.size.specs.declared.Size.TheVariants.{SubQcif, Qcif, Cif}
use Rattle.size.specs.Size.{limit, collection_length}
use Rattle.vault.specs.declared.Header.{Header}
use Rattle.refusals.specs.Told.{Told, accepted}
use Rattle.vault.specs.Block.{payload_of, judge_of}
use Rattle.vault.specs.Parts.{part_count, used_at, payload_at, header_at, block_at, placed_payload}
use Rattle.vault.proofs.Cut.{at_length}
use Rattle.vault.specs.Collected.{Collected}
use Rattle.vault.proofs.Collected.{collected_more, placed_length, at_judged, at_payload, count_back}
use Rattle.ticks.specs.declared.Tick.{Tick}
use Rattle.standing.specs.declared.Last.{Last}
use Rattle.standing.specs.Stores.{Stores, goes_into, reference, stores_with}
use Rattle.standing.specs.declared.Place.{Place}
use Rattle.standing.specs.declared.Standing.{Standing}
use Rattle.standing.specs.declared.Progress.{Progress}
use Rattle.standing.specs.declared.Receiver.{Receiver}
use Rattle.standing.specs.declared.Line.{Line}
use Rattle.standing.specs.declared.Line.TheVariants.{Earlier, Next, Anew, Otherwise}
use Rattle.standing.specs.Answered.{Said, reply}
use Rattle.coding.specs.Coding.{Coding}
use Rattle.coding.specs.Kind.{kind_size, kind_standard, AllLawful}
use Rattle.standing.specs.Receive.{place, progress, last_in, tick_in, Event, old, taken, lost, finished, Buffers, lent_lengths, judged_block, line_of, ended_picture, took_of, by_line, by_judgement, decide, Outcome, came_to, step}
use Rattle.standing.specs.Shown.{refused_length}
use Rattle.standing.specs.Run.{World}
use Rattle.coding.specs.Described.{bytes_in}
use Rattle.demand3.specs.Clip.{Picture}
use Rattle.demand3.proofs.Filled.{collected_holds}
use Rattle.demand3.proofs.Finished.{both_sized}
use Rattle.vault.specs.Collected as K
use Rattle.standing.specs.declared.Standing.TheVariants as T
use Rattle.standing.specs.Answered as A

-- ---- a receiver of the clip, with what it is lent
pub record Moment : Type 0 where
  pub wanted : Place
  pub standing : Standing
  pub last : Last
  -- the refresh mark of part 0 of what is collected
  pub mark : Bool
  pub lent : Buffers

abbrev pub progress_at : Moment → Progress
progress_at m = progress m.wanted m.standing m.mark

module _ (clip : ℕ) (kind : Kind) where
  abbrev pub receiver_at : Moment → Receiver
  receiver_at m = record { clip = clip; kind = kind; progress = progress_at m; last = m.last }

  abbrev pub world_at : Moment → World
  world_at m = record { receiver = receiver_at m; lent = m.lent }

  abbrev pub outcome_at : Said → Moment → Outcome
  outcome_at answer m = record { gave = reply answer (receiver_at m); left = m.lent }

-- the mark, once this block is taken
abbrev pub marked : Moment → Header → Bool
marked m header = pick (eqb header.part 0) header.refresh m.mark

-- lost
abbrev pub astray : Moment → Moment
astray m = record { wanted = m.wanted; standing = T.Lost; last = m.last; mark = m.mark; lent = m.lent }

-- a part further
abbrev pub further : Moment → Header → Standing → List ℕ → Moment
further m header standing block = record {
  wanted = place header.picture (header.part + 1);
  standing = standing;
  last = m.last;
  mark = marked m header;
  lent = record { collection = placed_payload block header.part m.lent.collection; both = m.lent.both };
}

-- in step, with this picture and its tick
abbrev pub arrived : Moment → Header → List ℕ → List ℕ → Tick → Moment
arrived m header block picture tick = record {
  wanted = place (header.picture + 1) 0;
  standing = T.InStep header.picture;
  last = last_in (goes_into m.last.holder) header.picture tick;
  mark = marked m header;
  lent = record { collection = placed_payload block header.part m.lent.collection; both = stores_with m.last.holder picture m.lent.both };
}

-- ---- a block of the clip
module _ {D : Type 0} (coding : Kind → Coding D) (kind : Kind) (x : Picture D) where
  abbrev pub bits_of : List Bit
  bits_of = (coding kind).written x.description

  abbrev pub refresh_of : Bool
  refresh_of = (coding kind).refresh x.description

  -- its tick, finished after this as picture p
  abbrev pub tick_of : Last → ℕ → Tick
  tick_of last p = tick_in (coding kind).modulus last p ((coding kind).tr x.description)

  abbrev pub header_of : ℕ → ℕ → ℕ → Header
  header_of clip p part = header_at (kind_standard kind) clip p refresh_of (length bits_of) part

  pub record Block (clip p part : ℕ) (block : List ℕ) : Type 0 where
    pub part_is : K.Part (kind_size kind) clip p (length bits_of) part
    pub is : block_at (kind_standard kind) clip p refresh_of (bytes_in bits_of) (length bits_of) part ≡ block

  module _ {clip p part : ℕ} {block : List ℕ} (b : Block clip p part block) where
    pub block_judged : judge_of (kind_size kind) (kind_standard kind) clip block ≡ accepted (header_of clip p part)
    block_judged = ap (judge_of (kind_size kind) (kind_standard kind) clip) (sym b.is) ∙ at_judged (kind_standard kind) clip p refresh_of (bytes_in bits_of) (length bits_of) (kind_size kind) part b.part_is

    pub block_payload : payload_of block ≡ payload_at (bytes_in bits_of) (length bits_of) part
    block_payload = ap payload_of (sym b.is) ∙ at_payload (kind_standard kind) clip p refresh_of (bytes_in bits_of) (length bits_of) part

    pub block_long : length block ≡ 512
    block_long = ap length (sym b.is) ∙ at_length (kind_standard kind) clip p refresh_of (bytes_in bits_of) (length bits_of) part

-- ---- lengths
pub collection_is : (size : Size) (b : Buffers) → lent_lengths size b ≡ true → length b.collection ≡ collection_length size
collection_is size b e = eqb-true (length b.collection) (collection_length size) (two_of (eqb (length b.collection) (collection_length size)) _ e).0

pub stores_are : (size : Size) (b : Buffers) → lent_lengths size b ≡ true → both_sized size b.both ≡ true
stores_are size b e = (two_of (eqb (length b.collection) (collection_length size)) _ e).1

pub lengths_make : (size : Size) (collection : List ℕ) (s : Stores) → length collection ≡ collection_length size → both_sized size s ≡ true → lent_lengths size (record { collection = collection; both = s }) ≡ true
lengths_make size collection s l e = rw (eq-eqb (length collection) (collection_length size) l) e

room_in : (size : Size) (count part : ℕ) → count ≤ limit size → part < part_count count → (500 * part + 500 ≤ collection_length size) × (500 * part_count count ≤ collection_length size)
room_in SubQcif count part l p = (omega arith, omega arith)
room_in Qcif count part l p = (omega arith, omega arith)
room_in Cif count part l p = (omega arith, omega arith)

-- ---- what it comes to
module _ {D : Type 0} {coding : Kind → Coding D} (lawful : AllLawful coding) (clip : ℕ) (kind : Kind) where
  -- the call gives back and leaves the receiver and its buffers so
  pub record Comes (m : Moment) (block : List ℕ) (n : Moment) : Type 0 where
    pub answer : Said
    pub long : refused_length answer ≡ false
    pub is : step coding (receiver_at clip kind m) block m.lent ≡ outcome_at clip kind answer n

  -- and answers that picture p is finished, with this tick
  pub record Finishing (p : ℕ) (tick : Tick) (m : Moment) (block : List ℕ) (n : Moment) : Type 0 where
    pub comes : Comes m block n
    pub answers : comes.answer ≡ A.picture p tick

  module _ {x : Picture D} {p part : ℕ} {block : List ℕ} (b : Block coding kind x clip p part block) (m : Moment) (named : lent_lengths (kind_size kind) m.lent ≡ true) where
    abbrev r : Receiver
    r = receiver_at clip kind m

    abbrev header : Header
    header = header_of coding kind x clip p part

    abbrev after : List ℕ
    after = placed_payload block part m.lent.collection

    abbrev count : ℕ
    count = length (bits_of coding kind x)

    pub has_room : (500 * part + 500 ≤ length m.lent.collection) × (500 * part_count count ≤ length m.lent.collection)
    has_room =
        let room = room_in (kind_size kind) count part b.part_is.count_is b.part_is.part_is in
        let l = collection_is (kind_size kind) m.lent named in
        (omega (arith, room.0, l), omega (arith, room.1, l))

    pub after_long : length after ≡ collection_length (kind_size kind)
    after_long = placed_length block part m.lent.collection (block_long coding kind x b) has_room.0 ∙ collection_is (kind_size kind) m.lent named

    judged_good : judged_block r block m.lent ≡ accepted header
    unfolding judged_block
    judged_good = rw named (block_judged coding kind x b)

    decided : (e : Event D) → by_line coding (line_of (progress_at m) header) r header block m.lent.collection ≡ e → step coding r block m.lent ≡ came_to coding r block m.lent e
    unfolding step decide by_judgement
    decided e q = ap (came_to coding r block m.lent) (ap (λ (c : Told Header). by_judgement coding c r block m.lent.collection) judged_good ∙ q)

    pub comes_old : line_of (progress_at m) header ≡ Earlier → Comes m block m
    unfolding by_line came_to
    comes_old q = record {
      answer = A.old p part;
      long = refl;
      is = decided (old header) (ap (λ (l : Line). by_line coding l r header block m.lent.collection) q);
    }

    pub old_answers : (q : line_of (progress_at m) header ≡ Earlier) → (comes_old q).answer ≡ A.old p part
    unfolding comes_old
    old_answers q = refl

    pub comes_lost : line_of (progress_at m) header ≡ Otherwise → Comes m block (astray m)
    unfolding by_line came_to
    comes_lost q = record {
      answer = A.lost;
      long = refl;
      is = decided lost (ap (λ (l : Line). by_line coding l r header block m.lent.collection) q);
    }

    pub lost_answers : (q : line_of (progress_at m) header ≡ Otherwise) → (comes_lost q).answer ≡ A.lost
    unfolding comes_lost
    lost_answers q = refl

    -- taken, and standing so until the picture is finished
    pub record Takes (standing : Standing) : Type 0 where
      pub by : by_line coding (line_of (progress_at m) header) r header block m.lent.collection ≡ took_of coding r header standing after

    pub takes_next : line_of (progress_at m) header ≡ Next → Takes m.standing
    unfolding by_line
    takes_next q = record { by = ap (λ (l : Line). by_line coding l r header block m.lent.collection) q }

    pub takes_anew : line_of (progress_at m) header ≡ Anew → Takes T.Catching
    unfolding by_line
    takes_anew q = record { by = ap (λ (l : Line). by_line coding l r header block m.lent.collection) q }

    pub comes_further : (standing : Standing) → Takes standing → eqb (part + 1) (part_count count) ≡ false → Comes m block (further m header standing block)
    unfolding took_of came_to
    comes_further standing t e = record {
      answer = A.taken p part;
      long = refl;
      is = decided (taken header standing) (t.by ∙ ap (λ (z : Bool). pick z (ended_picture coding r header ((coding kind).read after (4000 * part + used_at count part))) (taken header standing)) e);
    }

    pub further_answers : (standing : Standing) (t : Takes standing) (e : eqb (part + 1) (part_count count) ≡ false) → (comes_further standing t e).answer ≡ A.taken p part
    unfolding comes_further
    further_answers standing t e = refl

    -- the picture is read back
    pub collected_part : Collected (bytes_in (bits_of coding kind x)) count part m.lent.collection → Collected (bytes_in (bits_of coding kind x)) count (part + 1) after
    collected_part h = collected_more (bytes_in (bits_of coding kind x)) count block part m.lent.collection (block_payload coding kind x b) has_room.0 h

    module _ (valid : (coding kind).valid x.description ≡ true) (collected : Collected (bytes_in (bits_of coding kind x)) count part m.lent.collection) (is_last : eqb (part + 1) (part_count count) ≡ true) where
      last_part : part + 1 ≡ part_count count
      last_part = eqb-true (part + 1) (part_count count) is_last

      reads_back : (coding kind).read after (4000 * part + used_at count part) ≡ accepted x.description
      reads_back =
          let all : Collected (bytes_in (bits_of coding kind x)) count (part_count count) after =
          subst (λ (n : ℕ). Collected (bytes_in (bits_of coding kind x)) count n after) last_part (collected_part collected) in
          let room : 500 * part_count count ≤ length after = omega (arith, has_room.1, after_long, collection_is (kind_size kind) m.lent named) in
          ap ((coding kind).read after) (count_back (kind_standard kind) clip p (refresh_of coding kind x) (bytes_in (bits_of coding kind x)) count part ((lawful.each kind).has_bits x.description) last_part)
          ∙ (lawful.each kind).reads x.description after valid b.part_is.count_is (collected_holds (bits_of coding kind x) after room all)

      true_mark : (a c : Bool) → a ≡ c → alike a c ≡ true
      true_mark a c e = ap (λ (z : Bool). alike z c) e ∙ self c
        where
          self : (c : Bool) → alike c c ≡ true
          self true = refl
          self false = refl

      finds : marked m header ≡ refresh_of coding kind x → ended_picture coding r header ((coding kind).read after (4000 * part + used_at count part)) ≡ finished header x.description
      unfolding ended_picture
      finds e =
          ap (ended_picture coding r header) reads_back
          ∙ rw (true_mark ((coding kind).refresh x.description) (marked m header) (sym e))

      pub comes_arrived : (standing : Standing) → Takes standing → marked m header ≡ refresh_of coding kind x
          → Finishing p (tick_of coding kind x m.last p) m block (arrived m header block ((coding kind).render x.description (reference m.last.holder m.lent.both)) (tick_of coding kind x m.last p))
      unfolding took_of came_to
      comes_arrived standing t e = record {
        comes = record {
          answer = A.picture p (tick_of coding kind x m.last p);
          long = refl;
          is =
              decided (finished header x.description)
              (t.by
              ∙ ap (λ (z : Bool). pick z (ended_picture coding r header ((coding kind).read after (4000 * part + used_at count part))) (taken header standing)) is_last
              ∙ finds e);
        };
        answers = refl;
      }
