-- From bits to a description in buffers, step by step. Assumes nothing.
use Rattle.std.specs.Prelude.{Ok}
use mathlib.Core.Path.{◌≡◌, refl, sym, ap, subst, ◌∙◌}
use mathlib.Core.Bool.{Bool, true, false}
use mathlib.Core.List.{List, [], ◌∷◌}
use mathlib.Core.Logic.{◌⊎◌, inl, inr}
use Prim.Native.Nat.{ℕ, suc, ◌+◌, ◌*◌, ◌≤◌, ◌<◌}
use native.Mathlib.Omega.{arith}
use borrow.Author.Tests.{lt-ltb, le-ltb}
use lib.Dec.{ltb, lit<}
use lib.ListN.{length, set, replicate}
use Rattle.laws.specs.Choice.{pick, either}
use Rattle.laws.proofs.Rows.{lt-or-ge}
use Rattle.refusals.specs.declared.Reason.TheVariants.{Count, AfterLast}
use Rattle.refusals.specs.Number.{refusal}
use Rattle.bits.specs.Bits.{Bit, bits_left}
use Rattle.bits.proofs.Source.{source_left}
use Rattle.bits.proofs.Value.{left_none}
use Rattle.bits.specs.Places.{counted, stop_in}
use Rattle.bits.specs.Read.{ReadIn, got, refused, endless, next}
use Rattle.bits.specs.Answer.{Placed}
use Rattle.bits.specs.declared.Place.{Place}
use Rattle.bits.specs.declared.Stopped.{Stopped}
use Rattle.fields.specs.Answer.{map_read, leaving, place_of, refused_picture}
use Rattle.fields.specs.declared.PictureRead.{PictureRead}
use Rattle.fields.specs.declared.CountedRead.{CountedRead}
use Rattle.fields.specs.declared.CountedRead.TheVariants.{Got, Refused}
use Rattle.fields.proofs.Meaning.{length_left}
use Rattle.fields.proofs.PictureAnswer.{Answers, not_above, answers-refused, answers_laid}
use Rattle.size.specs.declared.Size.{Size}
use Rattle.size.specs.declared.Size.TheVariants.{SubQcif, Qcif, Cif}
use Rattle.size.specs.Size.{limit}
use Rattle.size.specs.Place.{macroblocks_down}
use Rattle.layout.specs.Value.{Group}
use Rattle.layout.specs.Flat.{Flat, flat, put_groups, zeros}
use Rattle.h263_description.specs.Value.{Picture, format_number, shape, group_numbers, laid_picture}
use Rattle.h263_description.specs.Fields.{is_intra_type}
use Rattle.h263_layers.specs.declared.Header as D
use Rattle.h263_layers.specs.Answer.{header_in, as_header}
use Rattle.h263_layers.specs.Grammar.{Header, header, groups_read, ended, picture, read_widths}
use Rattle.h263_layers.proofs.HeaderReads.{HeaderCounts, header_counts}
use Rattle.h263_reader.specs.Described.{after_header, described}
use Rattle.h263_reader.specs.Described.{ended_at}
use Rattle.h263_reader.proofs.Counted.{described_counted, described-uncounted, described_count_is}

-- ---- N
limit_low : (size : Size) → limit size < 4294967296
limit_low SubQcif = lit< tt
limit_low Qcif = lit< tt
limit_low Cif = lit< tt

-- ---- the end
module _ (n : ℕ) (r : CountedRead (Unit {0})) (p : Place) (e : r ≡ Got tt p) where
  pub ended_past : p.bit < n → Refused (stop_in counted (refusal AfterLast p.bit) p) ≡ ended_at n r
  ended_past l = sym (ap (ended_at n) e ∙ ap (λ (b : Bool). pick b (Refused (stop_in counted (refusal AfterLast p.bit) p)) (Got tt p)) (lt-ltb p.bit n l))

  pub ended_there : n ≤ p.bit → Got tt p ≡ ended_at n r
  ended_there l = sym (ap (ended_at n) e ∙ ap (λ (b : Bool). pick b (Refused (stop_in counted (refusal AfterLast p.bit) p)) (Got tt p)) (le-ltb p.bit n l))

-- what was left in the buffers, and then the end
pub leaving-ended : {A : Type 0} (s : List ℕ) (n : ℕ) (r : CountedRead (Unit {0})) (a : A) → leaving s n (ended_at n r) a ≡ next (leaving s n r a) ended
leaving-ended {A} s n (Refused r) a = refl
leaving-ended {A} s n (Got u p) a = go (lt-or-ge p.bit n)
  where
    some : (bs : List Bit) → 1 ≤ length bs → ◌≡◌ {A = ReadIn counted A} (refused (stop_in counted (refusal AfterLast p.bit) p)) (ended a bs p)
    some [] l = absurd (omega arith)
    some (b ∷ bs) l = refl

    none : (bs : List Bit) → bs ≡ [] → ◌≡◌ {A = ReadIn counted A} (got a bs p) (ended a bs p)
    none bs e = ap (λ (bs : List Bit). got a bs p) e ∙ sym (ap (λ (bs : List Bit). ended a bs p) e)

    go : (p.bit < n) ⊎ (n ≤ p.bit) → leaving s n (pick (ltb p.bit n) (Refused (stop_in counted (refusal AfterLast p.bit) p)) (Got tt p)) a ≡ ended a (bits_left s n p.bit) p
    go (inl l) =
        ap (λ (b : Bool). leaving s n (pick b (Refused (stop_in counted (refusal AfterLast p.bit) p)) (Got tt p)) a) (lt-ltb p.bit n l)
        ∙ some (bits_left s n p.bit) (omega (arith, length_left s n p.bit))
    go (inr l) =
        ap (λ (b : Bool). leaving s n (pick b (Refused (stop_in counted (refusal AfterLast p.bit) p)) (Got tt p)) a) (le-ltb p.bit n l)
        ∙ none (bits_left s n p.bit) (left_none s n p.bit l)

-- ---- the picture from after its header on
-- five stores over zeros
cleared : (c tr ptype number type pquant : ℕ) (l : List ℕ) → l ≡ replicate (5 + c) 0
    → set (set (set (set (set l 0 tr) 1 ptype) 2 number) 3 type) 4 pquant ≡ tr ∷ ptype ∷ number ∷ type ∷ pquant ∷ replicate c 0
cleared c tr ptype number type pquant l e =
    let k : 5 + c ≡ suc (suc (suc (suc (suc c)))) = omega arith in
    ap (λ (x : List ℕ). set (set (set (set (set x 0 tr) 1 ptype) 2 number) 3 type) 4 pquant) (e ∙ ap (λ (m : ℕ). replicate m 0) k)

module _ (size : Size) (h : Header) where
  abbrev whole : List Group → Picture
  whole groups = record { tr = h.tr; ptype = h.ptype; type = h.type; pquant = h.pquant; groups = groups }

  abbrev cover : Flat → Flat
  cover d = flat (h.tr ∷ h.ptype ∷ format_number size ∷ h.type ∷ h.pquant ∷ replicate (macroblocks_down size) 0) d.macroblocks d.levels

  groups_ended : (x : ReadIn counted (List Group)) → next (map_read (put_groups (shape size) 0 (cover (zeros (shape size)))) x) ended ≡ map_read (laid_picture size) (next x (λ groups. ended (whole groups)))
  unfolding laid_picture
  groups_ended (got groups [] p) = refl
  groups_ended (got groups (b ∷ bs) p) = refl
  groups_ended (refused r) = refl
  groups_ended endless = refl

  pub picture_laid : (s : List ℕ) (n : ℕ) (at : Place) (r x : CountedRead (Unit {0})) (number : ℕ) {a b c : List ℕ} (a' b' c' : List ℕ) → x ≡ ended_at n r → number ≡ format_number size → flat a b c ≡ zeros (shape size)
      → leaving s n r (flat a' b' c')
      ≡ map_read (put_groups (shape size) 0 (flat (set (set (set (set (set a 0 h.tr) 1 h.ptype) 2 number) 3 h.type) 4 h.pquant) b c))
      (groups_read size (is_intra_type h.type) (group_numbers size) [] (bits_left s n at.bit) at)
      → leaving s n x (flat a' b' c') ≡ map_read (laid_picture size) (after_header size h (bits_left s n at.bit) at)
  picture_laid s n at r x number {a} {b} {c} a' b' c' is e blank w =
      let groups = groups_read {P = counted} size (is_intra_type h.type) (group_numbers size) [] (bits_left s n at.bit) at in
      let head : set (set (set (set (set a 0 h.tr) 1 h.ptype) 2 number) 3 h.type) 4 h.pquant ≡ h.tr ∷ h.ptype ∷ format_number size ∷ h.type ∷ h.pquant ∷ replicate (macroblocks_down size) 0
      = cleared (macroblocks_down size) h.tr h.ptype number h.type h.pquant a (ap (λ (d : Flat). d.head) blank)
      ∙ ap (λ (y : ℕ). h.tr ∷ h.ptype ∷ y ∷ h.type ∷ h.pquant ∷ replicate (macroblocks_down size) 0) e in
      ap (λ (y : CountedRead (Unit {0})). leaving s n y (flat a' b' c')) is
      ∙ leaving-ended s n r (flat a' b' c')
      ∙ ap (λ (x : ReadIn counted Flat). next x ended) (w ∙ (λ i. map_read (put_groups (shape size) 0 (flat (head i) (blank i).macroblocks (blank i).levels)) groups))
      ∙ groups_ended groups

-- ---- the header
module _ (size : Size) (s : List ℕ) (n : ℕ) (a : Bool) (w : a ≡ either (ltb (8 * length s) n) (ltb (limit size) n)) where
  pub described_above : a ≡ true → described_counted size s n ≡ refused (stop_in counted (refusal Count 0) (place_of 0 0))
  described_above e = let z : either (ltb (8 * length s) n) (ltb (limit size) n) ≡ true = sym w ∙ e in rw z

  -- N is low, and the bytes have N bits
  module _ (e : a ≡ false) where
    bounds : (n ≤ 8 * length s) × (n ≤ limit size)
    bounds = not_above (length s) n (limit size) (sym w ∙ e)

    pub lent_placed : Placed s n (place_of 0 0)
    lent_placed = record { within = record { lent = bounds.0; inside = omega arith }; countable = omega (arith, bounds.1, limit_low size) }

    described_bits : described_counted size s n ≡ map_read (laid_picture size) (picture size (bits_left s n 0) (place_of 0 0))
    described_bits =
        let z : either (ltb (8 * length s) n) (ltb (limit size) n) ≡ false = sym w ∙ e in
        rw (z, source_left s n bounds.0)

    module _ (h : CountedRead D.Header) (v : as_header s n h ≡ header size (bits_left s n 0) (place_of 0 0)) where
      pub described_no_header : (r : Stopped) → h ≡ Refused r → described_counted size s n ≡ refused r
      unfolding picture
      described_no_header r d =
          let x : header {P = counted} size (bits_left s n 0) (place_of 0 0) ≡ refused r = sym v ∙ ap (as_header s n) d in
          described_bits ∙ rw x

      module _ (said : D.Header) (p : Place) (d : h ≡ Got said p) where
        header_is : header {P = counted} size (bits_left s n 0) (place_of 0 0) ≡ got (header_in said) (bits_left s n p.bit) p
        header_is = sym v ∙ ap (as_header s n) d

        pub header_placed : Placed s n p
        header_placed =
            let c : HeaderCounts (bits_left s n 0) (got (header_in said) (bits_left s n p.bit) p) = subst (λ x. HeaderCounts (bits_left s n 0) x) header_is (header_counts size (bits_left s n 0)) in
            let inside : p.bit ≤ n = omega (arith, c.took.end, length_left s n 0, length_left s n p.bit) in
            record { within = record { lent = bounds.0; inside = inside }; countable = omega (arith, c.few, bounds.1, limit_low size) }

        pub described-header : described_counted size s n ≡ map_read (laid_picture size) (after_header size (header_in said) (bits_left s n p.bit) p)
        unfolding picture
        described-header = described_bits ∙ rw header_is

-- ---- the answers
module _ (size : Size) (s : List ℕ) (n : ℕ) where
  -- refused, with the buffers as they were or cleared
  pub refused_blank : {x : Stopped} {r : PictureRead} {a b c : List ℕ} → described_counted size s n ≡ refused x → r ≡ refused_picture x → flat a b c ≡ zeros (shape size)
      → Answers (zeros (shape size)) (described size s n) (length (read_widths size s n)) r (flat a b c)
  refused_blank e d blank =
      answers-refused (zeros (shape size)) (described-uncounted size s n) (described_count_is size s n) e d blank

  -- accepted, and laid out
  pub read_laid : (r : CountedRead (Unit {0})) (d : Flat) → leaving s n r d ≡ described_counted size s n → (p : Place) → r ≡ Got tt p
      → Answers (zeros (shape size)) (described size s n) (length (read_widths size s n)) (record { verdict = Ok tt; reads = p.reads }) d
  read_laid r d v p e = answers_laid (zeros (shape size)) (described-uncounted size s n) (described_count_is size s n) s n r d v p e
