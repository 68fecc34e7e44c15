-- From bits to a description in buffers, step by step. Assumes nothing.
use Rattle.std.specs.Prelude.{Ok}
use mathlib.Core.Path.{◌≡◌, sym, ap, ◌∙◌}
use mathlib.Core.Bool.{Bool, true, false}
use mathlib.Core.List.{List, ◌∷◌}
use Prim.Native.Nat.{ℕ, suc, ◌+◌, ◌*◌, ◌≤◌, ◌<◌}
use native.Mathlib.Omega.{arith}
use lib.Dec.{ltb, lit<}
use lib.ListN.{length, set, replicate}
use Rattle.laws.specs.Choice.{either}
use Rattle.refusals.specs.declared.Reason.TheVariants.{Count}
use Rattle.refusals.specs.Number.{refusal}
use Rattle.bits.specs.Bits.{bits_left}
use Rattle.bits.proofs.Source.{source_left}
use Rattle.bits.specs.Places.{counted, stop_in}
use Rattle.bits.specs.Read.{ReadIn, got, refused}
use Rattle.bits.specs.declared.Place.{Place}
use Rattle.bits.specs.declared.Stopped.{Stopped}
use Rattle.size.specs.Size.{limit}
use Rattle.h261_groups.specs.Format.{format_bit, group_count, group_numbers, size_of}
use Rattle.h261_groups.specs.declared.Format.{Format}
use Rattle.h261_groups.specs.declared.Format.TheVariants.{Qcif, Cif}
use Rattle.layout.specs.Flat.{Flat, put_groups, flat, zeros}
use Rattle.h261_description.specs.Value.{laid_picture, shape}
use Rattle.fields.specs.Answer.{map_read, leaving, place_of, stopped_of, refused_picture}
use Rattle.fields.specs.declared.PictureRead.{PictureRead}
use Rattle.fields.proofs.PictureAnswer.{Answers, not_above, answers-refused, answers_laid}
use Rattle.h261_layers.specs.Answer.{as_header}
use Rattle.h261_layers.specs.Grammar.{header, groups_read, picture, read_widths}
use Rattle.h261_reader.specs.Described.{described}
use Rattle.h261_reader.proofs.Counted.{described_counted, described-uncounted, described_count_is}
use Rattle.fields.specs.declared.CountedRead.{CountedRead}
use Rattle.fields.specs.declared.CountedRead.TheVariants.{Got, Refused}
use Rattle.fields.proofs.Meaning.{map-done}

-- ---- three stores over zeros
cleared : (c : ℕ) (tr ptype bit : ℕ) (l : List ℕ) → l ≡ replicate (3 + c) 0 → set (set (set l 0 tr) 1 ptype) 2 bit ≡ tr ∷ ptype ∷ bit ∷ replicate c 0
cleared c tr ptype bit l e =
    let k : 3 + c ≡ suc (suc (suc c)) = omega arith in
    ap (λ (x : List ℕ). set (set (set x 0 tr) 1 ptype) 2 bit) (e ∙ ap (λ (m : ℕ). replicate m 0) k)

-- ---- N
-- a place has room for as many reads
pub limit_low : (f : Format) → limit (size_of f) < 4294967296
limit_low Qcif = lit< tt
limit_low Cif = lit< tt

module _ (f : Format) (s : List ℕ) (n : ℕ) (a : Bool) (w : a ≡ either (ltb (8 * length s) n) (ltb (limit (size_of f)) n)) where
  pub described_count : a ≡ true → described_counted f s n ≡ refused (stop_in counted (refusal Count 0) (place_of 0 0))
  described_count e = let z : either (ltb (8 * length s) n) (ltb (limit (size_of f)) n) ≡ true = sym w ∙ e in rw z

  -- N is low, and the bytes have N bits
  pub bounds : a ≡ false → (n ≤ 8 * length s) × (n ≤ limit (size_of f))
  bounds e = not_above (length s) n (limit (size_of f)) (sym w ∙ e)

  described_bits : a ≡ false → described_counted f s n ≡ map_read (laid_picture f) (picture f (bits_left s n 0) (place_of 0 0))
  described_bits e =
      let z : either (ltb (8 * length s) n) (ltb (limit (size_of f)) n) ≡ false = sym w ∙ e in
      rw (z, source_left s n (bounds e).0)

  module _ (e : a ≡ false) (h : CountedRead (ℕ × ℕ)) (v : as_header s n h ≡ header f (bits_left s n 0) (place_of 0 0)) where
    pub described_no_header : {why : Stopped} → h ≡ Refused why → described_counted f s n ≡ refused (stopped_of h)
    unfolding picture
    described_no_header t = let d : header {P = counted} f (bits_left s n 0) (place_of 0 0) ≡ refused (stopped_of h) = no h t v in described_bits e ∙ rw d
      where
        no : {why : Stopped} (h : CountedRead (ℕ × ℕ)) → h ≡ Refused why → as_header s n h ≡ header f (bits_left s n 0) (place_of 0 0) → header {P = counted} f (bits_left s n 0) (place_of 0 0) ≡ refused (stopped_of h)
        no (Got (tr, ptype) p) t v = cc
        no (Refused r) t v = sym v

    pub header_is : (tr ptype : ℕ) (p : Place) → h ≡ Got (tr, ptype) p → header {P = counted} f (bits_left s n 0) (place_of 0 0) ≡ got (record { tr = tr; ptype = ptype }) (bits_left s n p.bit) p
    header_is tr ptype p d = sym v ∙ ap (as_header s n) d

    pub described_groups : (tr ptype : ℕ) (p : Place) → h ≡ Got (tr, ptype) p
        → described_counted f s n ≡ map_read (put_groups (shape f) 0 (flat (tr ∷ ptype ∷ format_bit f ∷ replicate (group_count f) 0) (replicate (group_count f * 132) 0) (replicate (group_count f * 12672) 0))) (groups_read f (group_numbers f) (bits_left s n p.bit) p)
    unfolding picture laid_picture
    described_groups tr ptype p d =
        described_bits e ∙ rw (header_is tr ptype p d)
        (map-done (laid_picture f) (λ gs. record { tr = tr; ptype = ptype; groups = gs }) (groups_read f (group_numbers f) (bits_left s n p.bit) p))

    pub groups_described : {tr ptype : ℕ} {p : Place} {bit : ℕ} {c m l : List ℕ} {x : ReadIn counted Flat} → h ≡ Got (tr, ptype) p → bit ≡ format_bit f → flat c m l ≡ zeros (shape f)
        → x ≡ map_read (put_groups (shape f) 0 (flat (set (set (set c 0 tr) 1 ptype) 2 bit) m l)) (groups_read f (group_numbers f) (bits_left s n p.bit) p) → x ≡ described_counted f s n
    groups_described {tr} {ptype} {p} {bit} {c} d b blank z =
        let hd : set (set (set c 0 tr) 1 ptype) 2 bit ≡ tr ∷ ptype ∷ format_bit f ∷ replicate (group_count f) 0
        = cleared (group_count f) tr ptype bit c (ap (λ (d : Flat). d.head) blank) ∙ ap (λ (y : ℕ). tr ∷ ptype ∷ y ∷ replicate (group_count f) 0) b in
        z ∙ (λ i. map_read (put_groups (shape f) 0 (flat (hd i) (blank i).macroblocks (blank i).levels)) (groups_read f (group_numbers f) (bits_left s n p.bit) p))
        ∙ sym (described_groups tr ptype p d)

-- ---- the answers
module _ (f : Format) (s : List ℕ) (n : ℕ) where
  -- refused, with the buffers as they were or cleared
  pub refused_blank : {x : Stopped} {r : PictureRead} {a b c : List ℕ} → described_counted f s n ≡ refused x → r ≡ refused_picture x → flat a b c ≡ zeros (shape f)
      → Answers (zeros (shape f)) (described f s n) (length (read_widths f s n)) r (flat a b c)
  refused_blank e d blank = answers-refused (zeros (shape f)) (described-uncounted f s n) (described_count_is f s n) e d blank

  -- accepted, and laid out
  pub read_laid : (r : CountedRead (Unit {0})) (d : Flat) → leaving s n r d ≡ described_counted f s n → (p : Place) → r ≡ Got tt p
      → Answers (zeros (shape f)) (described f s n) (length (read_widths f s n)) (record { verdict = Ok tt; reads = p.reads }) d
  read_laid r d v p e = answers_laid (zeros (shape f)) (described-uncounted f s n) (described_count_is f s n) s n r d v p e
