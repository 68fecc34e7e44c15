-- `h261_layers::head::header` meets its contract: PSC, TR, PTYPE, the spares and GBSC are read through a bit reader that goes on after each, and
-- what they come to is `header_of`. Assumes nothing.
use mathlib.Core.Path.{◌≡◌, ap, ◌∙◌, subst}
use mathlib.Core.List.{List}
use Prim.Native.Nat.{ℕ}
use lib.Dec.{lit≤}
use native.Mathlib.Nat.{le_trans}
use Rattle.std.specs.Borrow.{Bor}
use Rattle.bits.specs.Bits.{bits_left}
use Rattle.bits.specs.Read.{field}
use Rattle.bits.specs.Answer.{Within, Placed, as_field}
use Rattle.bits.specs.declared.FieldRead.{FieldRead}
use Rattle.bit_reader.specs.Reader.{reader_over, reader_bits, reader_past, place_after, Inside}
use Rattle.bit_reader.specs.declared.BitReader.{BitReader}
use Rattle.fields.specs.Answer.{place_of, leaving}
use Rattle.fields.specs.Rules.{spares}
use Rattle.fields.specs.declared.CountedRead.{CountedRead}
use Rattle.fields.proofs.HeaderRow.{After, after_field, field_below}
use Rattle.h261_layers.specs.Answer.{as_header}
use Rattle.h261_layers.proofs.HeaderOf.{header_read, spare_placed, spare_counted, spare_within}
use Rattle.h261_layers.proofs.head.header.Goals as goal

-- a field that was read, and the reader after it
record Go (s : Bor (List ℕ)) (n p k : ℕ) (x : FieldRead ℕ) (r : BitReader) : Type 0 where
  is_read : as_field s.now n x ≡ field k (bits_left s.now n p) p
  after : After s.now n p (place_after n x)
  over : r ≡ reader_over s n (place_after n x)

go : (s : Bor (List ℕ)) (n p k : ℕ) (x : FieldRead ℕ) (r q : BitReader) → Within s.now n p → r ≡ reader_over s n p
    → as_field r.bytes.now r.count x ≡ field k (reader_bits r) r.place → q ≡ reader_past r x → Go s n p k x q
go s n p k x r q w e h past =
    let is : as_field s.now n x ≡ field k (bits_left s.now n p) p = subst (λ (z : BitReader). as_field z.bytes.now z.count x ≡ field k (reader_bits z) z.place) e h in
    record { is_read = is; after = after_field s.now n p k x w is; over = past ∙ ap (λ (z : BitReader). reader_past z x) e }

over_inside : (s : Bor (List ℕ)) (n p : ℕ) (r : BitReader) → r ≡ reader_over s n p → Within s.now n p → Inside r
over_inside s n p r e w = rw e w

over_placed : (s : Bor (List ℕ)) (n p : ℕ) (r : BitReader) → r ≡ reader_over s n p → Placed s.now n (place_of p 3) → Placed r.bytes.now r.count (place_of r.place 3)
over_placed s n p r e w = rw e w

over_spares : (s : Bor (List ℕ)) (n p : ℕ) (r : BitReader) (x : CountedRead (Unit {0})) → r ≡ reader_over s n p
    → leaving r.bytes.now r.count x 0 ≡ spares (reader_bits r) (place_of r.place 3) → leaving s.now n x 0 ≡ spares (bits_left s.now n p) (place_of p 3)
over_spares s n p r x e h = subst (λ (z : BitReader). leaving z.bytes.now z.count x 0 ≡ spares (reader_bits z) (place_of z.place 3)) e h

over_field : (s : Bor (List ℕ)) (n p k : ℕ) (r : BitReader) (x : FieldRead ℕ) → r ≡ reader_over s n p
    → as_field r.bytes.now r.count x ≡ field k (reader_bits r) r.place → as_field s.now n x ≡ field k (bits_left s.now n p) p
over_field s n p k r x e h = subst (λ (z : BitReader). as_field z.bytes.now z.count x ≡ field k (reader_bits z) z.place) e h

pub field-tr-requires : goal.field-tr-requires
field-tr-requires c =
    let a = c.args in
    let g = go a.bytes a.count a.at 20 _ _ _ c.requires.within c.new-at_start.ensures c.field-psc.ensures c.after-at_tr.ensures in
    (over_inside _ _ _ _ g.over g.after.within, lit≤ tt)

pub field-ptype-requires : goal.field-ptype-requires
field-ptype-requires c =
    let a = c.args in
    let g = go a.bytes a.count a.at 20 _ _ _ c.requires.within c.new-at_start.ensures c.field-psc.ensures c.after-at_tr.ensures in
    let h = go _ _ _ 5 _ _ _ g.after.within g.over c.field-tr.ensures c.after-at_ptype.ensures in
    (over_inside _ _ _ _ h.over h.after.within, lit≤ tt)

pub drop_spares-spare-requires : goal.drop_spares-spare-requires
drop_spares-spare-requires c =
    let a = c.args in
    let g = go a.bytes a.count a.at 20 _ _ _ c.requires.within c.new-at_start.ensures c.field-psc.ensures c.after-at_tr.ensures in
    let h = go _ _ _ 5 _ _ _ g.after.within g.over c.field-tr.ensures c.after-at_ptype.ensures in
    let i = go _ _ _ 6 _ _ _ h.after.within h.over c.field-ptype.ensures c.after-at_spares.ensures in
    over_placed _ _ _ _ i.over (spare_placed _ _ _ _ _ c.requires g.is_read (le_trans h.after.onward i.after.onward) i.after.within)

pub field-gbsc-requires : goal.field-gbsc-requires
field-gbsc-requires c =
    let a = c.args in
    let g = go a.bytes a.count a.at 20 _ _ _ c.requires.within c.new-at_start.ensures c.field-psc.ensures c.after-at_tr.ensures in
    let h = go _ _ _ 5 _ _ _ g.after.within g.over c.field-tr.ensures c.after-at_ptype.ensures in
    let i = go _ _ _ 6 _ _ _ h.after.within h.over c.field-ptype.ensures c.after-at_spares.ensures in
    let asked = spare_placed _ _ _ _ _ c.requires g.is_read (le_trans h.after.onward i.after.onward) i.after.within in
    let read = over_spares _ _ _ _ _ i.over c.drop_spares-spare.ensures in (
      over_inside a.bytes a.count _ _
          (c.after-at_gbsc.ensures ∙ (λ j. reader_past (i.over j) (c.plain_spares-dropped.ensures j)))
          (spare_within _ _ _ _ asked read),
      lit≤ tt,
    )

pub header_of-requires : goal.header_of-requires
header_of-requires c =
    let a = c.args in
    let g = go a.bytes a.count a.at 20 _ _ _ c.requires.within c.new-at_start.ensures c.field-psc.ensures c.after-at_tr.ensures in
    let h = go _ _ _ 5 _ _ _ g.after.within g.over c.field-tr.ensures c.after-at_ptype.ensures in
    let i = go _ _ _ 6 _ _ _ h.after.within h.over c.field-ptype.ensures c.after-at_spares.ensures in
    let asked = spare_placed _ _ _ _ _ c.requires g.is_read (le_trans h.after.onward i.after.onward) i.after.within in
    let read = over_spares _ _ _ _ _ i.over c.drop_spares-spare.ensures in
    (field_below _ _ _ 5 _ g.after.within h.is_read, field_below _ _ _ 6 _ h.after.within i.is_read, spare_counted _ _ _ _ asked read)

pub returns : goal.returns
returns c =
    let a = c.args in
    let g = go a.bytes a.count a.at 20 _ _ _ c.requires.within c.new-at_start.ensures c.field-psc.ensures c.after-at_tr.ensures in
    let h = go _ _ _ 5 _ _ _ g.after.within g.over c.field-tr.ensures c.after-at_ptype.ensures in
    let i = go _ _ _ 6 _ _ _ h.after.within h.over c.field-ptype.ensures c.after-at_spares.ensures in
    ap (as_header a.bytes.now a.count) c.header_of.ensures
    ∙ header_read a.format record {
      psc_read = g.is_read;
      tr_read = h.is_read;
      ptype_read = i.is_read;
      spare_read = over_spares _ _ _ _ _ i.over c.drop_spares-spare.ensures;
      gbsc_read = over_field _ _ _ 16 _ _ (c.after-at_gbsc.ensures ∙ (λ j. reader_past (i.over j) (c.plain_spares-dropped.ensures j))) c.field-gbsc.ensures;
    }
