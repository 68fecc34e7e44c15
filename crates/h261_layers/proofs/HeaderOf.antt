-- What the five reads of a picture's header come to, on plain values: each in turn was got and rule-kept no_header its rule, and what is left of the header
-- follows; or it ends the header. And that this is the header that the grammar reads. Assumes nothing.
use mathlib.Core.Path.{◌≡◌, refl, sym, ap, ◌∙◌, subst}
use mathlib.Core.List.{List}
use Prim.Native.Nat.{ℕ, ◌+◌, ◌<◌, ◌≤◌, ◌/◌, ◌%◌}
use native.Mathlib.Nat.{le_refl}
use native.Mathlib.Omega.{arith}
use borrow.Author.Tests.{eq-eqb, ne_eqb}
use Rattle.refusals.specs.declared.Refusal.{Refusal}
use Rattle.refusals.specs.declared.Reason.TheVariants.{NoStartCode, OtherFormat}
use Rattle.refusals.specs.Number.{refusal}
use Rattle.bits.specs.Bits.{bits_left}
use Rattle.bits.specs.Read.{done, field, fine, against}
use Rattle.bits.specs.Answer.{Within, Placed, as_field}
use Rattle.bits.specs.declared.Place.{Place}
use Rattle.bits.specs.declared.Stopped.{Stopped}
use Rattle.bits.specs.declared.FieldRead.{FieldRead}
use Rattle.bits.specs.declared.FieldRead.TheVariants.{Got as GotField, Refused as NoField}
use Rattle.bits.proofs.Fields.{FieldGot, field-got}
use Rattle.bit_reader.specs.Reader.{place_after}
use Rattle.fields.specs.Answer.{place_of, leaving, plain_spares, field_stopped, stopped_of}
use Rattle.fields.specs.Header.{and_then, ruled, after_spare}
use Rattle.fields.specs.Rules.{spares}
use Rattle.fields.specs.declared.CountedRead.{CountedRead}
use Rattle.fields.specs.declared.CountedRead.TheVariants.{Got, Refused}
use Rattle.fields.proofs.Told.{within_next}
use Rattle.fields.proofs.RuleReads.{spares_reads}
use Rattle.fields.proofs.HeaderRow.{refused_then, got_then, rule_kept, rule_broken, refused_spare, field_row, ruled_row, spare_row}
use Rattle.h261_groups.specs.Format.{format_bit}
use Rattle.h261_groups.specs.declared.Format.{Format}
use Rattle.h261_layers.specs.Grammar.{ptype_of, header}
use Rattle.h261_layers.specs.Answer.{as_header, Counted, no_header, code_is, header_of}
use Rattle.h261_layers.proofs.HeadTurn.{ptype_other, ptype_still, ptype_yes}
use Rattle.h261_layers.proofs.HeaderSteps.{after_start, after_tr, after_ptype, after_spares}

-- ---- the codes
code_yes : (code x : ℕ) → x ≡ code → code_is code x ≡ fine x
code_yes code x e = rw (eq-eqb x code e)

code_no : (code x : ℕ) → (x ≡ code → ⊥) → code_is code x ≡ against NoStartCode
code_no code x e = rw (ne_eqb x code e)

-- spares that were got, with few reads
pub counted_got : {p : Place} (x : CountedRead (Unit {0})) → Counted x → x ≡ Got tt p → p.reads < 4294967296
counted_got x b e = subst (λ (z : CountedRead (Unit {0})). Counted z) e b

-- ---- what is left of the header
abbrev from_gbsc : ℕ → ℕ → Place → FieldRead ℕ → CountedRead (ℕ × ℕ)
from_gbsc reference information at_gbsc gbsc = and_then no_header at_gbsc.reads gbsc (λ z next. ruled no_header (code_is 1 z) at_gbsc.bit next (λ group. Got (reference, information) next))

abbrev from_spare : ℕ → ℕ → CountedRead (Unit {0}) → FieldRead ℕ → CountedRead (ℕ × ℕ)
from_spare reference information spare gbsc = after_spare no_header spare (λ at_gbsc. from_gbsc reference information at_gbsc gbsc)

abbrev from_ptype : Format → ℕ → Place → FieldRead ℕ → CountedRead (Unit {0}) → FieldRead ℕ → CountedRead (ℕ × ℕ)
from_ptype f reference at_ptype ptype spare gbsc = and_then no_header 2 ptype (λ y q. ruled no_header (ptype_of f y) at_ptype.bit q (λ information. from_spare reference information spare gbsc))

abbrev from_tr : Format → FieldRead ℕ → FieldRead ℕ → CountedRead (Unit {0}) → FieldRead ℕ → CountedRead (ℕ × ℕ)
from_tr f tr ptype spare gbsc = and_then no_header 1 tr (λ reference at_ptype. from_ptype f reference at_ptype ptype spare gbsc)

-- ---- each read in turn
module _ (f : Format) (at : ℕ) (psc tr ptype : FieldRead ℕ) (spare : CountedRead (Unit {0})) (gbsc : FieldRead ℕ) where
  abbrev whole : CountedRead (ℕ × ℕ)
  whole = header_of f at psc tr ptype spare gbsc

  pub no_psc : {why : Refusal} (y : Stopped) → psc ≡ NoField why → y ≡ field_stopped 1 psc → Refused y ≡ whole
  unfolding header_of
  no_psc y t e = refused_then no_header 0 psc _ y t e

  module _ {x p : ℕ} (got_psc : psc ≡ GotField x p) where
    pub bad_psc : (x ≡ 16 → ⊥) → Refused (record { refusal = refusal NoStartCode at; reads = 1 }) ≡ whole
    unfolding header_of
    bad_psc not = rule_broken no_header at (place_of p 1) (λ start. from_tr f tr ptype spare gbsc) (code_no 16 x not) ∙ sym (got_then no_header 0 _ got_psc)

    module _ (is_psc : x ≡ 16) where
      from_tr_lem : whole ≡ from_tr f tr ptype spare gbsc
      unfolding header_of
      from_tr_lem = got_then no_header 0 _ got_psc ∙ rule_kept no_header at (place_of p 1) (λ start. from_tr f tr ptype spare gbsc) (code_yes 16 x is_psc)

      pub no_tr : {why : Refusal} (y : Stopped) → tr ≡ NoField why → y ≡ field_stopped 2 tr → Refused y ≡ whole
      no_tr y t e = refused_then no_header 1 tr _ y t e ∙ sym from_tr_lem

      module _ {reference at_ptype : ℕ} (got_tr : tr ≡ GotField reference at_ptype) where
        from_ptype_lem : whole ≡ from_ptype f reference (place_of at_ptype 2) ptype spare gbsc
        from_ptype_lem = from_tr_lem ∙ got_then no_header 1 _ got_tr

        pub no_ptype : {why : Refusal} (y : Stopped) → ptype ≡ NoField why → y ≡ field_stopped 3 ptype → Refused y ≡ whole
        no_ptype y t e = refused_then no_header 2 ptype _ y t e ∙ sym from_ptype_lem

        module _ {y q : ℕ} (got_ptype : ptype ≡ GotField y q) where
          abbrev Rest : ℕ → CountedRead (ℕ × ℕ)
          Rest information = from_spare reference information spare gbsc

          pub other_format : (y / 4 % 2 ≡ format_bit f → ⊥) → Refused (record { refusal = refusal OtherFormat at_ptype; reads = 3 }) ≡ whole
          other_format not = rule_broken no_header at_ptype (place_of q 3) Rest (ptype_other y f not) ∙ sym (from_ptype_lem ∙ got_then no_header 2 _ got_ptype)

          module _ (is_format : y / 4 % 2 ≡ format_bit f) where
            pub still_image : y / 2 % 2 ≡ 0 → Refused (record { refusal = refusal OtherFormat at_ptype; reads = 3 }) ≡ whole
            still_image still = rule_broken no_header at_ptype (place_of q 3) Rest (ptype_still y f is_format still) ∙ sym (from_ptype_lem ∙ got_then no_header 2 _ got_ptype)

            module _ (moves : y / 2 % 2 ≡ 0 → ⊥) where
              from_spare_lem : whole ≡ from_spare reference (y / 8) spare gbsc
              from_spare_lem = from_ptype_lem ∙ got_then no_header 2 _ got_ptype ∙ rule_kept no_header at_ptype (place_of q 3) Rest (ptype_yes y f is_format moves)

              pub no_spare : {why : Stopped} (r : Stopped) → spare ≡ Refused why → r ≡ stopped_of spare → Refused r ≡ whole
              no_spare r t e = refused_spare no_header spare _ r t e ∙ sym from_spare_lem

              module _ {at_gbsc : Place} (got_spare : spare ≡ Got tt at_gbsc) where
                from_gbsc_lem : whole ≡ from_gbsc reference (y / 8) at_gbsc gbsc
                from_gbsc_lem = from_spare_lem ∙ ap (λ (z : CountedRead (Unit {0})). from_spare reference (y / 8) z gbsc) got_spare

                pub no_gbsc : {why : Refusal} (r : Stopped) → gbsc ≡ NoField why → r ≡ field_stopped (at_gbsc.reads + 1) gbsc → Refused r ≡ whole
                no_gbsc r t e = refused_then no_header at_gbsc.reads gbsc _ r t e ∙ sym from_gbsc_lem

                module _ {z next : ℕ} (got_gbsc : gbsc ≡ GotField z next) where
                  pub bad_gbsc : (z ≡ 1 → ⊥) → Refused (record { refusal = refusal NoStartCode at_gbsc.bit; reads = at_gbsc.reads + 1 }) ≡ whole
                  bad_gbsc not =
                      rule_broken no_header at_gbsc.bit (place_of next (at_gbsc.reads + 1)) (λ group. Got (reference, y / 8) (place_of next (at_gbsc.reads + 1))) (code_no 1 z not)
                      ∙ sym (from_gbsc_lem ∙ got_then no_header at_gbsc.reads _ got_gbsc)

                  pub header-got : z ≡ 1 → Got (reference, y / 8) (place_of next (at_gbsc.reads + 1)) ≡ whole
                  header-got is =
                      sym (from_gbsc_lem ∙ got_then no_header at_gbsc.reads _ got_gbsc
                      ∙ rule_kept no_header at_gbsc.bit (place_of next (at_gbsc.reads + 1)) (λ group. Got (reference, y / 8) (place_of next (at_gbsc.reads + 1))) (code_yes 1 z is))

-- ---- the reads of a reader that goes on after each
-- where the spares are read from: after the three fields before them
abbrev pub spare_at : ℕ → FieldRead ℕ → Place
spare_at n ptype = place_of (place_after n ptype) 3

pub record HeaderRead (s : List ℕ) (n at : ℕ) (psc tr ptype : FieldRead ℕ) (spare : CountedRead (Unit {0})) (gbsc : FieldRead ℕ) : Type 0 where
  pub psc_read : as_field s n psc ≡ field 20 (bits_left s n at) at
  pub tr_read : as_field s n tr ≡ field 5 (bits_left s n (place_after n psc)) (place_after n psc)
  pub ptype_read : as_field s n ptype ≡ field 6 (bits_left s n (place_after n tr)) (place_after n tr)
  pub spare_read : leaving s n spare 0 ≡ spares (bits_left s n (place_after n ptype)) (spare_at n ptype)
  pub gbsc_read : as_field s n gbsc ≡ field 16 (bits_left s n (place_after n (plain_spares spare))) (place_after n (plain_spares spare))

-- three reads may be made before the spares: PSC has 20 bits, or the bits have ended
pub spare_placed : (s : List ℕ) (n p place : ℕ) (psc : FieldRead ℕ) → Placed s n (place_of p 0) → as_field s n psc ≡ field 20 (bits_left s n p) p → place_after n psc ≤ place → Within s n place
    → Placed s n (place_of place 3)
spare_placed s n p place (GotField v q) w e l k =
    let g : FieldGot s n p 20 v q = field-got s n p 20 v q (bits_left s n q) w.within.inside (sym e) in
    record { within = k; countable = omega (arith, g.next, k.inside, w.countable) }
spare_placed s n p place (NoField y) w e l k = record { within = k; countable = omega (arith, k.inside) }

-- the spares: where they end, and that their reads are few
pub spare_counted : (s : List ℕ) (n : ℕ) (p : Place) (x : CountedRead (Unit {0})) → Placed s n p → leaving s n x 0 ≡ spares (bits_left s n p.bit) p → Counted x
spare_counted s n p (Got u q) w e = let k = within_next s n p 0 q spares_reads w (sym e) in omega (arith, k.countable)
spare_counted s n p (Refused r) w e = tt

pub spare_within : (s : List ℕ) (n : ℕ) (p : Place) (x : CountedRead (Unit {0})) → Placed s n p → leaving s n x 0 ≡ spares (bits_left s n p.bit) p → Within s n (place_after n (plain_spares x))
spare_within s n p (Got u q) w e = (within_next s n p 0 q spares_reads w (sym e)).within
spare_within s n p (Refused r) w e = record { lent = w.within.lent; inside = le_refl n }

-- ---- the header as the grammar has it
pub header_read : (f : Format) {s : List ℕ} {n at : ℕ} {psc tr ptype : FieldRead ℕ} {spare : CountedRead (Unit {0})} {gbsc : FieldRead ℕ} → HeaderRead s n at psc tr ptype spare gbsc
    → as_header s n (header_of f at psc tr ptype spare gbsc) ≡ header f (bits_left s n at) (place_of at 0)
unfolding header_of header
header_read f {s} {n} {at} {psc} {tr} {ptype} {spare} {gbsc} h =
    ruled_row no_header (as_header s n) (λ y. refl) s n 20 (place_of at 0) (code_is 16) (λ start. after_start f) refl psc h.psc_read (λ start p. from_tr f tr ptype spare gbsc) (λ start p e₁ row₁.
    field_row no_header (as_header s n) (λ y. refl) s n 5 (place_of p 1) (after_tr f) row₁ tr (subst (λ (p : ℕ). as_field s n tr ≡ field 5 (bits_left s n p) p) e₁ h.tr_read) (λ reference p. from_ptype f reference p ptype spare gbsc) (λ reference at_ptype e₂ row₂.
    ruled_row no_header (as_header s n) (λ y. refl) s n 6 (place_of at_ptype 2) (ptype_of f) (after_ptype reference) row₂ ptype (subst (λ (p : ℕ). as_field s n ptype ≡ field 6 (bits_left s n p) p) e₂ h.ptype_read) (λ information p. from_spare reference information spare gbsc) (λ information at_spare e₃ row₃.
    spare_row no_header (as_header s n) (λ y. refl) s n (place_of at_spare 3) (λ dropped. after_spares reference information) row₃ spare (subst (λ (p : ℕ). leaving s n spare 0 ≡ spares (bits_left s n p) (place_of p 3)) e₃ h.spare_read) (λ p. from_gbsc reference information p gbsc) (λ at_gbsc e₄ row₄.
    ruled_row no_header (as_header s n) (λ y. refl) s n 16 at_gbsc (code_is 1) (λ group. done (record { tr = reference; ptype = information })) row₄ gbsc (subst (λ (p : ℕ). as_field s n gbsc ≡ field 16 (bits_left s n p) p) e₄ h.gbsc_read) (λ group p. Got (reference, information) p) (λ group next e₅ row₅. sym row₅)))))
