-- What the six reads of a picture's header come to, on plain values: each in turn was got and rule-kept no_header its rule, and what is left of the header
-- follows; or it ends the header. And that this is the header that the grammar reads, by equations: refusal 14 is placed inside PTYPE, so `Reads`
-- says nothing of it. Assumes nothing.
use mathlib.Core.Path.{◌≡◌, refl, sym, ap, ◌∙◌, subst}
use mathlib.Core.Bool.{Bool, true, false}
use mathlib.Core.List.{List}
use Prim.Native.Nat.{ℕ, ◌+◌, ◌<◌, ◌≤◌, ◌/◌, ◌%◌}
use native.Mathlib.Omega.{arith}
use lib.Dec.{eqb}
use borrow.Author.Tests.{eq-eqb, ne_eqb}
use Rattle.refusals.specs.declared.Refusal.{Refusal}
use Rattle.laws.specs.Choice.{pick}
use Rattle.laws.proofs.Choice.{second_no}
use Rattle.refusals.specs.declared.Reason.TheVariants.{NoStartCode, OtherFormat, QuantiserZero, OptionalMode}
use Rattle.refusals.specs.Number.{refusal}
use Rattle.bits.specs.Bits.{bits_left}
use Rattle.bits.specs.Places.{counted, stop_in}
use Rattle.bits.specs.Read.{ReadIn, ReaderIn, got, refused, endless, next, ◌>>=◌, done, field, fine, against, judged_read}
use Rattle.bits.specs.Answer.{Within, Placed, as_field}
use Rattle.bits.specs.declared.Place.{Place}
use Rattle.bits.specs.declared.Stopped.{Stopped}
use Rattle.bits.specs.declared.FieldRead.{FieldRead}
use Rattle.bits.specs.declared.FieldRead.TheVariants.{Got as GotField, Refused as NoField}
use Rattle.bits.proofs.Fields.{FieldGot, field-got}
use Rattle.bit_reader.specs.Reader.{place_after}
use Rattle.fields.specs.Answer.{place_of, leaving, field_stopped, stopped_of}
use Rattle.fields.specs.Header.{and_then, ruled, after_spare}
use Rattle.fields.specs.Rules.{quantiser, spares}
use Rattle.fields.specs.declared.CountedRead.{CountedRead}
use Rattle.fields.specs.declared.CountedRead.TheVariants.{Got, Refused}
use Rattle.fields.proofs.HeaderRow.{refused_then, got_then, rule_kept, rule_broken, refused_spare, field_row, ruled_row, spare_row}
use Rattle.size.specs.declared.Size.{Size}
use Rattle.h263_description.specs.Value.{format_code}
use Rattle.h263_layers.specs.declared.Header as D
use Rattle.h263_layers.specs.Grammar.{Ptype, ptype_in, format_of, mode_bit, modes_of, ptype_read, cpm_of, cpm_read, Header, header}
use Rattle.h263_layers.specs.Answer.{as_header, Spans, against_at, no_header, moded, code_is, quantiser_of, header_of}

-- ---- the rules
code_yes : (x : ℕ) → x ≡ 32 → code_is x ≡ fine x
code_yes x e = rw (eq-eqb x 32 e)

code_no : (x : ℕ) → (x ≡ 32 → ⊥) → code_is x ≡ against NoStartCode
code_no x e = rw (ne_eqb x 32 e)

module _ (size : Size) (x : ℕ) where
  format_old : (x / 2048 ≡ 2 → ⊥) → format_of size x ≡ against OtherFormat
  format_old f = rw (ne_eqb (x / 2048) 2 f)

  format_no : (x / 32 % 8 ≡ format_code size → ⊥) → format_of size x ≡ against OtherFormat
  format_no f = ap (λ (b : Bool). pick b (fine x) (against OtherFormat)) (second_no (eqb (x / 2048) 2) (eqb (x / 32 % 8) (format_code size)) (ne_eqb (x / 32 % 8) (format_code size) f))

  format_yes : x / 2048 ≡ 2 → x / 32 % 8 ≡ format_code size → format_of size x ≡ fine x
  format_yes e f = rw (eq-eqb (x / 2048) 2 e, eq-eqb (x / 32 % 8) (format_code size) f)

quantiser_no : (x : ℕ) → x ≡ 0 → quantiser_of x ≡ against QuantiserZero
quantiser_no x e = rw (eq-eqb x 0 e)

quantiser_yes : (x : ℕ) → (x ≡ 0 → ⊥) → quantiser_of x ≡ fine x
quantiser_yes x e = rw (ne_eqb x 0 e)

cpm_no : (x : ℕ) → (x ≡ 0 → ⊥) → cpm_of x ≡ against OptionalMode
cpm_no x e = rw (ne_eqb x 0 e)

cpm_yes : (x : ℕ) → x ≡ 0 → cpm_of x ≡ fine x
cpm_yes x e = rw (eq-eqb x 0 e)

-- ---- which mode: the first of the four bits that is set
module _ (x : ℕ) where
  pub mode_first : x / 8 % 2 ≡ 1 → 9 ≡ mode_bit x
  mode_first e = rw (eq-eqb (x / 8 % 2) 1 e)

  module _ (a : x / 8 % 2 ≡ 1 → ⊥) where
    pub mode_second : x / 4 % 2 ≡ 1 → 10 ≡ mode_bit x
    mode_second e = rw (ne_eqb (x / 8 % 2) 1 a, eq-eqb (x / 4 % 2) 1 e)

    module _ (b : x / 4 % 2 ≡ 1 → ⊥) where
      pub mode_third : x / 2 % 2 ≡ 1 → 11 ≡ mode_bit x
      mode_third e = rw (ne_eqb (x / 8 % 2) 1 a, ne_eqb (x / 4 % 2) 1 b, eq-eqb (x / 2 % 2) 1 e)

      pub mode_last : (x / 2 % 2 ≡ 1 → ⊥) → 12 ≡ mode_bit x
      mode_last e = rw (ne_eqb (x / 8 % 2) 1 a, ne_eqb (x / 4 % 2) 1 b, ne_eqb (x / 2 % 2) 1 e)

pub mode_low : (x : ℕ) → mode_bit x ≤ 12
mode_low x = by (eqb (x / 8 % 2) 1) (eqb (x / 4 % 2) 1) (eqb (x / 2 % 2) 1)
  where
    by : (a b c : Bool) → pick a 9 (pick b 10 (pick c 11 12)) ≤ 12
    by true b c = omega arith
    by false true c = omega arith
    by false false true = omega arith
    by false false false = omega arith

-- PTYPE after TR
pub spans_got : (k : ℕ) {v p w q : ℕ} (x y : FieldRead ℕ) → Spans k x y → x ≡ GotField v p → y ≡ GotField w q → p + k < 18446744073709551616
spans_got k {v} {p} x y s e f = subst (λ (z : FieldRead ℕ). Spans k (GotField v p) z) f (subst (λ (z : FieldRead ℕ). Spans k z y) e s)

-- ---- what is left of the header
abbrev from_spare : ℕ → Ptype → ℕ → CountedRead (Unit {0}) → CountedRead D.Header
from_spare reference said quantised spare = after_spare no_header spare (λ next. Got (record { tr = reference; ptype = said.ptype; kind = said.type; pquant = quantised }) next)

abbrev from_cpm : ℕ → Ptype → ℕ → Place → FieldRead ℕ → CountedRead (Unit {0}) → CountedRead D.Header
from_cpm reference said quantised at_cpm cpm spare = and_then no_header 4 cpm (λ w q. ruled no_header (cpm_of w) at_cpm.bit q (λ single. from_spare reference said quantised spare))

abbrev from_pquant : ℕ → Ptype → Place → FieldRead ℕ → FieldRead ℕ → CountedRead (Unit {0}) → CountedRead D.Header
from_pquant reference said at_pquant pquant cpm spare =
    and_then no_header 3 pquant (λ z q. ruled no_header (quantiser_of z) at_pquant.bit q (λ quantised. from_cpm reference said quantised q cpm spare))

abbrev from_ptype : Size → ℕ → Place → FieldRead ℕ → FieldRead ℕ → FieldRead ℕ → CountedRead (Unit {0}) → CountedRead D.Header
from_ptype size reference at_ptype ptype pquant cpm spare =
    and_then no_header 2 ptype (λ y q. ruled no_header (format_of size y) at_ptype.bit q (λ information.
    moded information at_ptype.bit q (λ said. from_pquant reference said q pquant cpm spare)))

abbrev from_tr : Size → FieldRead ℕ → FieldRead ℕ → FieldRead ℕ → FieldRead ℕ → CountedRead (Unit {0}) → CountedRead D.Header
from_tr size tr ptype pquant cpm spare = and_then no_header 1 tr (λ reference at_ptype. from_ptype size reference at_ptype ptype pquant cpm spare)

-- ---- each read in turn
module _ (size : Size) (at : ℕ) (psc tr ptype pquant cpm : FieldRead ℕ) (spare : CountedRead (Unit {0})) where
  abbrev whole : CountedRead D.Header
  whole = header_of size at psc tr ptype pquant cpm spare

  pub no_psc : {why : Refusal} (y : Stopped) → psc ≡ NoField why → y ≡ field_stopped 1 psc → Refused y ≡ whole
  unfolding header_of
  no_psc y t e = refused_then no_header 0 psc _ y t e

  module _ {x p : ℕ} (got_psc : psc ≡ GotField x p) where
    pub bad_psc : (x ≡ 32 → ⊥) → against_at NoStartCode at 1 ≡ whole
    unfolding header_of
    bad_psc not = rule_broken no_header at (place_of p 1) (λ start. from_tr size tr ptype pquant cpm spare) (code_no x not) ∙ sym (got_then no_header 0 _ got_psc)

    module _ (is_psc : x ≡ 32) where
      from_tr_lem : whole ≡ from_tr size tr ptype pquant cpm spare
      unfolding header_of
      from_tr_lem = got_then no_header 0 _ got_psc ∙ rule_kept no_header at (place_of p 1) (λ start. from_tr size tr ptype pquant cpm spare) (code_yes x is_psc)

      pub no_tr : {why : Refusal} (y : Stopped) → tr ≡ NoField why → y ≡ field_stopped 2 tr → Refused y ≡ whole
      no_tr y t e = refused_then no_header 1 tr _ y t e ∙ sym from_tr_lem

      module _ {reference at_ptype : ℕ} (got_tr : tr ≡ GotField reference at_ptype) where
        from_ptype_lem : whole ≡ from_ptype size reference (place_of at_ptype 2) ptype pquant cpm spare
        from_ptype_lem = from_tr_lem ∙ got_then no_header 1 _ got_tr

        pub no_ptype : {why : Refusal} (y : Stopped) → ptype ≡ NoField why → y ≡ field_stopped 3 ptype → Refused y ≡ whole
        no_ptype y t e = refused_then no_header 2 ptype _ y t e ∙ sym from_ptype_lem

        module _ {y q : ℕ} (got_ptype : ptype ≡ GotField y q) where
          abbrev Said : Ptype → CountedRead D.Header
          Said said = from_pquant reference said (place_of q 3) pquant cpm spare

          abbrev Rest : ℕ → CountedRead D.Header
          Rest information = moded information at_ptype (place_of q 3) Said

          other : format_of size y ≡ against OtherFormat → against_at OtherFormat at_ptype 3 ≡ whole
          other e = rule_broken no_header at_ptype (place_of q 3) Rest e ∙ sym (from_ptype_lem ∙ got_then no_header 2 _ got_ptype)

          pub other_start : (y / 2048 ≡ 2 → ⊥) → against_at OtherFormat at_ptype 3 ≡ whole
          other_start not = other (format_old size y not)

          pub other_format : (y / 32 % 8 ≡ format_code size → ⊥) → against_at OtherFormat at_ptype 3 ≡ whole
          other_format not = other (format_no size y not)

          module _ (is_start : y / 2048 ≡ 2) (is_format : y / 32 % 8 ≡ format_code size) where
            from_modes : whole ≡ Rest y
            from_modes = from_ptype_lem ∙ got_then no_header 2 _ got_ptype ∙ rule_kept no_header at_ptype (place_of q 3) Rest (format_yes size y is_start is_format)

            pub mode_set : (y % 16 ≡ 0 → ⊥) → against_at OptionalMode (at_ptype + mode_bit y) 3 ≡ whole
            mode_set f = sym (from_modes ∙ ap (λ (b : Bool). pick b (Said (ptype_in y)) (against_at OptionalMode (at_ptype + mode_bit y) 3)) (ne_eqb (y % 16) 0 f))

            module _ (no_mode : y % 16 ≡ 0) where
              from_pquant_lem : whole ≡ Said (ptype_in y)
              from_pquant_lem = from_modes ∙ ap (λ (b : Bool). pick b (Said (ptype_in y)) (against_at OptionalMode (at_ptype + mode_bit y) 3)) (eq-eqb (y % 16) 0 no_mode)

              pub no_pquant : {why : Refusal} (r : Stopped) → pquant ≡ NoField why → r ≡ field_stopped 4 pquant → Refused r ≡ whole
              no_pquant r t e = refused_then no_header 3 pquant _ r t e ∙ sym from_pquant_lem

              module _ {z at_cpm : ℕ} (got_pquant : pquant ≡ GotField z at_cpm) where
                abbrev Quantised : ℕ → CountedRead D.Header
                Quantised quantised = from_cpm reference (ptype_in y) quantised (place_of at_cpm 4) cpm spare

                pub zero_pquant : z ≡ 0 → against_at QuantiserZero q 4 ≡ whole
                zero_pquant e = rule_broken no_header q (place_of at_cpm 4) Quantised (quantiser_no z e) ∙ sym (from_pquant_lem ∙ got_then no_header 3 _ got_pquant)

                module _ (is_pquant : z ≡ 0 → ⊥) where
                  from_cpm_lem : whole ≡ Quantised z
                  from_cpm_lem = from_pquant_lem ∙ got_then no_header 3 _ got_pquant ∙ rule_kept no_header q (place_of at_cpm 4) Quantised (quantiser_yes z is_pquant)

                  pub no_cpm : {why : Refusal} (r : Stopped) → cpm ≡ NoField why → r ≡ field_stopped 5 cpm → Refused r ≡ whole
                  no_cpm r t e = refused_then no_header 4 cpm _ r t e ∙ sym from_cpm_lem

                  module _ {w at_spares : ℕ} (got_cpm : cpm ≡ GotField w at_spares) where
                    abbrev Single : ℕ → CountedRead D.Header
                    Single single = from_spare reference (ptype_in y) z spare

                    pub set_cpm : (w ≡ 0 → ⊥) → against_at OptionalMode at_cpm 5 ≡ whole
                    set_cpm f = rule_broken no_header at_cpm (place_of at_spares 5) Single (cpm_no w f) ∙ sym (from_cpm_lem ∙ got_then no_header 4 _ got_cpm)

                    module _ (is_cpm : w ≡ 0) where
                      from_spare_lem : whole ≡ from_spare reference (ptype_in y) z spare
                      from_spare_lem = from_cpm_lem ∙ got_then no_header 4 _ got_cpm ∙ rule_kept no_header at_cpm (place_of at_spares 5) Single (cpm_yes w is_cpm)

                      pub no_spare : {why : Stopped} (r : Stopped) → spare ≡ Refused why → r ≡ stopped_of spare → Refused r ≡ whole
                      no_spare r t e = refused_spare no_header spare _ r t e ∙ sym from_spare_lem

                      pub header-got : {next : Place} → spare ≡ Got tt next
                          → Got (record { tr = reference; ptype = y / 256 % 8; kind = y / 16 % 2; pquant = z }) next ≡ whole
                      header-got e = sym (from_spare_lem ∙ ap (λ (x : CountedRead (Unit {0})). from_spare reference (ptype_in y) z x) e)

-- ---- the reads of a reader that goes on after each
-- where the spares are read from: after the five fields before them
abbrev pub spare_at : ℕ → FieldRead ℕ → Place
spare_at n cpm = place_of (place_after n cpm) 5

pub record HeaderReads (s : List ℕ) (n at : ℕ) (psc tr ptype pquant cpm : FieldRead ℕ) (spare : CountedRead (Unit {0})) : Type 0 where
  pub psc_read : as_field s n psc ≡ field 22 (bits_left s n at) at
  pub tr_read : as_field s n tr ≡ field 8 (bits_left s n (place_after n psc)) (place_after n psc)
  pub ptype_read : as_field s n ptype ≡ field 13 (bits_left s n (place_after n tr)) (place_after n tr)
  pub pquant_read : as_field s n pquant ≡ field 5 (bits_left s n (place_after n ptype)) (place_after n ptype)
  pub cpm_read : as_field s n cpm ≡ field 1 (bits_left s n (place_after n pquant)) (place_after n pquant)
  pub spare_read : leaving s n spare 0 ≡ spares (bits_left s n (place_after n cpm)) (spare_at n cpm)

-- a field of k bits, from where the one before it ended
pub field_spans : (s : List ℕ) (n k : ℕ) (x y : FieldRead ℕ) → n < 18446744073709551616 → Within s n (place_after n x)
    → as_field s n y ≡ field k (bits_left s n (place_after n x)) (place_after n x) → Spans k x y
field_spans s n k (GotField v p) (GotField u q) l w e =
    let g : FieldGot s n p k u q = field-got s n p k u q (bits_left s n q) w.inside (sym e) in
    omega (arith, l, g.next, g.in_source)
field_spans s n k (GotField v p) (NoField r) l w e = tt
field_spans s n k (NoField r) y l w e = tt

-- five reads may be made before the spares: PSC has 22 bits, or the bits have ended
pub spare_placed : (s : List ℕ) (n p place : ℕ) (psc : FieldRead ℕ) → Placed s n (place_of p 0) → as_field s n psc ≡ field 22 (bits_left s n p) p → place_after n psc ≤ place → Within s n place
    → Placed s n (place_of place 5)
spare_placed s n p place (GotField v q) w e l k =
    let g : FieldGot s n p 22 v q = field-got s n p 22 v q (bits_left s n q) w.within.inside (sym e) in
    record { within = k; countable = omega (arith, g.next, k.inside, w.countable) }
spare_placed s n p place (NoField y) w e l k = record { within = k; countable = omega (arith, k.inside) }

-- ---- the header as the grammar has it
-- what comes of PTYPE, where what follows it is the header
module _ {whole : ReadIn counted Header} (s : List ℕ) (n : ℕ) where
  ptype_row : (size : Size) (p : Place) (rest : Ptype → ReaderIn counted Header) → whole ≡ (ptype_read size >>= rest) (bits_left s n p.bit) p
      → (x : FieldRead ℕ) → as_field s n x ≡ field 13 (bits_left s n p.bit) p.bit → (then : Ptype → Place → CountedRead D.Header)
      → ((said : Ptype) (q : ℕ) → place_after n x ≡ q → whole ≡ rest said (bits_left s n q) (place_of q (p.reads + 1)) → as_header s n (then said (place_of q (p.reads + 1))) ≡ whole)
      → as_header s n (and_then no_header p.reads x (λ y q. ruled no_header (format_of size y) p.bit q (λ information. moded information p.bit q (λ said. then said q)))) ≡ whole
  unfolding ptype_read
  ptype_row size p rest h x e then go =
      ruled_row no_header (as_header s n) (λ y. refl) s n 13 p (format_of size) (λ y bs q. next (modes_of p y bs q) rest) (h ∙ assoc (judged_read (field 13) (format_of size) (bits_left s n p.bit) p)) x e
      (λ y q. moded y p.bit q (λ said. then said q)) (λ y q at w. by_mode y q at (eqb (y % 16) 0) w)
    where
      assoc : (z : ReadIn counted ℕ) → next (next z (modes_of p)) rest ≡ next z (λ y bs q. next (modes_of p y bs q) rest)
      assoc (got a bs q) = refl
      assoc (refused r) = refl
      assoc endless = refl

      by_mode : (y q : ℕ) → place_after n x ≡ q → (b : Bool)
          → whole ≡ next (pick b (got (ptype_in y) (bits_left s n q) (place_of q (p.reads + 1))) (refused (stop_in counted (refusal OptionalMode (p.bit + mode_bit y)) (place_of q (p.reads + 1))))) rest
          → as_header s n (pick b (then (ptype_in y) (place_of q (p.reads + 1))) (against_at OptionalMode (p.bit + mode_bit y) (p.reads + 1))) ≡ whole
      by_mode y q at true w = go (ptype_in y) q at w
      by_mode y q at false w = sym w

-- ---- what is left of the header that is read
abbrev read_spares : ℕ → Ptype → ℕ → ReaderIn counted Header
read_spares tr said pquant = spares >>= λ dropped. done (record { tr = tr; ptype = said.ptype; type = said.type; pquant = pquant })

abbrev read_cpm : ℕ → Ptype → ℕ → ReaderIn counted Header
read_cpm tr said pquant = cpm_read >>= λ cpm. read_spares tr said pquant

abbrev read_pquant : ℕ → Ptype → ReaderIn counted Header
read_pquant tr said = quantiser >>= λ pquant. read_cpm tr said pquant

abbrev read_ptype : Size → ℕ → ReaderIn counted Header
read_ptype size tr = ptype_read size >>= λ said. read_pquant tr said

abbrev read_tr : Size → ReaderIn counted Header
read_tr size = field 8 >>= λ tr. read_ptype size tr

pub header_read : (size : Size) {s : List ℕ} {n at : ℕ} {psc tr ptype pquant cpm : FieldRead ℕ} {spare : CountedRead (Unit {0})} → HeaderReads s n at psc tr ptype pquant cpm spare
    → as_header s n (header_of size at psc tr ptype pquant cpm spare) ≡ header size (bits_left s n at) (place_of at 0)
unfolding header_of header
header_read size {s} {n} {at} {psc} {tr} {ptype} {pquant} {cpm} {spare} h =
    ruled_row no_header (as_header s n) (λ y. refl) s n 22 (place_of at 0) code_is (λ start. read_tr size) refl psc h.psc_read (λ start p. from_tr size tr ptype pquant cpm spare) (λ start p e₁ row₁.
    field_row no_header (as_header s n) (λ y. refl) s n 8 (place_of p 1) (read_ptype size) row₁ tr (subst (λ (p : ℕ). as_field s n tr ≡ field 8 (bits_left s n p) p) e₁ h.tr_read) (λ reference p. from_ptype size reference p ptype pquant cpm spare) (λ reference at_ptype e₂ row₂.
    ptype_row s n size (place_of at_ptype 2) (read_pquant reference) row₂ ptype (subst (λ (p : ℕ). as_field s n ptype ≡ field 13 (bits_left s n p) p) e₂ h.ptype_read) (λ said p. from_pquant reference said p pquant cpm spare) (λ said at_pquant e₃ row₃.
    ruled_row no_header (as_header s n) (λ y. refl) s n 5 (place_of at_pquant 3) quantiser_of (read_cpm reference said) row₃ pquant (subst (λ (p : ℕ). as_field s n pquant ≡ field 5 (bits_left s n p) p) e₃ h.pquant_read) (λ quantised p. from_cpm reference said quantised p cpm spare) (λ quantised at_cpm e₄ row₄.
    ruled_row no_header (as_header s n) (λ y. refl) s n 1 (place_of at_cpm 4) cpm_of (λ single. read_spares reference said quantised) row₄ cpm (subst (λ (p : ℕ). as_field s n cpm ≡ field 1 (bits_left s n p) p) e₄ h.cpm_read) (λ single p. from_spare reference said quantised spare) (λ single at_spares e₅ row₅.
    spare_row no_header (as_header s n) (λ y. refl) s n (place_of at_spares 5) (λ dropped. done (record { tr = reference; ptype = said.ptype; type = said.type; pquant = quantised })) row₅ spare (subst (λ (p : ℕ). leaving s n spare 0 ≡ spares (bits_left s n p) (place_of p 5)) e₅ h.spare_read) (λ next. Got (record { tr = reference; ptype = said.ptype; kind = said.type; pquant = quantised }) next) (λ next e₆ row₆. sym row₆))))))
