-- The order of refusals in H.261's grammar. Document 01: "Order: 1, 2, then the earliest place, then the smaller number." Assumes nothing.
use Rattle.std.specs.Prelude.{ℕ, ◌+◌, ◌/◌, ◌%◌, Bool, List, [], ◌∷◌, eqb, leb, ltb}
use Rattle.laws.specs.Choice.{pick, both, either, opposite}
use Rattle.refusals.specs.declared.Reason.{Reason}
use Rattle.refusals.specs.declared.Reason.TheVariants.{NoStartCode, OtherFormat, OtherGroup, QuantiserZero, AddressPast, Forbidden, CoefficientPast, VectorOut, AfterLast}
use Rattle.refusals.specs.Number.{number}
use Rattle.bits.specs.Read.{field, judged_read}
use Rattle.bits.specs.Code.{CodeTable, word}
use Rattle.fields.specs.Rules.{expect, quantiser}
use Rattle.layout.specs.Numbers.{forbidden}
use Rattle.h261_words.specs.Tables.{table1, stuffing, start_code}
use Rattle.h261_words.specs.Words.{Event, sent, over, tcoeff, coefficient_read}
use Rattle.h261_groups.specs.declared.Format.{Format}
use Rattle.h261_groups.specs.Format.{format_bit}
use Rattle.layout.specs.Value.{Vector}
use Rattle.h261_description.specs.Vector.{in_picture}
use Rattle.h261_layers.specs.Vector.{components_read, vector_read}
use Rattle.h261_layers.specs.Grammar.{fits, dc_read, Mba, step, stuffed, ended, mba_of, ptype_of, picture}
use Rattle.order.specs.Order.{EarliestPlace, Rule, rule, SmallestNumber}

-- ---- the earliest place
-- 12 "out of the picture .. is judged once both components are read and in range", at the place of the horizontal one, whose codeword has up to 11 bits
abbrev pub backwards : Reason → ℕ
backwards reason = pick (eqb (number reason) 12) 11 0

abbrev pub PictureEarliest : Type 0
PictureEarliest = (f : Format) → EarliestPlace backwards (picture f)

-- ---- the smaller number, at every place where a rule judges: 3 is a field's own, 3 and 8 are a codeword's
-- 10 before 11
abbrev pub coefficient_rules : ℕ → Event → List Rule
coefficient_rules room (sent c) = rule Forbidden (forbidden c.code) ∷ rule CoefficientPast (leb room c.run) ∷ []
coefficient_rules room over = []

-- 9 before 13
abbrev pub mba_rules : Bool → ℕ → ℕ → List Rule
mba_rules last address m =
    rule AddressPast (both (opposite (either (eqb m stuffing) (eqb m start_code))) (ltb 33 (address + m))) ∷
    rule AfterLast (both last (eqb m start_code)) ∷ []

abbrev pub mba_meaning : ℕ → Mba
mba_meaning m = pick (eqb m stuffing) stuffed (pick (eqb m start_code) ended (step m))

pub record PictureSmallest : Type 0 where
  pub start_code : (k v : ℕ) → SmallestNumber 3 (field k) (λ x. rule NoStartCode (opposite (eqb x v)) ∷ []) (λ x. x) (expect k v NoStartCode)
  pub ptype : (f : Format) → SmallestNumber 3 (field 6) (λ x. rule OtherFormat (opposite (both (eqb (x / 4 % 2) (format_bit f)) (eqb (x / 2 % 2) 1))) ∷ []) (λ x. x / 8) (judged_read (field 6) (ptype_of f))
  pub group_number : (k v : ℕ) → SmallestNumber 3 (field k) (λ x. rule OtherGroup (opposite (eqb x v)) ∷ []) (λ x. x) (expect k v OtherGroup)
  pub quantisers : SmallestNumber 3 (field 5) (λ q. rule QuantiserZero (eqb q 0) ∷ []) (λ q. q) quantiser
  pub addresses : (last : Bool) (address : ℕ) → SmallestNumber 8 (word table1) (mba_rules last address) mba_meaning (judged_read (word table1) (mba_of last address))
  pub dc_codes : SmallestNumber 3 (field 8) (λ code. rule Forbidden (forbidden code) ∷ []) (λ code. code) dc_read
  pub coefficients : (room : ℕ) (table : CodeTable) → SmallestNumber 8 (tcoeff table) (coefficient_rules room) (λ e. e) (judged_read (coefficient_read table) (fits room))
  pub vectors : (f : Format) (group address : ℕ) (preceding : Vector)
      → SmallestNumber 12 (components_read preceding) (λ v. rule VectorOut (opposite (in_picture f group address v)) ∷ []) (λ v. v) (vector_read f group address preceding)
