-- The header of a group as a row of reads: what is left of it after each; and by what stands where the group begins. Assumes nothing.
use mathlib.Core.Path.{◌≡◌, refl, sym, ap, ◌∙◌}
use mathlib.Core.Bool.{Bool, true, false}
use mathlib.Core.List.{List}
use Prim.Native.Nat.{ℕ, zero, suc, ◌+◌, ◌≤◌, zero-le}
use native.Mathlib.Omega.{arith}
use native.Mathlib.Nat.{pos_of_ne-zero}
use lib.Dec.{T, leb, eqb, le→leb}
use denote.Enum.Declared.{tag_of}
use Rattle.laws.specs.Choice.{pick}
use Rattle.refusals.specs.declared.Reason.TheVariants.{BitsEnd, OtherGroup}
use Rattle.refusals.specs.Number.{refusal}
use Rattle.bits.specs.Bits.{Bit, bits_left}
use Rattle.bits.specs.Places.{counted}
use Rattle.bits.specs.Read.{ReadIn, got, refused, ReaderIn, ◌>>=◌, field}
use Rattle.bits.specs.Answer.{Placed}
use Rattle.bits.specs.declared.Place.{Place}
use Rattle.fields.specs.Rules.{expect, quantiser}
use Rattle.fields.proofs.Row.{Row}
use Rattle.h263_layers.specs.Start.{Ahead, stands, absent, cut_off, to_byte, one_ahead, zeros_ahead, ahead_of, ahead}
use Rattle.h263_layers.specs.Grammar.{head_fields, head_after, group_head}
use Rattle.h263_layers.specs.Answer.{as_ahead}
use Rattle.h263_layers.specs.declared.start.Ahead as C
use Rattle.h263_layers.specs.declared.start.Ahead.TheVariants.{Stands, Absent, CutOff}
use Rattle.h263_layers.specs.contracts.start.Ahead.{the_type as ahead_type}

-- ---- the header
abbrev pub after_number : ReaderIn counted ℕ
after_number = field 2 >>= λ gfid. quantiser

abbrev pub after_start : ℕ → ReaderIn counted ℕ
after_start number = expect 5 number OtherGroup >>= λ gn. after_number

pub fields_begun : (number : ℕ) (s : List ℕ) (n : ℕ) (p : Place) → Placed s n p
    → Row (head_fields number (bits_left s n p.bit) p) s n (field 17 >>= λ gbsc. after_start number) p
unfolding head_fields
fields_begun number s n p w = record { placed = w; same = refl }

-- ---- what stands
module _ {x : Ahead} where
  pub told_absent : (r : C.Ahead) → tag_of ahead_type r ≡ 1 → as_ahead r ≡ x → absent ≡ x
  told_absent (Stands k) t e = absurd (omega arith)
  told_absent Absent t e = e
  told_absent CutOff t e = absurd (omega arith)

  pub told_cut : (r : C.Ahead) → tag_of ahead_type r ≡ 2 → as_ahead r ≡ x → cut_off ≡ x
  told_cut (Stands k) t e = absurd (omega arith)
  told_cut Absent t e = absurd (omega arith)
  told_cut CutOff t e = e

  pub told_stands : (r : C.Ahead) (k : ℕ) → as_ahead r ≡ x → r ≡ Stands k → stands k ≡ x
  told_stands r k e w = sym (ap as_ahead w) ∙ e

module _ (number : ℕ) (bs : List Bit) (at : Place) where
  by_ahead : {a : Ahead} → a ≡ ahead bs at.bit → head_after {P = counted} number a bs at ≡ group_head {P = counted} number bs at
  unfolding group_head
  by_ahead e = ap (λ (a : Ahead). head_after {P = counted} number a bs at) e

  pub head_absent : absent ≡ ahead bs at.bit → got 0 bs at ≡ group_head {P = counted} number bs at
  head_absent e = by_ahead e

  pub head_cut : cut_off ≡ ahead bs at.bit → ◌≡◌ {A = ReadIn counted ℕ} (refused (record { refusal = refusal BitsEnd at.bit; reads = at.reads + 1 })) (group_head {P = counted} number bs at)
  head_cut e = by_ahead e

  pub head_alone : (k : ℕ) → stands k ≡ ahead bs at.bit → k ≡ 0 → head_fields {P = counted} number bs at ≡ group_head {P = counted} number bs at
  head_alone zero e z = by_ahead e
  head_alone (suc k) e z = absurd (omega arith)

  pub head_stuffed : (k : ℕ) → stands k ≡ ahead bs at.bit → (k ≡ 0 → ⊥) → (field {P = counted} k >>= λ dropped. head_fields number) bs at ≡ group_head {P = counted} number bs at
  head_stuffed zero e z = absurd (z refl)
  head_stuffed (suc k) e z = by_ahead e

-- GSTUF, and the header
pub stuffed_begun : (number : ℕ) (s : List ℕ) (n : ℕ) (p : Place) (k : ℕ) → Placed s n p → stands k ≡ ahead (bits_left s n p.bit) p.bit → (k ≡ 0 → ⊥)
    → Row (group_head number (bits_left s n p.bit) p) s n (field k >>= λ dropped. head_fields number) p
stuffed_begun number s n p k w e z = record { placed = w; same = sym (head_stuffed number (bits_left s n p.bit) p k e z) }

pub some_bits : (k : ℕ) → (k ≡ 0 → ⊥) → T (leb 1 k)
some_bits k z = le→leb 1 k (pos_of_ne-zero z)

-- GSTUF has 7 bits at most
pub stuffing_short : (bs : List Bit) (at k : ℕ) → stands k ≡ ahead bs at → k ≤ 7
unfolding ahead
stuffing_short bs at k e = by (one_ahead bs) e
  where
    none : stands k ≡ absent → k ≤ 7
    none h = let z : ◌≡◌ {A = ℕ} 0 1 = cc in absurd (omega arith)

    cut : stands k ≡ cut_off → k ≤ 7
    cut h = let z : ◌≡◌ {A = ℕ} 0 1 = cc in absurd (omega arith)

    is : (m : ℕ) → stands k ≡ stands m → m ≤ 7 → k ≤ 7
    is m h l = let z : k ≡ m = cc in omega arith

    stuffed : (b : Bool) → stands k ≡ pick b (stands (to_byte at)) absent → k ≤ 7
    stuffed true h = is (to_byte at) h (omega arith)
    stuffed false h = none h

    alone : (b : Bool) → stands k ≡ pick b (stands 0) (pick (eqb (zeros_ahead bs) (16 + to_byte at)) (stands (to_byte at)) absent) → k ≤ 7
    alone true h = is 0 h zero-le
    alone false h = stuffed (eqb (zeros_ahead bs) (16 + to_byte at)) h

    ended : (b : Bool) → stands k ≡ pick b cut_off absent → k ≤ 7
    ended true h = cut h
    ended false h = none h

    by : (b : Bool) → stands k ≡ ahead_of b (zeros_ahead bs) (to_byte at) → k ≤ 7
    by true h = alone (eqb (zeros_ahead bs) 16) h
    by false h = ended (leb (zeros_ahead bs) (16 + to_byte at)) h
