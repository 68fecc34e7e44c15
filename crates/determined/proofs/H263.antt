-- Any two outcomes that a promise of H.263's layers allows are equal. Assumes nothing.
use Rattle.std.specs.Prelude.{Option, None, Some}
use Prim.Native.Nat.{ℕ}
use mathlib.Core.Path.{◌≡◌, refl, ap}
use mathlib.Core.List.{List}
use lib.IntN.{pos, -ℤ-+ℤ_cancel, nat_abs}
use Rattle.refusals.specs.declared.Reason.TheVariants.{Length}
use Rattle.refusals.specs.Number.{refusal}
use Rattle.bits.specs.Places.{counted}
use Rattle.bits.specs.Read.{ReadIn, got, refused, endless}
use Rattle.bits.specs.declared.Stopped.{Stopped}
use Rattle.fields.specs.declared.CountedRead.{CountedRead}
use Rattle.layout.specs.Value.{Vector}
use Rattle.h263_description.specs.Landing.{component_of, residue_of}
use Rattle.h263_layers.specs.Grammar.{Header, Slot, Opened, unsent, coded}
use Rattle.h263_layers.specs.Answer.{as_header, slot_in, as_opened, as_vector}
use Rattle.fields.specs.declared.CountedRead.TheVariants as K
use Rattle.h263_layers.specs.declared.Header as H
use Rattle.h263_layers.specs.declared.Opened as O
use Rattle.determined.specs.H263.{HeaderOnce, OpenedOnce, VectorOnce}
use Rattle.determined.proofs.Determined.{through}

module _ (s : List ℕ) (n : ℕ) where
  -- no read is endless
  none : Stopped
  none = record { refusal = refusal Length 0; reads = 0 }

  header_of : ReadIn counted Header → CountedRead H.Header
  header_of (got h left p) = K.Got (record { tr = h.tr; ptype = h.ptype; kind = h.type; pquant = h.pquant }) p
  header_of (refused why) = K.Refused why
  header_of endless = K.Refused none

  header_of_lem : (x : CountedRead H.Header) → header_of (as_header s n x) ≡ x
  unfolding header_of
  header_of_lem (K.Got h p) = refl
  header_of_lem (K.Refused why) = refl

  -- the code's slot of a grammar's
  mcbpc_of : Slot → Option ℕ
  mcbpc_of unsent = None
  mcbpc_of (coded kind) = Some kind

  mcbpc_back : (m : Option ℕ) → mcbpc_of (slot_in m) ≡ m
  unfolding mcbpc_of
  mcbpc_back None = refl
  mcbpc_back (Some kind) = refl

  opened_of : ReadIn counted Opened → CountedRead O.Opened
  opened_of (got o left p) = K.Got (record { gquant = o.gquant; mcbpc = mcbpc_of o.slot }) p
  opened_of (refused why) = K.Refused why
  opened_of endless = K.Refused none

  opened_of_lem : (x : CountedRead O.Opened) → opened_of (as_opened s n x) ≡ x
  unfolding opened_of
  opened_of_lem (K.Got o p) = ap (λ (m : Option ℕ). K.Got (record { gquant = o.gquant; mcbpc = m }) p) (mcbpc_back o.mcbpc)
  opened_of_lem (K.Refused why) = refl

  kept_back : (x : ℕ) → residue_of (component_of x) ≡ x
  kept_back x = ap nat_abs (-ℤ-+ℤ_cancel (pos x) (pos 32))

  vector_read : ReadIn counted Vector → CountedRead (ℕ × ℕ)
  vector_read (got v left p) = K.Got (residue_of v.horizontal, residue_of v.vertical) p
  vector_read (refused why) = K.Refused why
  vector_read endless = K.Refused none

  vector_of : (x : CountedRead (ℕ × ℕ)) → vector_read (as_vector s n x) ≡ x
  unfolding vector_read
  vector_of (K.Got (h, v) p) = λ i. K.Got (kept_back h i, kept_back v i) p
  vector_of (K.Refused why) = refl

pub h263_header_once : HeaderOnce
h263_header_once s n b x y = through (as_header s n) (header_of s n) (header_of_lem s n)

pub opened_once : OpenedOnce
opened_once s n b x y = through (as_opened s n) (opened_of s n) (opened_of_lem s n)

pub h263_vector_once : VectorOnce
h263_vector_once s n b x y = through (as_vector s n) (vector_read s n) (vector_of s n)
