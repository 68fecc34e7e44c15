-- What an answer whose case is known says of the read, that a read counts as one, and that the place after a read is within the bits. Assumes nothing.
use mathlib.Core.Path.{◌≡◌, refl, sym, ap, ◌∙◌}
use mathlib.Core.List.{List}
use Prim.Native.Nat.{ℕ, suc}
use lib.ListN.{length}
use native.Mathlib.Omega.{arith}
use Rattle.bits.specs.declared.Stopped.{Stopped}
use Rattle.bits.specs.Bits.{Bit, bits_left}
use Rattle.bits.specs.Places.{plain, counted}
use Rattle.bits.specs.Read.{ReadIn, Read, got, refused, AnyReader}
use Rattle.bits.specs.Answer.{Placed, as_field}
use Rattle.bits.specs.declared.Place.{Place}
use Rattle.bits.specs.declared.FieldRead.{FieldRead}
use Rattle.bits.specs.declared.FieldRead.TheVariants.{Got as GotField, Refused as NoField}
use Rattle.bits.proofs.Logic.{Reads}
use Rattle.bits.proofs.Once.{counting, Once}
use Rattle.fields.specs.Answer.{read_once, as_number, as_meant, as_meant_pair, leaving, stopped_of}
use Rattle.fields.specs.declared.CountedRead.{CountedRead}
use Rattle.fields.specs.declared.CountedRead.TheVariants.{Got, Refused}
use Rattle.fields.proofs.Meaning.{onward}

-- ---- numbers
module _ {x : ReadIn counted ℕ} (s : List ℕ) (n : ℕ) where
  pub no_number : {why : Stopped} (r : CountedRead ℕ) → r ≡ Refused why → as_number s n r ≡ x → x ≡ refused (stopped_of r)
  no_number (Got v p) e w = cc
  no_number (Refused r) e w = sym w

  pub is_number : (r : CountedRead ℕ) (v : ℕ) (p : Place) → as_number s n r ≡ x → r ≡ Got v p → x ≡ got v (bits_left s n p.bit) p
  is_number r v p w e = sym w ∙ ap (as_number s n) e

-- numbers and pairs that stand for something
module _ {A : Type 0} (f : ℕ → A) {x : ReadIn counted A} (s : List ℕ) (n : ℕ) where
  pub no_meant : {why : Stopped} (r : CountedRead ℕ) → r ≡ Refused why → as_meant f s n r ≡ x → x ≡ refused (stopped_of r)
  no_meant (Got v p) e w = cc
  no_meant (Refused r) e w = sym w

  pub is_meant : (r : CountedRead ℕ) (v : ℕ) (p : Place) → as_meant f s n r ≡ x → r ≡ Got v p → x ≡ got (f v) (bits_left s n p.bit) p
  is_meant r v p w e = sym w ∙ ap (as_meant f s n) e

module _ {A : Type 0} (f : ℕ → ℕ → A) {x : ReadIn counted A} (s : List ℕ) (n : ℕ) where
  pub no_pair : {why : Stopped} (r : CountedRead (ℕ × ℕ)) → r ≡ Refused why → as_meant_pair f s n r ≡ x → x ≡ refused (stopped_of r)
  no_pair (Got (a, b) p) e w = cc
  no_pair (Refused r) e w = sym w

  pub is_pair : (r : CountedRead (ℕ × ℕ)) (a b : ℕ) (p : Place) → as_meant_pair f s n r ≡ x → r ≡ Got (a, b) p → x ≡ got (f a b) (bits_left s n p.bit) p
  is_pair r a b p w e = sym w ∙ ap (as_meant_pair f s n) e

-- a field or codeword that is one read, counted
pub number_once : {r : AnyReader ℕ} → Once r → (s : List ℕ) (n : ℕ) (at : Place) (x : FieldRead ℕ) {y : CountedRead ℕ} → y ≡ read_once at x
    → as_field s n x ≡ r plain (bits_left s n at.bit) at.bit → as_number s n y ≡ r counted (bits_left s n at.bit) at
number_once {r} h s n at x e w =
    ap (as_number s n) e ∙ counted_as x ∙ ap (λ (z : Read ℕ). counting at z) w ∙ sym (h.one (bits_left s n at.bit) at)
  where
    counted_as : (x : FieldRead ℕ) → as_number s n (read_once at x) ≡ counting at (as_field s n x)
    counted_as (GotField v p) = refl
    counted_as (NoField r) = refl

-- ---- layers
pub no_place : {why : Stopped} {A : Type 0} {x : ReadIn counted A} (s : List ℕ) (n : ℕ) (a : A) (r : CountedRead (Unit {0})) → r ≡ Refused why → leaving s n r a ≡ x → x ≡ refused (stopped_of r)
no_place s n a (Got u p) e w = cc
no_place s n a (Refused r) e w = sym w

pub is_place : {A : Type 0} {x : ReadIn counted A} (s : List ℕ) (n : ℕ) (a : A) (r : CountedRead (Unit {0})) (p : Place) → leaving s n r a ≡ x → r ≡ Got tt p → x ≡ got a (bits_left s n p.bit) p
is_place s n a r p w e = sym w ∙ ap (λ (y : CountedRead (Unit {0})). leaving s n y a) e

-- the place after a read that was got is within the bits
pub within_next : {A : Type 0} {least : ℕ} {Good : A → List Bit → Type 0} {r : AnyReader A} (s : List ℕ) (n : ℕ) (p : Place) (a : A) (q : Place)
    → Reads (suc (length (bits_left s n p.bit))) least Good r → Placed s n p → r counted (bits_left s n p.bit) p ≡ got a (bits_left s n q.bit) q → Placed s n q
within_next s n p a q h w e =
    let o = onward s n p a q h w.within.inside e in
    record { within = record { lent = w.within.lent; inside = o.inside }; countable = omega (arith, o.fewer, w.countable) }
