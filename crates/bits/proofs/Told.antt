-- What an answer whose case is known says of the read: it was got, or it is the refusal. Assumes nothing.
use mathlib.Core.Path.{◌≡◌, sym, ap, ◌∙◌}
use mathlib.Core.List.{List}
use Prim.Native.Nat.{ℕ}
use Rattle.refusals.specs.declared.Refusal.{Refusal}
use Rattle.bits.specs.Bits.{bits_left}
use Rattle.bits.specs.Read.{Read, got, refused}
use Rattle.bits.specs.Answer.{as_field, refusal_of}
use Rattle.bits.specs.declared.FieldRead.{FieldRead}
use Rattle.bits.specs.declared.FieldRead.TheVariants.{Got as GotField, Refused as NoField}

module _ {x : Read ℕ} (s : List ℕ) (n : ℕ) where
  pub no_field : {why : Refusal} (r : FieldRead ℕ) → r ≡ NoField why → as_field s n r ≡ x → x ≡ refused (refusal_of r)
  no_field (GotField v p) e w = cc
  no_field (NoField r) e w = sym w

  pub is_field : (r : FieldRead ℕ) (v p : ℕ) → as_field s n r ≡ x → r ≡ GotField v p → x ≡ got v (bits_left s n p) p
  is_field r v p w e = sym w ∙ ap (as_field s n) e
