-- What the code's reads answer, as reads of the bits left: a meaning stands with the bits from its next place on, and a refusal is passed on unopened.
-- Assumes nothing.
use Rattle.std.specs.Prelude.{ℕ, ◌+◌, ◌-◌, ◌*◌, ◌≤◌, ◌<◌, List, length}
use Rattle.refusals.specs.declared.Reason.TheVariants.{BitsEnd}
use Rattle.refusals.specs.declared.Refusal.{Refusal}
use Rattle.refusals.specs.Number.{refusal}
use Rattle.bits.specs.Bits.{bits_left}
use Rattle.bits.specs.Read.{Read, got, refused}
use Rattle.bits.specs.declared.Place.{Place}
use Rattle.bits.specs.declared.FieldRead.{FieldRead}
use Rattle.bits.specs.declared.FieldRead.TheVariants.{Got, Refused}

-- n bits, which the bytes s have, and a place among them or at their end
pub record Within (s : List ℕ) (n at : ℕ) : Type 0 where
  pub lent : n ≤ 8 * length s
  pub inside : at ≤ n

-- such a place that counts: with as many reads more as bits are left, the number of reads stays low
pub record Placed (s : List ℕ) (n : ℕ) (at : Place) : Type 0 where
  pub within : Within s n at.bit
  pub countable : at.reads + (n - at.bit) < 4294967296

abbrev pub as_field : List ℕ → ℕ → FieldRead ℕ → Read ℕ
as_field s n (Got v p) = got v (bits_left s n p) p
as_field s n (Refused r) = refused r

-- the refusal of a read that was refused; of another it is never asked
abbrev pub refusal_of : {T : Type 0} → FieldRead T → Refusal
refusal_of (Got v p) = refusal BitsEnd p
refusal_of (Refused r) = r
