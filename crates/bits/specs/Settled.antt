-- Entries by bits that settle a codeword at once, also where the picture's bits end within it: what an entry says, and where those of a table stand. Assumes nothing.
use Rattle.std.specs.Prelude.{Bool, List, ℕ, suc, ◌+◌, ◌-◌, ◌/◌, ◌%◌, ◌^◌, eqb, ltb, leb}
use Rattle.laws.specs.Choice.{pick, both}
use Rattle.refusals.specs.declared.Reason.TheVariants.{BitsEnd, NoCodeword}
use Rattle.refusals.specs.declared.Table.{Table}
use Rattle.refusals.specs.Number.{refusal}
use Rattle.bits.specs.Bits.{Bit, bits_of}
use Rattle.bits.specs.Code.{Entry}
use Rattle.bits.specs.Part.{part_passes}
use Rattle.bits.specs.Windows.{Decided, undecided, dead, ended, decide, settled}
use Rattle.bits.specs.declared.FieldRead.{FieldRead}
use Rattle.bits.specs.declared.FieldRead.TheVariants.{Got, Refused}

-- ---- an entry: 32 times 1 more than the meaning, and the bits of the whole codeword; without one, 0 and the bits that show it
-- `tail m` bits follow the codeword of m and are one with it: a sign, an escape's fields
abbrev pub whole_size : (ℕ → ℕ) → Decided → ℕ
whole_size tail undecided = 0
whole_size tail (dead k) = k
whole_size tail (ended k m) = k + tail m

abbrev pub meaning_or_none : Decided → ℕ
meaning_or_none undecided = 0
meaning_or_none (dead k) = 0
meaning_or_none (ended k m) = suc m

-- nothing follows a codeword
abbrev pub no_tail : ℕ → ℕ
no_tail m = 0

-- the entry e says what the bits decide, and a window has the whole codeword
unfoldable pub settles : (ℕ → ℕ) → List Entry → List Bit → ℕ → Bool
settles tail table bits e =
    let d = decide table bits 0 in
    both (settled d) (both (eqb (e % 32) (whole_size tail d)) (both (eqb (e / 32) (meaning_or_none d)) (leb (e % 32) 24)))

-- ---- entries in t: for the numbers of `width` bits from `low` to `high` - 1, where that for 0 stands or would stand at `from`
abbrev pub settle_all : (ℕ → ℕ) → List Entry → List ℕ → ℕ → ℕ → ℕ → ℕ → Bool
settle_all tail table t from width low high = part_passes (λ i. settles tail table (bits_of width i)) t (from + low) low (high - low)

-- in two parts: for `narrow` and `further` bits whose number is below `small`, and for the first `narrow` of any others
pub record TwoParts : Type 0 where
  pub narrow : ℕ
  pub further : ℕ
  pub small : ℕ
  pub small_at : ℕ
  pub large_at : ℕ

abbrev pub settle_parts : (ℕ → ℕ) → List Entry → List ℕ → TwoParts → Bool
settle_parts tail table t p =
    both (settle_all tail table t p.small_at (p.narrow + p.further) 0 p.small)
    (settle_all tail table t p.large_at p.narrow (p.small / 2 ^ p.further) (2 ^ p.narrow))

-- where the entry for bits of this number stands
abbrev pub part_place : TwoParts → ℕ → ℕ
part_place p x = pick (ltb x p.small) (p.small_at + x) (p.large_at + x / 2 ^ p.further)

-- ---- what is read by an entry of a table that has no tails, with n bits to the end
abbrev pub settled_field : Table → ℕ → ℕ → ℕ → FieldRead ℕ
settled_field name e n at =
    pick (ltb (n - at) (e % 32)) (Refused (refusal BitsEnd at))
    (pick (eqb (e / 32) 0) (Refused (refusal (NoCodeword name) at)) (Got (e / 32 - 1) (at + e % 32)))
