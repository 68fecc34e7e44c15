-- What a description says: its type, which headers stand, and the quantiser at a macroblock, by its number in the picture. Assumes nothing.
use Rattle.std.specs.Prelude.{ℕ, zero, suc, ◌/◌, ◌%◌, Bool, eqb, ℤ, pos, nat_abs, ◌+ℤ◌, get_or}
use Rattle.laws.specs.Choice.{pick, both, opposite}
use Rattle.quantiser.specs.Cut.{cut}
use Rattle.layout.specs.Flat.{Flat, number_of}
use Rattle.layout.specs.Fields.{quant_of, gquant_at}
use Rattle.h263_description.specs.Value.{intra_type}

-- the GQUANT of group g, from 0
abbrev pub gquant_of : Flat → ℕ → ℕ
gquant_of = gquant_at 5

abbrev pub pquant_of : Flat → ℕ
pquant_of d = get_or d.head 4 0

-- ---- "GQUANT is 0 where none does": whether a header with this GQUANT stands
abbrev pub stands : ℕ → Bool
stands gquant = opposite (eqb gquant 0)

-- ---- the type
abbrev pub picture_type : Flat → ℕ
picture_type d = get_or d.head 3 0

abbrev pub is_intra_type : ℕ → Bool
is_intra_type type = eqb type intra_type

-- "refresh, like "fully INTRA" in demand 3, means a picture of type INTRA"
unfoldable pub refresh : Flat → Bool
refresh d = is_intra_type (picture_type d)

-- ---- the quantiser: PQUANT, until a header or a DQUANT changes it, over groups without a header too
-- "the sum is cut to 1..31"
unfoldable pub quantiser_cut : ℤ → ℕ
quantiser_cut z = nat_abs (cut (pos 1) (pos 31) z)

-- the quantiser q, changed by a DQUANT in a byte; 0, where there is none, changes nothing
unfoldable pub quantiser_changed : ℕ → ℕ → ℕ
quantiser_changed q dquant = quantiser_cut (pos q +ℤ number_of dquant)

-- at macroblock n of a picture so many macroblocks wide, if q stood before it: a header that stands there sets it
abbrev pub quantiser_started : ℕ → Flat → ℕ → ℕ → ℕ
quantiser_started across d n q = pick (both (eqb (n % across) 0) (stands (gquant_of d (n / across)))) (gquant_of d (n / across)) q

-- what stands at macroblock n, if q stood before it
abbrev pub quantiser_next : ℕ → Flat → ℕ → ℕ → ℕ
quantiser_next across d n q = quantiser_changed (quantiser_started across d n q) (quant_of d n)

-- what stands before macroblock n
unfoldable pub quantiser_before : ℕ → Flat → ℕ → ℕ
quantiser_before across d zero = pquant_of d
quantiser_before across d (suc n) = quantiser_next across d n (quantiser_before across d n)

-- what stands at it
abbrev pub quantiser_of : ℕ → Flat → ℕ → ℕ
quantiser_of across d n = quantiser_before across d (suc n)
