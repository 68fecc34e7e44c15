-- Readers that the order of refusals rules out: the theorems. Assumes nothing.
use Prim.Native.Nat.{ℕ, ◌≤◌}
use mathlib.Core.Path.{◌≡◌, refl, ap}
use mathlib.Core.List.{List, [], ◌∷◌}
use native.Mathlib.Omega.{arith}
use Rattle.refusals.specs.declared.Reason.TheVariants.{OtherGroup, Forbidden, CoefficientPast}
use Rattle.refusals.specs.Number.{refusal, number}
use Rattle.bits.specs.Bits.{Bit, bit0, bit1}
use Rattle.bits.specs.Read.{Read, got, refused, endless, bad, field_from}
use Rattle.bits.specs.Code.{word, lookup, longer}
use Rattle.h261_words.specs.Tables.{pairs, later_table5}
use Rattle.h261_words.specs.Words.{Event, tcoeff}
use Rattle.order.specs.Wrong.{LateWrong, ElevenFirstWrong}

-- GN is 0, and GQUANT is 1
pub late_wrong : LateWrong
unfolding field_from number
late_wrong h =
    let back : 4 ≤ 0 = h.taken (bit0 ∷ bit0 ∷ bit0 ∷ bit0 ∷ []) (bit0 ∷ bit0 ∷ bit0 ∷ bit0 ∷ bit1 ∷ []) 0 4 (refusal OtherGroup 0) refl refl in
    omega arith

-- an escape for run 0 and level 0, where no coefficient may come any more
escape_bits : List Bit
escape_bits = bit0 ∷ bit0 ∷ bit0 ∷ bit0 ∷ bit0 ∷ bit1 ∷ bit0 ∷ bit0 ∷ bit0 ∷ bit0 ∷ bit0 ∷ bit0 ∷ bit0 ∷ bit0 ∷ bit0 ∷ bit0 ∷ bit0 ∷ bit0 ∷ bit0 ∷ bit0 ∷ []

number_in : Read Event → ℕ
number_in (got e left place) = 0
number_in (refused why) = number why.reason
number_in endless = 0

pub eleven_first_wrong : ElevenFirstWrong
unfolding escape_bits number_in number tcoeff word lookup longer field_from later_table5 pairs
eleven_first_wrong h =
    let e : ◌≡◌ {A = Read Event} (bad CoefficientPast 0) (bad Forbidden 0) = h.judged escape_bits 0 in
    let z : ◌≡◌ {A = ℕ} 11 10 = ap number_in e in
    omega arith
