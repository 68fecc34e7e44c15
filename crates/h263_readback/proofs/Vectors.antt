-- A vector is read back over any predictor in range: for one component a computed test over all pairs of numbers in -32..31. Assumes nothing.
use mathlib.Core.Path.{◌≡◌, refl, ap}
use mathlib.Core.List.{List}
use mathlib.Core.Bool.{Bool, true, false}
use Prim.Native.Nat.{ℕ, ◌%◌}
use native.Mathlib.Omega.{arith}
use borrow.Author.Tests.{ltb-false}
use lib.Dec.{T, ltb}
use lib.IntN.{ℤ, pos, negsuc, nat_abs, ◌+ℤ◌, ◌-ℤ◌}
use Rattle.laws.specs.Choice.{both, opposite}
use Rattle.laws.proofs.Choice.{both_left, both_right, opposite_no, T_true}
use Rattle.laws.specs.Table.{all_b, eq_z}
use Rattle.laws.proofs.Table.{all_at, eq_z_yes}
use Rattle.bits.specs.Bits.{Bit}
use Rattle.bits.specs.Write.{bits_if}
use Rattle.bits.specs.Read.{Judged, fine, against}
use Rattle.bits.proofs.ReadBack.{Back, back_done, back_next, back_end, back_judged}
use Rattle.size.specs.declared.Size.{Size}
use Rattle.layout.specs.Value.{Vector, zero_vector}
use Rattle.layout.specs.Proper.{If}
use Rattle.fields.specs.Rules.{optional}
use Rattle.h263_description.specs.Vector.{in_range, in_picture}
use Rattle.h263_description.specs.Proper.{ProperVector}
use Rattle.h263_description.proofs.Predictor.{Ranged, zero_ranged}
use Rattle.h263_layers.specs.Vector.{pair_of, component, component_read, components_read, pointing, vector_read}
use Rattle.h263_writer.specs.Write.{component_bits, vector_bits}
use Rattle.h263_readback.proofs.Words.{back_mvd}

-- ---- a test at every number in -32..31
abbrev all_range : (ℤ → Bool) → Bool
all_range p = both (all_b 32 (λ n. p (pos n))) (all_b 32 (λ n. p (negsuc n)))

range_at : (p : ℤ → Bool) → T (all_range p) → (z : ℤ) → T (in_range z) → T (p z)
range_at p t (pos n) h =
    let l = ltb-false 31 n (opposite_no (ltb 31 n) h) in
    all_at 32 (λ n. p (pos n)) (both_left (all_b 32 (λ n. p (pos n))) (all_b 32 (λ n. p (negsuc n))) t) n (omega arith)
range_at p t (negsuc n) h =
    let l = ltb-false 31 n (opposite_no (ltb 31 n) (both_left (opposite (ltb 31 n)) true h)) in
    all_at 32 (λ n. p (negsuc n)) (both_right (all_b 32 (λ n. p (pos n))) (all_b 32 (λ n. p (negsuc n))) t) n (omega arith)

-- ---- one component
-- the meaning of Table 11 that is sent for it
abbrev sent_for : ℤ → ℤ → ℕ
sent_for predicted z = nat_abs ((z -ℤ predicted) +ℤ pos 96) % 64

abbrev gives : Judged ℤ → ℤ → Bool
gives (fine x) z = eq_z x z
gives (against reason) z = false

gives_yes : (j : Judged ℤ) (z : ℤ) → T (gives j z) → j ≡ fine z
gives_yes (fine x) z t = ap fine (eq_z_yes x z t)
gives_yes (against reason) z t = absurd t

lands : (predicted z : ℤ) → T (in_range predicted) → T (in_range z) → component predicted (pair_of (sent_for predicted z)) ≡ fine z
lands predicted z p h =
    gives_yes _ z
    (range_at (λ z. gives (component predicted (pair_of (sent_for predicted z))) z)
    (range_at (λ predicted. all_range (λ z. gives (component predicted (pair_of (sent_for predicted z))) z)) tt predicted p) z h)

back_component : (predicted z : ℤ) (rest : List Bit) → T (in_range predicted) → T (in_range z) → Back (component_read predicted) (component_bits predicted z) rest z
unfolding component_read
back_component predicted z rest p h =
    back_judged (λ n. component predicted (pair_of n)) z (back_mvd (sent_for predicted z) rest (omega arith)) (lands predicted z p h)

-- ---- a vector
-- as a macroblock has it: zero where the type isn't INTER
abbrev pub Pointed : Size → ℕ → ℕ → Bool → Vector → Type 0
Pointed size number address inter v = If inter (ProperVector size number address v) (v ≡ zero_vector)

pub ranged_vector : (size : Size) (number address : ℕ) (inter : Bool) (v : Vector) → Pointed size number address inter v → Ranged v
ranged_vector size number address true v h = record { horizontally = h.horizontally; vertically = h.vertically }
ranged_vector size number address false v h = rw h zero_ranged

back_pointing : (size : Size) (number address : ℕ) (predicted v : Vector) (rest : List Bit) → Ranged predicted → ProperVector size number address v
    → Back (vector_read size number address predicted) (vector_bits predicted v) rest v
unfolding vector_read components_read
back_pointing size number address predicted v rest r h =
    back_judged (pointing size number address) v
    (back_next _ (back_component predicted.horizontal v.horizontal _ r.horizontally h.horizontally)
    (back_end _ (back_component predicted.vertical v.vertical rest r.vertically h.vertically) refl))
    (rw (T_true (in_picture size number address v) h.inside))

pub back_vector : (size : Size) (number address : ℕ) (inter : Bool) (predicted v : Vector) (rest : List Bit) → Ranged predicted → Pointed size number address inter v
    → Back (optional inter zero_vector (vector_read size number address predicted)) (bits_if inter (vector_bits predicted v)) rest v
back_vector size number address true predicted v rest r h = back_pointing size number address predicted v rest r h
back_vector size number address false predicted v rest r h = rw h (back_done zero_vector rest)
