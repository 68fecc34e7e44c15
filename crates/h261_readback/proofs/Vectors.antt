-- A vector is read back after any preceding one: for one component a computed test over all pairs of numbers in -15..15. Assumes nothing.
use mathlib.Core.Path.{◌≡◌, refl, ap}
use mathlib.Core.List.{List, [], ◌∷◌, ◌++◌}
use mathlib.Core.Bool.{Bool, true, false}
use Prim.Native.Nat.{ℕ, suc, ◌+◌, ◌%◌}
use native.Mathlib.Omega.{arith}
use lib.Dec.{T, eqb, leb→le}
use lib.IntN.{ℤ, pos, negsuc, nat_abs, ◌+ℤ◌, ◌-ℤ◌}
use Rattle.laws.specs.Choice.{pick, both, either, opposite, one_of}
use Rattle.laws.proofs.Choice.{both_left, both_right, T_true}
use Rattle.laws.specs.Table.{all_b, eq_z}
use Rattle.laws.proofs.Table.{all_at, eq_z_yes}
use Rattle.bits.specs.Bits.{Bit}
use Rattle.bits.specs.Read.{Judged, fine, against}
use Rattle.bits.proofs.ReadBack.{Back, back_done, back_next, back_end, back_judged}
use Rattle.h261_groups.specs.declared.Format.{Format}
use Rattle.layout.specs.Value.{Vector, zero_vector}
use Rattle.h261_description.specs.Vector.{in_range, in_picture, Before, preceding}
use Rattle.layout.specs.Proper.{If}
use Rattle.h261_description.specs.Proper.{ProperVector}
use Rattle.h261_layers.specs.Vector.{pair_of, component, component_read, components_read, pointing, vector_read}
use Rattle.fields.specs.Rules.{optional}
use Rattle.bits.specs.Write.{bits_if}
use Rattle.h261_writer.specs.Write.{component_bits, vector_bits}
use Rattle.h261_readback.proofs.Words.{back_mvd}

-- ---- a test at every number in -15..15
abbrev all_range : (ℤ → Bool) → Bool
all_range p = both (all_b 16 (λ n. p (pos n))) (all_b 15 (λ n. p (negsuc n)))

range_at : (p : ℤ → Bool) → T (all_range p) → (z : ℤ) → T (in_range z) → T (p z)
range_at p t (pos n) h =
    let l = leb→le n 15 h in
    all_at 16 (λ n. p (pos n)) (both_left (all_b 16 (λ n. p (pos n))) (all_b 15 (λ n. p (negsuc n))) t) n (omega arith)
range_at p t (negsuc n) h =
    let l = leb→le (suc n) 15 h in
    all_at 15 (λ n. p (negsuc n)) (both_right (all_b 16 (λ n. p (pos n))) (all_b 15 (λ n. p (negsuc n))) t) n (omega arith)

-- ---- one component
-- the meaning of Table 3 that is sent for it
abbrev sent_for : ℤ → ℤ → ℕ
sent_for preceding z = nat_abs ((z -ℤ preceding) +ℤ pos 48) % 32

abbrev gives : Judged ℤ → ℤ → Bool
gives (fine x) z = eq_z x z
gives (against reason) z = false

gives_yes : (j : Judged ℤ) (z : ℤ) → T (gives j z) → j ≡ fine z
gives_yes (fine x) z t = ap fine (eq_z_yes x z t)
gives_yes (against reason) z t = absurd t

lands : (preceding z : ℤ) → T (in_range preceding) → T (in_range z) → component preceding (pair_of (sent_for preceding z)) ≡ fine z
lands preceding z p h =
    gives_yes _ z
    (range_at (λ z. gives (component preceding (pair_of (sent_for preceding z))) z)
    (range_at (λ preceding. all_range (λ z. gives (component preceding (pair_of (sent_for preceding z))) z)) tt preceding p) z h)

back_component : (preceding z : ℤ) (rest : List Bit) → T (in_range preceding) → T (in_range z) → Back (component_read preceding) (component_bits preceding z) rest z
unfolding component_read
back_component preceding z rest p h =
    back_judged (λ n. component preceding (pair_of n)) z (back_mvd (sent_for preceding z) rest (omega arith)) (lands preceding z p h)

-- ---- a vector
pub record Ranged (v : Vector) : Type 0 where
  pub across : T (in_range v.horizontal)
  pub down : T (in_range v.vertical)

pub ranged_zero : Ranged zero_vector
ranged_zero = record { across = tt; down = tt }

ranged_preceding : (before : Before) (step : ℕ) → Ranged before.vector → Ranged (preceding before step)
ranged_preceding before step r =
    go (either (one_of (1 ∷ 12 ∷ 23 ∷ []) (before.address + step)) (either (opposite (eqb step 1)) (eqb before.address 0)))
  where
    go : (b : Bool) → Ranged (pick b zero_vector before.vector)
    go true = ranged_zero
    go false = r

-- as a macroblock has it: zero where the type isn't MC
abbrev pub Pointed : Format → ℕ → ℕ → Bool → Vector → Type 0
Pointed f number address mc v = If mc (ProperVector f number address v) (v ≡ zero_vector)

pub ranged_vector : (f : Format) (number address : ℕ) (mc : Bool) (v : Vector) → Pointed f number address mc v → Ranged v
ranged_vector f number address true v h = record { across = h.horizontally; down = h.vertically }
ranged_vector f number address false v h = rw h ranged_zero

back_pointing : (f : Format) (number address : ℕ) (before v : Vector) (rest : List Bit) → Ranged before → ProperVector f number address v
    → Back (vector_read f number address before) (vector_bits before v) rest v
unfolding vector_read components_read
back_pointing f number address before v rest r h =
    back_judged (pointing f number address) v
    (back_next _
    (back_component before.horizontal v.horizontal (component_bits before.vertical v.vertical ++ rest) r.across h.horizontally)
    (back_end _ (back_component before.vertical v.vertical rest r.down h.vertically) refl))
    (rw (T_true (in_picture f number address v) h.inside))

pub back_vector : (f : Format) (number address : ℕ) (mc : Bool) (before : Before) (step : ℕ) (v : Vector) (rest : List Bit) → Ranged before.vector
    → Pointed f number address mc v
    → Back (optional mc zero_vector (vector_read f number address (preceding before step))) (bits_if mc (vector_bits (preceding before step) v)) rest v
back_vector f number address true before step v rest r h = back_pointing f number address (preceding before step) v rest (ranged_preceding before step r) h
back_vector f number address false before step v rest r h = rw h (back_done zero_vector rest)
