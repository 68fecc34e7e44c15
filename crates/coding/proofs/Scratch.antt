-- Scratch for a description and for its bits, by the size of its picture. Assumes nothing.
use mathlib.Core.Path.{◌≡◌, refl, sym, ap, subst, ◌∙◌}
use Prim.Native.Nat.{ℕ, ◌*◌, ◌≤◌}
use native.Mathlib.Omega.{arith}
use lib.ListN.{take, replicate}
use Rattle.levels.proofs.Buffers.{zeros_part, zeros-flat}
use Rattle.size.specs.declared.Size.{Size}
use Rattle.size.specs.Size.{limit, output_length}
use Rattle.size.proofs.Room.{output_most, limit_room}
use Rattle.layout.specs.Flat.{flat, zeros}
use Rattle.coding.specs.declared.Kind.{Kind}
use Rattle.coding.specs.declared.Kind.TheVariants.{H261, H263}
use Rattle.coding.specs.Kind.{kind_size, shape_of, head_length_of, macroblocks_length_of, levels_length_of}
use Rattle.coding.specs.Described.{RoomIn}
use Rattle.h261_groups.specs.declared.Format.TheVariants as F
use Rattle.size.specs.declared.Size.TheVariants as S

-- QCIF's has room for a size of QCIF's limit
pub room_small : (k : Kind) {size : Size} → size ≡ kind_size k → limit size ≤ 65536 → RoomIn 14 396 38016 k
room_small (H261 F.Qcif) is h = record { head_room = omega arith; macroblocks_room = omega arith; levels_room = omega arith }
room_small (H261 F.Cif) is h = absurd (omega (arith, ap limit is))
room_small (H263 S.SubQcif) is h = record { head_room = omega arith; macroblocks_room = omega arith; levels_room = omega arith }
room_small (H263 S.Qcif) is h = record { head_room = omega arith; macroblocks_room = omega arith; levels_room = omega arith }
room_small (H263 S.Cif) is h = absurd (omega (arith, ap limit is))

-- CIF's for any
pub room_large : (k : Kind) → RoomIn 23 1584 152064 k
room_large (H261 F.Qcif) = record { head_room = omega arith; macroblocks_room = omega arith; levels_room = omega arith }
room_large (H261 F.Cif) = record { head_room = omega arith; macroblocks_room = omega arith; levels_room = omega arith }
room_large (H263 S.SubQcif) = record { head_room = omega arith; macroblocks_room = omega arith; levels_room = omega arith }
room_large (H263 S.Qcif) = record { head_room = omega arith; macroblocks_room = omega arith; levels_room = omega arith }
room_large (H263 S.Cif) = record { head_room = omega arith; macroblocks_room = omega arith; levels_room = omega arith }

fits : {n m l : ℕ} → n ≡ l → l ≤ m → n ≤ m
fits {m = m} e h = subst (λ (x : ℕ). x ≤ m) (sym e) h

pub scratch_zeros : (k : Kind) {head macroblocks levels h m l : ℕ} → RoomIn head macroblocks levels k → h ≡ head_length_of k → m ≡ macroblocks_length_of k → l ≡ levels_length_of k
    → flat (take h (replicate head 0)) (take m (replicate macroblocks 0)) (take l (replicate levels 0)) ≡ zeros (shape_of k)
scratch_zeros k {head} {macroblocks} {levels} room eh em el =
    zeros-flat (shape_of k) (zeros_part head (fits eh room.head_room) refl) eh (zeros_part macroblocks (fits em room.macroblocks_room) refl) em
    (zeros_part levels (fits el room.levels_room) refl) el

-- ---- scratch for a picture's bits
pub limit_most : (k : Kind) → limit (kind_size k) ≤ 262144
limit_most k = omega (arith, limit_room (kind_size k), output_most (kind_size k))

-- it has room for the limit
pub scratch_room : (k : Kind) {long : ℕ} → long ≡ output_length (kind_size k) → limit (kind_size k) ≡ 8 * long
scratch_room k e = limit_room (kind_size k) ∙ ap (λ (n : ℕ). 8 * n) (sym e)
