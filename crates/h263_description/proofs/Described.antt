-- A proper picture can be laid out, and its layout describes the picture again. Assumes nothing.
use Prim.Native.Nat.{ℕ}
use mathlib.Core.Path.{◌≡◌, refl, ap, ◌∙◌}
use mathlib.Core.Bool.{Bool, true, false}
use mathlib.Core.List.{List}
use native.Mathlib.Omega.{arith}
use borrow.Author.Tests.{ltb-false}
use lib.Dec.{T, ltb}
use lib.IntN.{ℤ, pos, negsuc}
use mir.Syntax.{w8}
use Rattle.laws.specs.Choice.{opposite}
use Rattle.laws.proofs.Choice.{both_left, opposite_no}
use Rattle.laws.specs.Integer.{Low}
use Rattle.laws.proofs.Integer.{back}
use Rattle.size.specs.declared.Size.{Size}
use Rattle.size.specs.Place.{macroblocks_across}
use Rattle.layout.specs.Value.{Vector, zero_vector, Macroblock, Group}
use Rattle.layout.specs.Proper.{If, Numbered, GoodGroup, Storable, StorablePicture}
use Rattle.layout.proofs.Pictured.{numbered_length, numbered_map, groups_storable}
use Rattle.layout.proofs.Described.{groups_in_lem}
use Rattle.layout.proofs.Spread.{laid_spread}
use Rattle.h263_words.specs.Words.{is_inter}
use Rattle.h263_description.specs.Vector.{in_range}
use Rattle.h263_description.specs.Value.{Picture, group_numbers, shape, value_of, laid_picture, picture_in}
use Rattle.h263_description.specs.Fields.{is_intra_type}
use Rattle.h263_description.specs.Proper.{ProperVector, ProperMacroblock, ProperGquant, ProperGroup, ProperGroups, Proper}
use Rattle.h263_description.proofs.Groups.{groups_listed}
use Rattle.h263_description.proofs.Parts.{type_some}

-- a component in range is small
pub range_low : (z : ℤ) → T (in_range z) → Low 32 z
range_low (pos n) t = let l = ltb-false 31 n (opposite_no (ltb 31 n) t) in record { low = omega arith }
range_low (negsuc n) t = let l = ltb-false 31 n (opposite_no (ltb 31 n) (both_left (opposite (ltb 31 n)) true t)) in record { low = omega arith }

-- both components are small
pub small_vector : (size : Size) (number address : ℕ) (v : Vector) (inter : Bool) → If inter (ProperVector size number address v) (v ≡ zero_vector) → Low 32 v.horizontal × Low 32 v.vertical
small_vector size number address v true h = (range_low v.horizontal h.horizontally, range_low v.vertical h.vertically)
small_vector size number address v false h =
    (record { low = rw h (omega arith) }, record { low = rw h (omega arith) })

pub proper_storable : (size : Size) (intra : Bool) (number : ℕ) (m : Macroblock) → ProperMacroblock size intra number m → Storable m
proper_storable size intra number m h =
    let v = small_vector size number m.address m.vector (is_inter m.type) h.pointed in
    record {
      sent = type_some intra m.type h.typed;
      horizontally = back w8 tt v.0;
      vertically = back w8 tt v.1;
      six = h.blocked.six;
      fitting = h.blocked.fitting;
    }

-- the groups, whether the picture is INTRA or not
pub groups_good : (size : Size) (intra : Bool) (numbers : List ℕ) (xs : List Group) → ProperGroups size intra numbers xs
    → Numbered (GoodGroup (macroblocks_across size) ProperGquant (ProperMacroblock size intra)) numbers xs
groups_good size intra = numbered_map (ProperGroup size intra) (GoodGroup (macroblocks_across size) ProperGquant (ProperMacroblock size intra)) (λ number x h. h.good)

pub picture_storable : (size : Size) (p : Picture) → Proper size p → StorablePicture (shape size) (value_of size p)
picture_storable size p h =
    let intra = is_intra_type p.type in
    record {
      headed = refl;
      counted = numbered_length (ProperGroup size intra) (group_numbers size) p.groups h.grouped ∙ groups_listed size;
      grouped =
          groups_storable (macroblocks_across size) ProperGquant (ProperMacroblock size intra) (proper_storable size intra) (group_numbers size) p.groups
          (groups_good size intra (group_numbers size) p.groups h.grouped);
    }

-- ---- the theorem: what a proper picture's layout describes is the picture
pub proper_described : (size : Size) (p : Picture) → Proper size p → picture_in size (laid_picture size p) ≡ p
unfolding laid_picture picture_in
proper_described size p h =
    let held = picture_storable size p h in
    ap (picture_in size) (laid_spread (shape size) (value_of size p) held)
    ∙ (λ i. record { tr = p.tr; ptype = p.ptype; type = p.type; pquant = p.pquant; groups = groups_in_lem (macroblocks_across size) p.groups held.grouped i })
