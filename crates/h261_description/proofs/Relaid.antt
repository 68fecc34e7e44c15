-- A valid description is the layout of its picture. Assumes nothing.
use Prim.Native.Nat.{ℕ, ◌≤◌}
use mathlib.Core.Path.{◌≡◌, refl, sym, ap, subst, ◌∙◌}
use mathlib.Core.Bool.{Bool, true, false}
use mathlib.Core.List.{List, [], ◌∷◌}
use native.Mathlib.Omega.{arith}
use lib.Dec.{T, leb, eqb→eq, leb→le}
use lib.ListN.{length, get_or, take}
use Rattle.laws.specs.Choice.{pick, both}
use Rattle.laws.proofs.Choice.{both_left, both_right}
use Rattle.layout.specs.Flat.{number_of, byte_vector, laid_out, read_back}
use Rattle.layout.specs.Numbers.{all, is_zero}
use Rattle.layout.specs.Back.{Reading}
use Rattle.layout.proofs.Relaid.{laid_out_back}
use Rattle.h261_words.specs.Words.{is_mc}
use Rattle.h261_groups.specs.Format.{format_bit, group_numbers}
use Rattle.h261_groups.specs.declared.Format.{Format}
use Rattle.h261_groups.proofs.Room.{groups_listed}
use Rattle.h261_description.specs.Vector.{in_range, in_picture}
use Rattle.h261_description.specs.Value.{shape, laid_picture, picture_in}
use Rattle.h261_description.specs.Valid.{valid_vector, valid_macroblock}
use Rattle.h261_description.specs.Relaid.{LaidBack}
use Rattle.h261_description.proofs.Levels.{all_levels}
use Rattle.h261_description.proofs.Pictured.{ValidParts, valid_parts, valid_lists}

-- ---- a macroblock
vector_bytes : (f : Format) (number address a b c d : ℕ) (mc : Bool) → T (pick mc (valid_vector f number address (a ∷ b ∷ c ∷ d ∷ [])) (both (is_zero c) (is_zero d))) → (c ≤ 255) × (d ≤ 255)
vector_bytes f number address a b c d true t =
    let h = both_left (both (leb c 255) (leb d 255)) (both (both (in_range (number_of c)) (in_range (number_of d))) (in_picture f number address (byte_vector c d))) t in
    (leb→le c 255 (both_left (leb c 255) (leb d 255) h), leb→le d 255 (both_right (leb c 255) (leb d 255) h))
vector_bytes f number address a b c d false t =
    let x = eqb→eq c 0 (both_left (is_zero c) (is_zero d) t) in
    let y = eqb→eq d 0 (both_right (is_zero c) (is_zero d) t) in
    (omega arith, omega arith)

-- an unsent one is all zeros
unsent : (f : Format) (number address b c d : ℕ) (ls : List ℕ) → ValidParts f number address (0 ∷ b ∷ c ∷ d ∷ []) ls → (b ≡ 0) × (c ≡ 0) × (d ≡ 0) × T (all is_zero ls)
unsent f number address b c d ls p =
    (eqb→eq b 0 p.quant, eqb→eq c 0 (both_left (is_zero c) (is_zero d) p.vector), eqb→eq d 0 (both_right (is_zero c) (is_zero d) p.vector), p.blocks)

-- nothing of a valid one is lost
valid_reads : (f : Format) → Reading (valid_macroblock f)
valid_reads f number address a b c d ls t =
    let p = valid_parts f number address (a ∷ b ∷ c ∷ d ∷ []) ls t in
    let v = vector_bytes f number address a b c d (is_mc a) p.vector in
    record {
      horizontal = v.0;
      vertical = v.1;
      levelled = all_levels a ls p.blocks;
      unsent = λ e. unsent f number address b c d ls (subst (λ (k : ℕ). ValidParts f number address (k ∷ b ∷ c ∷ d ∷ []) ls) e p);
    }

-- ---- the description
head_back : (h : List ℕ) → 3 ≤ length h → get_or h 0 0 ∷ get_or h 1 0 ∷ get_or h 2 0 ∷ [] ≡ take 3 h
head_back [] l = absurd (omega arith)
head_back (a ∷ []) l = absurd (omega arith)
head_back (a ∷ b ∷ []) l = absurd (omega arith)
head_back (a ∷ b ∷ c ∷ h) l = refl

pub laid_back : LaidBack
unfolding laid_picture picture_in
laid_back f d t =
    let v = valid_lists f d t in
    let fields : get_or d.head 0 0 ∷ get_or d.head 1 0 ∷ format_bit f ∷ [] ≡ take 3 d.head =
    (λ i. get_or d.head 0 0 ∷ get_or d.head 1 0 ∷ sym v.format i ∷ []) ∙ head_back d.head (omega (arith, v.head_length)) in
    ap (λ (fs : List ℕ). laid_out (shape f) (record { fields = fs; groups = (read_back (shape f) d).groups })) fields
    ∙ laid_out_back (valid_macroblock f) (valid_reads f) (shape f) (group_numbers f) d (groups_listed f) v.lengths v.groups
