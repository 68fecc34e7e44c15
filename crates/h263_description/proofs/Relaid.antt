-- A valid description is the layout of its picture. Assumes nothing.
use Prim.Native.Nat.{ℕ, ◌≤◌}
use mathlib.Core.Path.{◌≡◌, refl, sym, ap, subst, ◌∙◌}
use mathlib.Core.Bool.{Bool, true, false}
use mathlib.Core.List.{List, [], ◌∷◌}
use native.Mathlib.Omega.{arith}
use lib.Dec.{T, leb, eqb→eq, leb→le}
use lib.ListN.{length, get_or, take}
use Rattle.laws.specs.Choice.{pick, both}
use Rattle.laws.proofs.Choice.{both_left, both_right}
use Rattle.size.specs.declared.Size.{Size}
use Rattle.layout.specs.Flat.{number_of, byte_vector, laid_out, read_back}
use Rattle.layout.specs.Numbers.{all, is_zero}
use Rattle.layout.specs.Back.{Reading}
use Rattle.layout.proofs.Relaid.{laid_out_back}
use Rattle.h263_words.specs.Words.{is_inter}
use Rattle.h263_description.specs.Vector.{in_range, in_picture}
use Rattle.h263_description.specs.Value.{format_number, group_numbers, shape, laid_picture, picture_in}
use Rattle.h263_description.specs.Fields.{picture_type, pquant_of, is_intra_type}
use Rattle.h263_description.specs.Valid.{valid_vector, valid_macroblock}
use Rattle.h263_description.specs.Relaid.{LaidBack}
use Rattle.h263_description.proofs.Groups.{groups_listed}
use Rattle.h263_description.proofs.Levels.{all_levels}
use Rattle.h263_description.proofs.Parts.{ValidParts, valid_parts, valid_lists}

-- ---- a macroblock
vector_bytes : (size : Size) (number address a b c d : ℕ) (inter : Bool) → T (pick inter (valid_vector size number address (a ∷ b ∷ c ∷ d ∷ [])) (both (is_zero c) (is_zero d))) → (c ≤ 255) × (d ≤ 255)
vector_bytes size number address a b c d true t =
    let h = both_left (both (leb c 255) (leb d 255)) (both (both (in_range (number_of c)) (in_range (number_of d))) (in_picture size number address (byte_vector c d))) t in
    (leb→le c 255 (both_left (leb c 255) (leb d 255) h), leb→le d 255 (both_right (leb c 255) (leb d 255) h))
vector_bytes size number address a b c d false t =
    let x = eqb→eq c 0 (both_left (is_zero c) (is_zero d) t) in
    let y = eqb→eq d 0 (both_right (is_zero c) (is_zero d) t) in
    (omega arith, omega arith)

-- an unsent one is all zeros
unsent : (size : Size) (intra : Bool) (number address b c d : ℕ) (ls : List ℕ) → ValidParts size intra number address (0 ∷ b ∷ c ∷ d ∷ []) ls → (b ≡ 0) × (c ≡ 0) × (d ≡ 0) × T (all is_zero ls)
unsent size intra number address b c d ls p =
    (eqb→eq b 0 p.quant, eqb→eq c 0 (both_left (is_zero c) (is_zero d) p.vector), eqb→eq d 0 (both_right (is_zero c) (is_zero d) p.vector), p.blocks)

-- nothing of a valid one is lost
valid_reads : (size : Size) (intra : Bool) → Reading (valid_macroblock size intra)
valid_reads size intra number address a b c d ls t =
    let p = valid_parts size intra number address (a ∷ b ∷ c ∷ d ∷ []) ls t in
    let v = vector_bytes size number address a b c d (is_inter a) p.vector in
    record {
      horizontal = v.0;
      vertical = v.1;
      levelled = all_levels a ls p.blocks;
      unsent = λ e. unsent size intra number address b c d ls (subst (λ (k : ℕ). ValidParts size intra number address (k ∷ b ∷ c ∷ d ∷ []) ls) e p);
    }

-- ---- the description
head_back : (h : List ℕ) → 5 ≤ length h → get_or h 0 0 ∷ get_or h 1 0 ∷ get_or h 2 0 ∷ get_or h 3 0 ∷ get_or h 4 0 ∷ [] ≡ take 5 h
head_back [] l = absurd (omega arith)
head_back (a ∷ []) l = absurd (omega arith)
head_back (a ∷ b ∷ []) l = absurd (omega arith)
head_back (a ∷ b ∷ c ∷ []) l = absurd (omega arith)
head_back (a ∷ b ∷ c ∷ d ∷ []) l = absurd (omega arith)
head_back (a ∷ b ∷ c ∷ d ∷ e ∷ h) l = refl

pub laid_back : LaidBack
unfolding laid_picture picture_in
laid_back size d t =
    let v = valid_lists size d t in
    let intra = is_intra_type (picture_type d) in
    let fields : get_or d.head 0 0 ∷ get_or d.head 1 0 ∷ format_number size ∷ picture_type d ∷ pquant_of d ∷ [] ≡ take 5 d.head =
    (λ i. get_or d.head 0 0 ∷ get_or d.head 1 0 ∷ sym v.format i ∷ picture_type d ∷ pquant_of d ∷ []) ∙ head_back d.head (omega (arith, v.head_length)) in
    ap (λ (fs : List ℕ). laid_out (shape size) (record { fields = fs; groups = (read_back (shape size) d).groups })) fields
    ∙ laid_out_back (valid_macroblock size intra) (valid_reads size intra) (shape size) (group_numbers size) d (groups_listed size) v.lengths v.groups
