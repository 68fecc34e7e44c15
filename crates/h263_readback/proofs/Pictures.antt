-- A picture is read back from its bits: its groups, each with its header or without, after the header. Assumes nothing.
use mathlib.Core.Path.{◌≡◌, refl, ap, ◌∙◌}
use mathlib.Core.List.{List, [], ◌∷◌, ◌++◌, append_assoc}
use mathlib.Core.Bool.{Bool}
use Prim.Native.Nat.{ℕ, zero, suc, ◌+◌, ◌*◌, ◌/◌, ◌%◌, ◌≤◌, ◌<◌}
use native.Mathlib.Omega.{arith}
use borrow.Author.Tests.{eq-eqb}
use lib.Dec.{T, eqb, ltb, leb, leb→le, ltb→lt, lit<}
use lib.ListN.{length, get_or}
use Rattle.laws.specs.Choice.{pick}
use Rattle.laws.proofs.Choice.{both_left, both_right}
use Rattle.refusals.specs.declared.Reason.TheVariants.{NoStartCode, OptionalMode}
use Rattle.bits.specs.Bits.{Bit, bits_of}
use Rattle.bits.specs.Read.{Read, next, fine, against, judged_read, field}
use Rattle.bits.proofs.ReadBack.{Back, back_done, back_next, back_end, back_as, back_judged, back_field}
use Rattle.size.specs.declared.Size.{Size}
use Rattle.size.specs.declared.Size.TheVariants.{SubQcif, Qcif, Cif}
use Rattle.size.specs.Place.{macroblocks_across}
use Rattle.layout.specs.Value.{Vector, zero_vector, Group}
use Rattle.layout.specs.Numbers.{all}
use Rattle.layout.specs.Proper.{Each}
use Rattle.h263_description.specs.Vector.{vectors_of}
use Rattle.h263_description.specs.Value.{Picture, group_numbers, format_code}
use Rattle.h263_description.specs.Fields.{is_intra_type}
use Rattle.h263_description.specs.Proper.{ProperGquant, ProperGroup, ProperGroups, Proper}
use Rattle.h263_description.proofs.Groups.{some_across}
use Rattle.h263_description.proofs.Predictor.{Ranged, zero_ranged, predictor_ranged}
use Rattle.h263_layers.specs.Grammar.{groups_read, format_of, ptype_read, cpm_read, header, ended}
use Rattle.h263_layers.proofs.Layers.{Coming}
use Rattle.h263_layers.proofs.PictureReads.{before_end, before_end_lem}
use Rattle.h263_writer.specs.Write.{head_of, row_vectors, groups_of, ptype_of, picture_of}
use Rattle.h263_readback.specs.ReadBack.{PictureBack}
use Rattle.h263_readback.proofs.Slots.{back_expected, back_quantiser, back_spares, Headed, headed_none, headed_first}
use Rattle.h263_readback.proofs.Rows.{ranged_row, Predicts, back_row}

-- ---- groups
headed_group : (number q : ℕ) → number < 32 → ProperGquant number q → Headed number 1 0 q (head_of number q)
headed_group zero q n h = rw h (headed_none 0 1 0 refl)
headed_group (suc number) q n h = headed_first (suc number) q (omega arith) n h

coming_all : (size : Size) (intra : Bool) (number : ℕ) (g : Group) → ProperGroup size intra number g → Coming size intra number 1 (macroblocks_across size) g.macroblocks
coming_all size intra number g p = record { last = 0; first = refl; end = omega arith; rising = p.good.1; complete = p.complete }

module _ (size : Size) (predicts : Predicts (macroblocks_across size)) (intra : Bool) where
  back_groups : (numbers : List ℕ) (vectors : List Vector) (gs : List Group) (rest : List Bit) → T (all (λ number. ltb number 32) numbers) → Each Ranged vectors → ProperGroups size intra numbers gs
      → Back (groups_read size intra numbers vectors) (groups_of (macroblocks_across size) intra numbers vectors gs) rest gs
  unfolding groups_read groups_of
  back_groups [] vectors [] rest l r p = back_done [] rest
  back_groups [] vectors (g ∷ gs) rest l r p = absurd p
  back_groups (number ∷ numbers) vectors [] rest l r p = absurd p
  back_groups (number ∷ numbers) vectors (g ∷ gs) rest l r p =
      let small = ltb→lt number 32 (both_left (ltb number 32) (all (λ number. ltb number 32) numbers) l) in
      let others = both_right (ltb number 32) (all (λ number. ltb number 32) numbers) l in
      let coming = coming_all size intra number g p.0 in
      back_next _ (back_row size predicts intra number g.gquant (macroblocks_across size) (head_of number g.gquant) vectors g.macroblocks _ (some_across size) (headed_group number g.gquant small p.0.good.0) r coming)
      (back_end _ (back_groups numbers (row_vectors (macroblocks_across size) 1 vectors g.macroblocks) gs rest others (ranged_row size intra number (macroblocks_across size) 1 vectors g.macroblocks r coming) p.1) refl)

numbers_small : (size : Size) → T (all (λ number. ltb number 32) (group_numbers size))
numbers_small SubQcif = tt
numbers_small Qcif = tt
numbers_small Cif = tt

-- ---- PTYPE
code_small : (size : Size) → format_code size < 8
code_small SubQcif = lit< tt
code_small Qcif = lit< tt
code_small Cif = lit< tt

low_three : (t : ℕ) → t ≤ 7 → (16 + t) % 8 ≡ t
low_three t l = omega arith

low_one : (n t : ℕ) → t ≤ 1 → (n * 2 + t) % 2 ≡ t
low_one n t l = omega arith

back_ptype : (size : Size) (p : Picture) (rest : List Bit) → p.ptype ≤ 7 → p.type ≤ 1 → Back (ptype_read size) (bits_of 13 (ptype_of size p)) rest (record { ptype = p.ptype; type = p.type })
unfolding ptype_read
back_ptype size p rest l h =
    let x = ptype_of size p in
    let f = code_small size in
    let small : x < 8192 = omega arith in
    let first : x / 2048 ≡ 2 = omega arith in
    let format : x / 32 % 8 ≡ format_code size = omega arith in
    let modes : x % 16 ≡ 0 = omega arith in
    let upper : x / 256 ≡ 16 + p.ptype = omega arith in
    let flags : x / 256 % 8 ≡ p.ptype = ap (λ (n : ℕ). n % 8) upper ∙ low_three p.ptype l in
    let low : x / 16 ≡ (128 + p.ptype * 8 + format_code size) * 2 + p.type = omega arith in
    let type : x / 16 % 2 ≡ p.type = ap (λ (n : ℕ). n % 2) low ∙ low_one (128 + p.ptype * 8 + format_code size) p.type h in
    let read : Back (judged_read (field 13) (format_of size)) (bits_of 13 x) rest x =
    back_judged (format_of size) x (back_field 13 x rest small) (rw (first, format, eq-eqb (format_code size) (format_code size) refl)) in
    record { reads = λ at. rw (read.reads at, modes, flags, type) }

-- ---- the header
back_cpm : (rest : List Bit) → Back cpm_read (bits_of 1 0) rest 0
back_cpm rest = back_judged (λ cpm. pick (eqb cpm 0) (fine cpm) (against OptionalMode)) 0 (back_field 1 0 rest (lit< tt)) refl

abbrev header_of : Size → Picture → List Bit
header_of size p =
    bits_of 22 0b0000000000000000100000
    ++ (bits_of 8 p.tr ++ (bits_of 13 (ptype_of size p) ++ (bits_of 5 p.pquant ++ (bits_of 1 0 ++ bits_of 1 0))))

back_header : (size : Size) (p : Picture) (rest : List Bit) → Proper size p
    → Back (header size) (header_of size p) rest (record { tr = p.tr; ptype = p.ptype; type = p.type; pquant = p.pquant })
unfolding header
back_header size p rest h =
    let least = leb→le 1 p.pquant (both_left (leb 1 p.pquant) (leb p.pquant 31) h.quantised) in
    let most = leb→le p.pquant 31 (both_right (leb 1 p.pquant) (leb p.pquant 31) h.quantised) in
    back_next _ (back_expected 22 0b0000000000000000100000 NoStartCode _ (lit< tt))
    (back_next _ (back_field 8 p.tr _ (omega (arith, h.reference)))
    (back_next _ (back_ptype size p _ h.flagged h.typed)
    (back_next _ (back_quantiser p.pquant _ least most)
    (back_next _ (back_cpm _) (back_end _ (back_spares rest) refl)))))

-- ---- the picture
-- the predictor is in range, since the vectors before are
predicts : (size : Size) → Predicts (macroblocks_across size)
predicts size headed vectors r = predictor_ranged (macroblocks_across size) (some_across size) headed (length vectors) (vectors_of vectors) (λ k l. at vectors k r)
  where
    at : (vs : List Vector) (k : ℕ) → Each Ranged vs → Ranged (get_or vs k zero_vector)
    at [] k r = zero_ranged
    at (v ∷ vs) zero r = r.0
    at (v ∷ vs) (suc k) r = at vs k r.1

regroup : (a b c d e f g : List Bit) → (a ++ (b ++ (c ++ (d ++ (e ++ f))))) ++ g ≡ a ++ (b ++ (c ++ (d ++ (e ++ (f ++ g)))))
regroup a b c d e f g = simp append_assoc

back_before_end : (size : Size) (p : Picture) (rest : List Bit) → Proper size p → Back (before_end size) (picture_of size p) rest p
unfolding picture_of
back_before_end size p rest h =
    back_as (regroup (bits_of 22 32) (bits_of 8 p.tr) (bits_of 13 (ptype_of size p)) (bits_of 5 p.pquant) (bits_of 1 0) (bits_of 1 0) (groups_of (macroblocks_across size) (is_intra_type p.type) (group_numbers size) [] p.groups))
    (back_next _ (back_header size p _ h) (back_end _ (back_groups size (predicts size) (is_intra_type p.type) (group_numbers size) [] p.groups rest (numbers_small size) tt h.grouped) refl))

-- THE LAW: no bit after it changes what is read; it is read as it was written, and then the bits end or are too many
pub picture_back : PictureBack
picture_back size p rest at h = before_end_lem size (picture_of size p ++ rest) at ∙ ap (λ (x : Read Picture). next x ended) ((back_before_end size p rest h).reads at)
