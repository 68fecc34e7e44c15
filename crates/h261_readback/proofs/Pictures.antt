-- A picture is read back from its bits. Assumes nothing.
use mathlib.Core.Path.{◌≡◌, refl, sym, ap, ◌∙◌}
use mathlib.Core.List.{List, [], ◌++◌, append_assoc}
use mathlib.Core.Bool.{Bool, false}
use Prim.Native.Nat.{ℕ, ◌+◌, ◌*◌, ◌/◌, ◌%◌, ◌<◌}
use native.Mathlib.Omega.{arith}
use borrow.Author.Tests.{eq-eqb}
use lib.Dec.{T, ltb, lit<}
use Rattle.refusals.specs.declared.Reason.TheVariants.{NoStartCode}
use Rattle.bits.specs.Bits.{Bit, bits_of}
use Rattle.bits.specs.Read.{fine}
use Rattle.bits.proofs.ReadBack.{Back, back_next, back_end, back_as, back_judged, back_field}
use Rattle.h261_groups.specs.Format.{format_bit, group_numbers}
use Rattle.h261_groups.specs.declared.Format.{Format}
use Rattle.h261_groups.specs.declared.Format.TheVariants.{Qcif, Cif}
use Rattle.h261_description.specs.Value.{Picture}
use Rattle.layout.specs.Numbers.{all}
use Rattle.h261_description.specs.Proper.{Proper}
use Rattle.h261_layers.specs.Grammar.{none, ptype_of, header, picture}
use Rattle.h261_writer.specs.Write.{groups_of, picture_of}
use Rattle.h261_readback.proofs.Macroblocks.{ending}
use Rattle.h261_readback.proofs.Groups.{back_expected, back_spares, unstarted, started, back_groups}

-- ---- PTYPE: bit 4 is the format's, bits 5 and 6 are 1
format_bit_lem : (f : Format) → format_bit f < 2
format_bit_lem Qcif = lit< tt
format_bit_lem Cif = lit< tt

ptype_field : (f : Format) (t : ℕ) → t < 8 → t * 8 + format_bit f * 4 + 0b11 < 64
ptype_field f t l = omega (arith, format_bit_lem f)

ptype_fine : (f : Format) (t : ℕ) → ptype_of f (t * 8 + format_bit f * 4 + 0b11) ≡ fine t
ptype_fine f t =
    let b = format_bit f in
    let l = format_bit_lem f in
    let four : (t * 8 + b * 4 + 3) / 4 % 2 ≡ b = omega arith in
    let five : (t * 8 + b * 4 + 3) / 2 % 2 ≡ 1 = omega arith in
    let first : (t * 8 + b * 4 + 3) / 8 ≡ t = omega arith in
    rw (four, five, first, eq-eqb b b refl)

-- ---- the header
-- PSC, TR, PTYPE, PEI, the first GBSC
abbrev pub header_of : Format → Picture → List Bit
header_of f p =
    bits_of 20 0b00000000000000010000
    ++ (bits_of 5 p.tr ++ (bits_of 6 (p.ptype * 8 + format_bit f * 4 + 0b11) ++ (bits_of 1 0 ++ bits_of 16 0b0000000000000001)))

pub back_header : (f : Format) (p : Picture) (rest : List Bit) → p.tr < 32 → p.ptype < 8
    → Back (header f) (header_of f p) rest (record { tr = p.tr; ptype = p.ptype })
unfolding header
back_header f p rest l h =
    back_next _ (back_expected 20 0b00000000000000010000 NoStartCode _ (lit< tt))
    (back_next _ (back_field 5 p.tr _ l)
    (back_next _ (back_judged (ptype_of f) p.ptype (back_field 6 (p.ptype * 8 + format_bit f * 4 + 0b11) _ (ptype_field f p.ptype h)) (ptype_fine f p.ptype))
    (back_next _ (back_spares _)
    (back_end _ (back_expected 16 0b0000000000000001 NoStartCode rest (lit< tt)) refl))))

-- ---- the picture
pub numbers_small : (f : Format) → T (all (λ number. ltb number 16) (group_numbers f))
numbers_small Qcif = tt
numbers_small Cif = tt

-- the first start code is there
some_groups : (f : Format) → none (group_numbers f) ≡ false
some_groups Qcif = refl
some_groups Cif = refl

regroup_header : (a b c d s u : List Bit) → (a ++ (b ++ (c ++ (d ++ s)))) ++ u ≡ a ++ (b ++ (c ++ (d ++ (s ++ u))))
regroup_header a b c d s u = simp append_assoc

-- the header with the first start code, and the groups without it, are what is written
pub unstarted-picture : (f : Format) (p : Picture) → Proper f p → header_of f p ++ unstarted (group_numbers f) p.groups ≡ picture_of f p
unfolding picture_of
unstarted-picture f p h =
    let gs = p.groups in
    let start : bits_of 16 1 ++ unstarted (group_numbers f) gs ≡ groups_of (group_numbers f) gs =
    ap (λ (b : Bool). ending b ++ unstarted (group_numbers f) gs) (sym (some_groups f)) ∙ started f (group_numbers f) gs h.grouped in
    let ptype = p.ptype * 8 + format_bit f * 4 + 0b11 in
    regroup_header (bits_of 20 16) (bits_of 5 p.tr) (bits_of 6 ptype) (bits_of 1 0) (bits_of 16 1) (unstarted (group_numbers f) gs)
    ∙ ap (λ (w : List Bit). bits_of 20 16 ++ (bits_of 5 p.tr ++ (bits_of 6 ptype ++ (bits_of 1 0 ++ w)))) start

pub back_picture : (f : Format) (p : Picture) → Proper f p → Back (picture f) (picture_of f p) [] p
unfolding picture
back_picture f p h =
    back_as (unstarted-picture f p h)
    (back_next _ (back_header f p (unstarted (group_numbers f) p.groups ++ []) (omega (arith, h.reference)) (omega (arith, h.typed)))
    (back_end _ (back_groups f (group_numbers f) p.groups (numbers_small f) h.grouped) refl))
