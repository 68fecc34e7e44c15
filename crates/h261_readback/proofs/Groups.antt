-- The groups of a picture are read back: each with the start code that ends it, the last one with nothing. Assumes nothing.
use mathlib.Core.Path.{◌≡◌, refl, ap, ◌∙◌}
use mathlib.Core.List.{List, [], ◌∷◌, ◌++◌, append_assoc}
use mathlib.Core.Bool.{Bool}
use Prim.Native.Nat.{ℕ, suc, ◌^◌, ◌<◌}
use native.Mathlib.Omega.{arith}
use borrow.Author.Tests.{eq-eqb}
use lib.Dec.{T, eqb, ltb, ltb→lt, lit<}
use lib.ListN.{length-append}
use Rattle.laws.specs.Choice.{pick}
use Rattle.laws.proofs.Choice.{both_left, both_right}
use Rattle.refusals.specs.declared.Reason.{Reason}
use Rattle.refusals.specs.declared.Reason.TheVariants.{OtherGroup}
use Rattle.bits.specs.Bits.{Bit, bits_of}
use Rattle.bits.specs.Read.{fine, against}
use Rattle.bits.proofs.ReadBack.{Back, back_done, back_next, back_end, back_judged, back_loop, back_field}
use Rattle.h261_groups.specs.declared.Format.{Format}
use Rattle.h261_description.specs.Vector.{at_start}
use Rattle.layout.specs.Value.{Group}
use Rattle.layout.specs.Numbers.{all, is_quantiser}
use Rattle.h261_description.specs.Proper.{ProperGroups}
use Rattle.fields.specs.Rules.{expect, spares, spares_from, spares_after}
use Rattle.h261_layers.specs.Grammar.{macroblocks_from, group_head, group, none, groups_read}
use Rattle.h261_layers.proofs.Layers.{Ended, Rising}
use Rattle.h261_writer.specs.Write.{macroblocks_of, group_of, groups_of}
use Rattle.h261_readback.proofs.Vectors.{ranged_zero}
use Rattle.h261_readback.proofs.Macroblocks.{back_quantiser, ending, back_macroblocks, more_bits}

-- ---- fields
pub back_expected : (k v : ℕ) (reason : Reason) (rest : List Bit) → v < 2 ^ k → Back (expect k v reason) (bits_of k v) rest v
back_expected k v reason rest l =
    back_judged (λ x. pick (eqb x v) (fine x) (against reason)) v (back_field k v rest l) (rw (eq-eqb v v refl))

-- PEI or GEI 0
pub back_spares : (rest : List Bit) → Back spares (bits_of 1 0) rest 0
unfolding spares spares_from
back_spares rest =
    back_loop spares_from (λ n l. back_end (spares_after (spares_from n)) (back_field 1 0 rest (lit< tt)) refl)

-- ---- groups
-- GN, GQUANT, GEI
abbrev pub head_of : ℕ → ℕ → List Bit
head_of number q = bits_of 4 number ++ (bits_of 5 q ++ bits_of 1 0)

pub back_head : (number q : ℕ) (rest : List Bit) → number < 16 → T (is_quantiser q) → Back (group_head number) (head_of number q) rest q
unfolding group_head
back_head number q rest l h =
    back_next _ (back_expected 4 number OtherGroup _ l) (back_next _ (back_quantiser q _ h) (back_end _ (back_spares rest) refl))

pub back_group : (f : Format) (last : Bool) (number : ℕ) (g : Group) (rest : List Bit) → number < 16 → T (is_quantiser g.gquant)
    → Rising f number 0 g.macroblocks → Ended last rest
    → Back (group f last number) (head_of number g.gquant ++ (macroblocks_of at_start g.macroblocks ++ ending last)) rest g
unfolding group
back_group f last number g rest l q p e =
    let ms = g.macroblocks in
    let w = macroblocks_of at_start ms in
    back_next _ (back_head number g.gquant ((w ++ ending last) ++ rest) l q)
    (back_end _
    (back_loop (λ turns. macroblocks_from turns f last number at_start)
    (λ n h. back_macroblocks ms (suc n) f last number at_start rest (omega (arith, more_bits f number at_start ms p, length-append w (ending last))) p ranged_zero e))
    refl)

-- the groups without the first start code: a group is read with the one that ends it
abbrev pub unstarted : List ℕ → List Group → List Bit
unstarted [] gs = []
unstarted (number ∷ numbers) [] = []
unstarted (number ∷ numbers) (g ∷ gs) =
    (head_of number g.gquant ++ (macroblocks_of at_start g.macroblocks ++ ending (none numbers))) ++ unstarted numbers gs

regroup : (s a b c m e u : List Bit) → s ++ (((a ++ (b ++ c)) ++ (m ++ e)) ++ u) ≡ (s ++ (a ++ (b ++ (c ++ m)))) ++ (e ++ u)
regroup s a b c m e u = simp append_assoc

-- the start code and they are what is written
pub started : (f : Format) (numbers : List ℕ) (gs : List Group) → ProperGroups f numbers gs → ending (none numbers) ++ unstarted numbers gs ≡ groups_of numbers gs
unfolding groups_of group_of
started f [] [] p = refl
started f [] (g ∷ gs) p = absurd p
started f (number ∷ numbers) [] p = absurd p
started f (number ∷ numbers) (g ∷ gs) p =
    regroup (bits_of 16 1) (bits_of 4 number) (bits_of 5 g.gquant) (bits_of 1 0) (macroblocks_of at_start g.macroblocks) (ending (none numbers)) (unstarted numbers gs)
    ∙ ap (λ (w : List Bit). group_of number g ++ w) (started f numbers gs p.1)

ends : (numbers : List ℕ) (gs : List Group) → Ended (none numbers) (unstarted numbers gs ++ [])
ends [] gs = refl
ends (number ∷ numbers) gs = tt

pub back_groups : (f : Format) (numbers : List ℕ) (gs : List Group) → T (all (λ number. ltb number 16) numbers) → ProperGroups f numbers gs
    → Back (groups_read f numbers) (unstarted numbers gs) [] gs
unfolding groups_read
back_groups f [] [] l p = back_done [] []
back_groups f [] (g ∷ gs) l p = absurd p
back_groups f (number ∷ numbers) [] l p = absurd p
back_groups f (number ∷ numbers) (g ∷ gs) l p =
    let small = ltb→lt number 16 (both_left (ltb number 16) (all (λ number. ltb number 16) numbers) l) in
    let others = both_right (ltb number 16) (all (λ number. ltb number 16) numbers) l in
    back_next _ (back_group f (none numbers) number g (unstarted numbers gs ++ []) small p.0.0 p.0.1 (ends numbers gs))
    (back_end _ (back_groups f numbers gs others p.1) refl)
