-- `inverse::finish` meets its contract: a shift is a division rounded down, each number on the way fits, and the cut to 16 bits is the cut of the output.
use mathlib.Core.Path.{◌≡◌, refl, sym, ap, subst, ◌∙◌}
use mathlib.Core.Bool.{Bool, true, false}
use Prim.Native.Nat.{◌+◌, ◌/◌, ◌≤◌, ◌<◌}
use native.Mathlib.Omega.{arith}
use borrow.Author.Tests.{ltb-true, ltb-false, lt-ltb, le-ltb}
use lib.Dec.{ltb, lit≤}
use lib.IntN.{ℤ, pos, negsuc, ◌+ℤ◌}
use lib.Signed.{shr_z}
use mir.Syntax.{w16, w32}
use mir.Val.{SFits, to_z, of_z}
use mir.Facts.{to_z-of_z}
use Rattle.laws.specs.Choice.{pick}
use Rattle.laws.specs.Integer.{Low}
use Rattle.laws.proofs.Integer.{low_fits, low_shr, low_add, back}
use Rattle.laws.specs.Floor.{floor_divided}
use Rattle.laws.proofs.Floor.{floor_shift, floor_floor}
use Rattle.quantiser.specs.Cut.{cut, short, at_least, at_most}
use Rattle.quantiser.proofs.CutLaws.{pick_true, pick-false, cut_low}
use Rattle.quantiser.proofs.Lines.{back16}
use Rattle.inverse.specs.Passes.{finished}
use Rattle.inverse.proofs.finish.Goals as goal
use Rattle.inverse.proofs.finish.Goals.{After-short, Start}

short_floor : (z : ℤ) → floor_divided (short z) 128 ≡ cut (negsuc 255) (pos 255) (floor_divided z 128)
unfolding floor_divided short cut at_least at_most
short_floor (pos n) = above (ltb 32767 n) refl
  where
    above : (t : Bool) → ltb 32767 n ≡ t → floor_divided (pick t (pos 32767) (pos n)) 128 ≡ cut (negsuc 255) (pos 255) (pos (n / 128))
    above true e =
        let l : 255 < n / 128 = omega (arith, ltb-true 32767 n e) in pick_true (pos 255) (pos (n / 128)) (lt-ltb 255 (n / 128) l)
    above false e =
        let l : n / 128 ≤ 255 = omega (arith, ltb-false 32767 n e) in pick-false (pos 255) (pos (n / 128)) (le-ltb 255 (n / 128) l)
short_floor (negsuc n) = below (ltb 32767 n) refl
  where
    below : (t : Bool) → ltb 32767 n ≡ t → floor_divided (at_most (pos 32767) (pick t (negsuc 32767) (negsuc n))) 128 ≡ cut (negsuc 255) (pos 255) (negsuc (n / 128))
    below true e =
        let l : 255 < n / 128 = omega (arith, ltb-true 32767 n e) in
        ap (at_most (pos 255)) (pick_true (negsuc 255) (negsuc (n / 128)) (lt-ltb 255 (n / 128) l))
    below false e =
        let l : n / 128 ≤ 255 = omega (arith, ltb-false 32767 n e) in
        ap (at_most (pos 255)) (pick-false (negsuc 255) (negsuc (n / 128)) (le-ltb 255 (n / 128) l))

abbrev down : (c : Start) → ℤ
down c = shr_z c.args.l 8192

low_down : (c : Start) → Low 45457 (down c)
low_down c = low_shr 8192 45456 c.requires.1 (lit≤ tt)

fits_down : (c : Start) → SFits w32 (down c)
fits_down c = low_fits tt (low_down c)

abbrev whole : (c : Start) → ℤ
whole c = c.args.h +ℤ (down c)

low_sum : (c : Start) → Low (372375552 + 45457) (whole c)
low_sum c = low_add c.requires.0 (low_down c)

fits_sum : (c : Start) → SFits w32 (whole c)
fits_sum c = low_fits tt (low_sum c)

abbrev down-at2 : (c : After-short) → ℤ
down-at2 c = shr_z c.args.l 8192

abbrev whole-at2 : (c : After-short) → ℤ
whole-at2 c = c.args.h +ℤ (down-at2 c)

low_down-at2 : (c : After-short) → Low 45457 (down-at2 c)
low_down-at2 c = low_shr 8192 45456 c.requires.1 (lit≤ tt)

fits_down-at2 : (c : After-short) → SFits w32 (down-at2 c)
fits_down-at2 c = low_fits tt (low_down-at2 c)

low_sum-at2 : (c : After-short) → Low (372375552 + 45457) (whole-at2 c)
low_sum-at2 c = low_add c.requires.0 (low_down-at2 c)

fits_sum-at2 : (c : After-short) → SFits w32 (whole-at2 c)
fits_sum-at2 c = low_fits tt (low_sum-at2 c)

fits_number : (c : After-short) → SFits w32 (shr_z (whole-at2 c) 32)
fits_number c = low_fits tt (low_shr 32 11638157 (low_sum-at2 c) (lit≤ tt))

short_is : (c : After-short) → c.short.result ≡ short (shr_z (whole-at2 c) 32)
short_is c =
    c.short.ensures
    ∙ simp (to_z-of_z c.ranges.l, to_z-of_z (fits_down-at2 c), to_z-of_z c.ranges.h, to_z-of_z (fits_sum-at2 c), to_z-of_z (fits_number c))

number_is : (c : After-short) → floor_divided (short (shr_z (whole-at2 c) 32)) 128 ≡ finished c.args.h c.args.l
unfolding finished
number_is c =
    ap (λ (z : ℤ). floor_divided (short z) 128) (sym (floor_shift (whole-at2 c) 32)) ∙ short_floor (floor_divided (whole-at2 c) 32)
    ∙ ap (λ (z : ℤ). cut (negsuc 255) (pos 255) z)
    (floor_floor (whole-at2 c) 32 128 ∙ ap (λ (z : ℤ). floor_divided (c.args.h +ℤ z) 4096) (sym (floor_shift c.args.l 8192)))

output_is : (c : After-short) → shr_z (to_z w16 (of_z w16 c.short.result)) 128 ≡ finished c.args.h c.args.l
output_is c =
    ap (λ (z : ℤ). shr_z z 128) (back16 c.short.result c.short.type_inv ∙ (short_is c))
    ∙ sym (floor_shift (short (shr_z (whole-at2 c) 32)) 128) ∙ number_is c

low_output : (c : After-short) → Low 256 (finished c.args.h c.args.l)
unfolding finished
low_output c = cut_low 255 255 (lit≤ tt) (lit≤ tt) _

read_is : (c : After-short) → to_z w16 (of_z w16 (shr_z (to_z w16 (of_z w16 c.short.result)) 128)) ≡ finished c.args.h c.args.l
read_is c = to_z-of_z (subst (λ (z : ℤ). SFits w16 z) (sym (output_is c)) (low_fits tt (low_output c))) ∙ (output_is c)

low_output-at2 : (c : Start) → Low 256 (finished c.args.h c.args.l)
unfolding finished
low_output-at2 c = cut_low 255 255 (lit≤ tt) (lit≤ tt) _

pub overflow_add-h : goal.overflow_add-h
overflow_add-h c = simp (to_z-of_z c.ranges.l, to_z-of_z (fits_down c), to_z-of_z c.ranges.h) (fits_sum c)

pub overflow_cast-result : goal.overflow_cast-result
overflow_cast-result c = subst (λ (z : ℤ). SFits w32 z) (sym (read_is c)) (low_fits tt (low_output-at2 (goal.at.overflow_cast-result c).Start))

pub returns : goal.returns
returns c = ap (λ (z : ℤ). to_z w32 (of_z w32 z)) (read_is c) ∙ back w32 tt (low_output-at2 (goal.at.returns c).Start)
