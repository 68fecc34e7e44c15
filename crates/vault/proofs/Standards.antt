-- The rules from before document 02's T-04 and those of now: alike where bit 2 of the marks is unset; where it is set, it was against the old ones. Assumes nothing.
use mathlib.Core.Path.{◌≡◌, refl, sym, ap, ◌∙◌}
use mathlib.Core.Bool.{Bool, true, false}
use mathlib.Core.List.{List}
use Prim.Native.Nat.{ℕ, ◌/◌, ◌%◌}
use native.Mathlib.Omega.{arith}
use lib.ListN.{length}
use lib.Dec.{eqb, leb}
use borrow.Author.Tests.{le-leb, lt-leb, leb-true, leb-false, eqb-true, eqb-false, ne_eqb}
use Rattle.laws.specs.Choice.{pick, both}
use Rattle.laws.proofs.Choice.{first_no, second_no}
use Rattle.size.specs.declared.Size.{Size}
use Rattle.refusals.specs.Told.{Told, accepted, refused_by, refused}
use Rattle.vault.specs.declared.Standard.{Standard}
use Rattle.vault.specs.declared.Standard.TheVariants.{H261, H263}
use Rattle.vault.specs.declared.Header.{Header}
use Rattle.vault.specs.Block.{marks_of, standard_bit, standard_in, used_of, payload_of, zero_of, check_sum_of, header_of, header_ruled, unused_clear, fields_follow, sum_of, check_of, of_clip, same_standard, of_standard, judge_of, standard_mark}
use Rattle.vault.specs.Standards.{follow_unmarked, check_unmarked, judge_unmarked, UnmarkedJudgedAlike, MarkedOtherwise, StandardBelieved, MarksKept}
use Rattle.vault.proofs.Judged.{good_of, good_sound, same_so, own_clip, own_standard, good_of_clip}

-- ---- bit 2
-- of marks without it the rest are zero
pub marks_alike : (m : ℕ) → standard_bit m ≡ false → leb m 7 ≡ leb m 3
marks_alike m u = by (leb m 3) refl
  where
    by : (b : Bool) → leb m 3 ≡ b → leb m 7 ≡ leb m 3
    by true e = le-leb m 7 (omega (arith, leb-true m 3 e)) ∙ sym e
    by false e = lt-leb m 7 (omega (arith, leb-false m 3 e, eqb-false (m / 4 % 2) 1 u)) ∙ sym e

pub low_unmarked : (m : ℕ) → leb m 3 ≡ true → standard_bit m ≡ false
low_unmarked m l = ne_eqb (m / 4 % 2) 1 (λ e. omega (arith, leb-true m 3 l))

marked_high : (m : ℕ) → standard_bit m ≡ true → leb m 3 ≡ false
marked_high m e = lt-leb m 3 (omega (arith, eqb-true (m / 4 % 2) 1 e))

-- a judgement that finds nothing of another standard
pub stays : (standard : Standard) (found : Told Header) → ((header : Header) → found ≡ accepted header → header.standard ≡ standard) → of_standard standard found ≡ found
stays standard (accepted header) h = rw (same_so header.standard standard (h header refl))
stays standard (refused_by numbers) h = refl

module _ (size : Size) (block : List ℕ) where
  follow_alike : standard_bit (marks_of block) ≡ false → fields_follow size block ≡ follow_unmarked size block
  unfolding fields_follow follow_unmarked
  follow_alike u = λ i.
      both (header_ruled size (header_of block)) (both (marks_alike (marks_of block) u i) (both (unused_clear (used_of block) (payload_of block) 500) (eqb (zero_of block) 0)))

  check_alike : standard_bit (marks_of block) ≡ false → check_of size block ≡ check_unmarked size block
  unfolding check_of check_unmarked
  check_alike u = λ i.
      pick (eqb (length block) 512)
      (pick (eqb (sum_of block) (check_sum_of block)) (pick (follow_alike u i) (accepted (header_of block)) (refused 22 0)) (refused 21 0)) (refused 1 0)

  -- a good block has the standard that its marks say
  marked_as : (header : Header) → check_of size block ≡ accepted header → header.standard ≡ standard_in (standard_bit (marks_of block))
  marked_as header e = sym (ap (λ (h : Header). h.standard) (good_sound size block header e).header_is)

  judge_alike : standard_bit (marks_of block) ≡ false → (clip : ℕ) → judge_of size H261 clip block ≡ judge_unmarked size clip block
  unfolding judge_of judge_unmarked
  judge_alike u clip =
      stays H261 (of_clip clip (check_of size block)) (λ header e. marked_as header (own_clip clip (check_of size block) header e).0 ∙ ap standard_in u)
      ∙ ap (of_clip clip) (check_alike u)

  was_against : standard_bit (marks_of block) ≡ true → follow_unmarked size block ≡ false
  unfolding follow_unmarked
  was_against m = second_no (header_ruled size (header_of block)) _ (first_no (leb (marks_of block) 3) _ (marked_high (marks_of block) m))

  module _ (header : Header) (e : check_of size block ≡ accepted header) (m : standard_bit (marks_of block) ≡ true) where
    was_refused : check_unmarked size block ≡ refused 22 0
    unfolding check_of check_unmarked
    was_refused =
        let whole = good_of (eqb (length block) 512) _ _ header e in
        let summed = good_of (eqb (sum_of block) (check_sum_of block)) _ _ header whole.1 in
        rw (whole.0, summed.0, was_against m)

    otherwise : (judge_unmarked size header.clip block ≡ refused 22 0) × (judge_of size H261 header.clip block ≡ refused 5 0)
    unfolding judge_of judge_unmarked
    otherwise = (ap (of_clip header.clip) was_refused, ap (of_standard H261) (good_of_clip size block header e) ∙ other (marked_as header e ∙ ap standard_in m))
      where
        other : header.standard ≡ H263 → of_standard H261 (accepted header) ≡ refused 5 0
        other is = ap (λ (s : Standard). pick (same_standard s H261) (accepted header) (refused 5 0)) is

pub unmarked_judged_alike : UnmarkedJudgedAlike
unmarked_judged_alike size block u = (check_alike size block u, judge_alike size block u)

pub marked_otherwise : MarkedOtherwise
marked_otherwise = otherwise

pub standard_believed : StandardBelieved
unfolding judge_of
standard_believed size standard clip block header e = (own_standard standard (of_clip clip (check_of size block)) header e).1

pub marks_kept : MarksKept
marks_kept header e =
    let none : standard_mark header.standard ≡ 0 = ap standard_mark e in
    omega arith
