-- The rules from before document 02's T-08 and those of now: alike below 4,096, where byte 508 is zero; from there on byte 508 or bytes 2 and 3 are against the old ones.
-- Assumes nothing.
use mathlib.Core.Path.{◌≡◌, refl, sym, ap, ◌∙◌}
use mathlib.Core.Bool.{Bool, true, false}
use mathlib.Core.List.{List, [], ◌∷◌, ◌++◌}
use Prim.Native.Nat.{ℕ, zero, suc, ◌/◌, ◌%◌, ◌≤◌, ◌<◌}
use native.Mathlib.Omega.{arith}
use lib.ListN.{length}
use lib.Dec.{eqb, leb, ltb}
use borrow.Author.Tests.{ltb-true, ltb-false, lt-ltb, ne_eqb}
use Rattle.laws.specs.Choice.{pick, both}
use Rattle.laws.proofs.Choice.{two_of, first_no, second_no}
use Rattle.size.specs.declared.Size.{Size}
use Rattle.refusals.specs.Told.{accepted, refused}
use Rattle.refusals.proofs.Told.{told_apart}
use Rattle.vault.specs.declared.Standard.TheVariants.{H261}
use Rattle.vault.specs.declared.Header.{Header}
use Rattle.vault.specs.Block.{pair_at, two_bytes, clip_of, picture_of, part_of, marks_of, last_of, refresh_of, standard_bit, standard_in, used_of, payload_of, zero_of, check_sum_of, header_of, pictures, clip_rule, header_ruled, unused_clear, fields_follow, sum_of, check_of, of_clip, judge_of, body_for, block_for}
use Rattle.vault.specs.Parts.{part_count, payload_at, header_at, block_at, first_blocks}
use Rattle.vault.specs.Before.{pictures_before, header_before, ruled_before, follow_before, check_before, judge_before, body_before, block_before, first_blocks_before, EarlierJudgedAlike, StoredKept, LaterRefusedBefore, TakenRefusedBefore, LaterNeverGoodBefore, EarlierMadeAlike, LaterPartsRefusedBefore}
use Rattle.vault.proofs.Judged.{good_of, good_sound, own_clip, judged_good}
use Rattle.vault.proofs.Standards.{marks_alike, low_unmarked, stays, marks_kept}
use Rattle.vault.proofs.Collected.{at_judged}

-- ---- a block below 4,096, without H.263's mark
ruled_alike : (size : Size) (header : Header) → header.picture < pictures_before → header_ruled size header ≡ ruled_before size header
unfolding header_ruled ruled_before
ruled_alike size header l = rw (lt-ltb header.picture pictures (omega arith), lt-ltb header.picture pictures_before l)

module _ (size : Size) (block : List ℕ) where
  module _ (l : picture_of block < pictures_before) (u : standard_bit (marks_of block) ≡ false) where
    -- its high byte is zero
    picture_alike : picture_of block ≡ pair_at block 2
    picture_alike = omega arith

    zero_alike : zero_of block ≡ pair_at block 508
    zero_alike = omega arith

    header_alike : header_of block ≡ header_before block
    header_alike = λ i. record {
      standard = standard_in (u i);
      clip = clip_of block;
      picture = picture_alike i;
      part = part_of block;
      last = last_of block;
      refresh = refresh_of block;
      used = used_of block;
    }

    follow_alike : fields_follow size block ≡ follow_before size block
    unfolding fields_follow follow_before
    follow_alike =
        (λ i. both (header_ruled size (header_alike i)) (both (marks_alike (marks_of block) u i) (both (unused_clear (used_of block) (payload_of block) 500) (eqb (zero_alike i) 0))))
        ∙ ap (λ (ruled : Bool). both ruled (both (leb (marks_of block) 3) (both (unused_clear (used_of block) (payload_of block) 500) (eqb (pair_at block 508) 0))))
        (ruled_alike size (header_before block) (omega arith))

    check_alike : check_of size block ≡ check_before size block
    unfolding check_of check_before
    check_alike = λ i.
        pick (eqb (length block) 512)
        (pick (eqb (sum_of block) (check_sum_of block))
        (pick (follow_alike i) (accepted (header_alike i)) (refused 22 0)) (refused 21 0)) (refused 1 0)

    judge_alike : (clip : ℕ) → judge_of size H261 clip block ≡ judge_before size clip block
    unfolding judge_of judge_before
    judge_alike clip =
        stays H261 (of_clip clip (check_of size block))
        (λ header e. sym (ap (λ (h : Header). h.standard) (good_sound size block header (own_clip clip (check_of size block) header e).0).header_is) ∙ ap standard_in u)
        ∙ ap (of_clip clip) check_alike

  -- ---- a later one
  later-against : pictures_before ≤ picture_of block → follow_before size block ≡ false
  unfolding follow_before ruled_before
  later-against l = by_number (ltb (pair_at block 2) pictures_before) refl
    where
      by_number : (b : Bool) → ltb (pair_at block 2) pictures_before ≡ b → follow_before size block ≡ false
      by_number true e =
          let low : pair_at block 2 < pictures_before = ltb-true (pair_at block 2) pictures_before e in
          let high : pair_at block 508 ≡ 0 → ⊥ = λ none. omega arith in
          second_no (ruled_before size (header_before block)) _
          (second_no (leb (marks_of block) 3) _ (second_no (unused_clear (used_of block) (payload_of block) 500) _ (ne_eqb (pair_at block 508) 0 high)))
      by_number false e = first_no (ruled_before size (header_before block)) _ (second_no (clip_rule (header_before block)) _ (first_no (ltb (pair_at block 2) pictures_before) _ e))

  later_is : pictures_before ≤ picture_of block
      → check_before size block ≡ pick (eqb (length block) 512) (pick (eqb (sum_of block) (check_sum_of block)) (refused 22 0) (refused 21 0)) (refused 1 0)
  unfolding check_before
  later_is l = rw (later-against l)

  refused_throughout : (whole summed : Bool) (header : Header) → pick whole (pick summed (refused 22 0) (refused 21 0)) (refused 1 0) ≡ accepted header → ⊥
  refused_throughout true true header e = told_apart (sym e)
  refused_throughout true false header e = told_apart (sym e)
  refused_throughout false summed header e = told_apart (sym e)

  later_never : (header : Header) → pictures_before ≤ picture_of block → check_before size block ≡ accepted header → ⊥
  later_never header l e = refused_throughout (eqb (length block) 512) (eqb (sum_of block) (check_sum_of block)) header (sym (later_is l) ∙ e)

  unmarked : (header : Header) → check_before size block ≡ accepted header → standard_bit (marks_of block) ≡ false
  unfolding check_before follow_before
  unmarked header e =
      let whole = good_of (eqb (length block) 512) _ _ header e in
      let summed = good_of (eqb (sum_of block) (check_sum_of block)) _ _ header whole.1 in
      let rules = good_of (follow_before size block) _ _ header summed.1 in
      let marks = two_of (leb (marks_of block) 3) _ (two_of (ruled_before size (header_before block)) _ rules.0).1 in
      low_unmarked (marks_of block) marks.0

  stored : (header : Header) → check_before size block ≡ accepted header → (check_of size block ≡ accepted header) × (header.picture < pictures_before)
  stored header e = by_number (ltb (picture_of block) pictures_before) refl
    where
      by_number : (b : Bool) → ltb (picture_of block) pictures_before ≡ b → (check_of size block ≡ accepted header) × (header.picture < pictures_before)
      by_number true t =
          let l : picture_of block < pictures_before = ltb-true (picture_of block) pictures_before t in
          let good : check_of size block ≡ accepted header = check_alike l (unmarked header e) ∙ e in
          (good, omega (arith, ap (λ (h : Header). h.picture) (good_sound size block header good).header_is))
      by_number false t = absurd (later_never header (ltb-false (picture_of block) pictures_before t) e)

  taken : (header : Header) → check_of size block ≡ accepted header → pictures_before ≤ header.picture → check_before size block ≡ refused 22 0
  unfolding check_of
  taken header e l =
      let numbered : header.picture ≡ picture_of block = sym (ap (λ (h : Header). h.picture) (good_sound size block header e).header_is) in
      let whole = good_of (eqb (length block) 512) _ _ header e in
      let summed = good_of (eqb (sum_of block) (check_sum_of block)) _ _ header whole.1 in
      later_is (omega (arith, numbered)) ∙ rw (whole.0, summed.0)

pub earlier_judged_alike : EarlierJudgedAlike
earlier_judged_alike size block l u = (check_alike size block l u, judge_alike size block l u)

pub stored_kept : StoredKept
stored_kept = stored

pub later_refused_before : LaterRefusedBefore
later_refused_before = later_is

pub taken_refused_before : TakenRefusedBefore
unfolding judge_before
taken_refused_before size block header e l = (taken size block header e l, λ clip. ap (of_clip clip) (taken size block header e l))

pub later_never_good_before : LaterNeverGoodBefore
later_never_good_before = later_never

-- ---- a sender's blocks
module _ (header : Header) (payload : List ℕ) (l : header.picture < pictures_before) (h : header.standard ≡ H261) where
  low_alike : header.picture % 65536 ≡ header.picture
  low_alike = omega arith

  high_none : header.picture / 65536 ≡ 0
  high_none = omega arith

  body_alike : body_for header payload ≡ body_before header payload
  unfolding body_for
  body_alike = λ i.
      two_bytes header.clip ++ two_bytes (low_alike i) ++ (header.part ∷ marks_kept header h i ∷ []) ++ two_bytes header.used ++ payload ++ (high_none i ∷ 0 ∷ [])

  block_alike : block_for header payload ≡ block_before header payload
  unfolding block_for block_before
  block_alike = ap (λ (body : List ℕ). body ++ two_bytes (sum_of body)) body_alike

pub earlier_made_alike : EarlierMadeAlike
unfolding first_blocks first_blocks_before block_at
earlier_made_alike clip picture refresh bytes count l = first (part_count count)
  where
    first : (n : ℕ) → first_blocks H261 clip picture refresh bytes count n ≡ first_blocks_before clip picture refresh bytes count n
    first zero = refl
    first (suc n) = λ i. first n i ++ block_alike (header_at H261 clip picture refresh count n) (payload_at bytes count n) l refl i

pub later_parts_refused_before : LaterPartsRefusedBefore
later_parts_refused_before standard clip picture refresh bytes count size part p l reader =
    let block : List ℕ = block_at standard clip picture refresh bytes count part in
    let header : Header = header_at standard clip picture refresh count part in
    (taken_refused_before size block header (judged_good size standard clip block header (at_judged standard clip picture refresh bytes count size part p)).0 l).1 reader
