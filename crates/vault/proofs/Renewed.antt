-- Laws of a block for another clip, under another number: how stores in a copy of it make it, that it is good, and that only the last clip and number count. Assumes nothing.
use mathlib.Core.Path.{◌≡◌, refl, sym, ap, ◌∙◌}
use mathlib.Core.Bool.{true}
use mathlib.Core.List.{List, [], ◌∷◌, ◌++◌, append_assoc, append-nil}
use Prim.Native.Nat.{ℕ, ◌+◌, ◌*◌, ◌/◌, ◌%◌, ◌≤◌, ◌<◌}
use native.Mathlib.Omega.{arith}
use borrow.Author.Tests.{eqb-true, le-leb, lt-ltb}
use lib.Dec.{eqb, leb}
use lib.ListN.{length, get_or, take, drop, length-append, length-take, length-drop, take-append-drop, drop_of_length-le, get_or-append}
use lib.Seq.{sets, sets-eq, get_or-take, get_or-drop, ext_get_or, take_at}
use Rattle.laws.proofs.Choice.{two_of}
use Rattle.laws.proofs.Splice.{sets_after, get_d_past}
use Rattle.size.specs.declared.Size.{Size}
use Rattle.refusals.proofs.Told.{accepted_once}
use Rattle.vault.specs.declared.Header.{Header}
use Rattle.vault.specs.Block.{two_bytes, pair_at, picture_of, header_of, payload_of, check_sum_of, marks_of, standard_bit, standard_in, used_of, pictures, clip_rule, picture_rule, header_ruled, unused_clear, fields_follow, sum_of, check_of, marks_for, end_bytes, body_for, block_for}
use Rattle.vault.specs.Renewed.{renewed_body, renewed_block, renewed_header, RenewedGood, RenewedAgain, RenewedSame}
use Rattle.vault.proofs.Made.{weighted-append}
use Rattle.vault.proofs.Judged.{pair_back, number_back, both_true, passed, good_of, good_judged}

module _ (clip picture : ℕ) (block : List ℕ) where
  abbrev front : List ℕ
  front = two_bytes clip ++ two_bytes (picture % 65536)

  abbrev middle : List ℕ
  middle = take 504 (drop 4 block)

  abbrev end : List ℕ
  end = picture / 65536 ∷ 0 ∷ []

  abbrev body : List ℕ
  body = renewed_body clip picture block

  module _ (long : length block ≡ 512) where
    middle-length : length middle ≡ 504
    middle-length = omega (arith, length-take 504 (drop 4 block), length-drop 4 block)

    before_end_lem : length (front ++ middle) ≡ 508
    before_end_lem = length-append front middle ∙ ap (λ (n : ℕ). 4 + n) middle-length

    body-length : length body ≡ 510
    unfolding renewed_body
    body-length = length-append (front ++ middle) end ∙ ap (λ (n : ℕ). n + 2) before_end_lem

    pub renewed_length : length (renewed_block clip picture block) ≡ 512
    unfolding renewed_block
    renewed_length = length-append body (two_bytes (sum_of body)) ∙ ap (λ (n : ℕ). n + 2) body-length

    sum_body : (rest : List ℕ) → sum_of (body ++ rest) ≡ sum_of body
    sum_body rest = ap (λ (n : ℕ). n % 65521) (weighted-append body rest 510 (omega (arith, body-length)))

    -- ---- stores in a copy of the block
    abbrev rest : List ℕ
    rest = drop 504 (drop 4 block)

    rest-length : length rest ≡ 4
    rest-length = omega (arith, length-drop 504 (drop 4 block), length-drop 4 block)

    front_stored : sets block 0 front ≡ front ++ middle ++ rest
    front_stored = sets-eq front block 0 (omega arith) ∙ ap (λ (l : List ℕ). front ++ l) (sym (take-append-drop 504 (drop 4 block)))

    end_stored : sets (front ++ middle ++ rest) 508 end ≡ body ++ drop 2 rest
    unfolding renewed_body
    end_stored = sets_after (front ++ middle) end rest 508 before_end_lem (omega (arith, rest-length))

    sum-stored : sets (body ++ drop 2 rest) 510 (two_bytes (sum_of (body ++ drop 2 rest))) ≡ renewed_block clip picture block
    unfolding renewed_block
    sum-stored =
        ap (λ (n : ℕ). sets (body ++ drop 2 rest) 510 (two_bytes n)) (sum_body (drop 2 rest))
        ∙ sets_after body (two_bytes (sum_of body)) (drop 2 rest) 510 body-length (omega (arith, length-drop 2 rest, rest-length))
        ∙ ap (λ (l : List ℕ). body ++ two_bytes (sum_of body) ++ l) (drop_of_length-le (drop 2 rest) nothing)
        ∙ append-nil (body ++ two_bytes (sum_of body))
      where
        nothing : length (drop 2 rest) ≤ 2
        nothing = omega (arith, length-drop 2 rest, rest-length)

    abbrev stores : List ℕ → List ℕ
    stores copied = sets (sets copied 0 front) 508 end

    pub renewed_stored : (copied : List ℕ) → copied ≡ block → sets (stores copied) 510 (two_bytes (sum_of (stores copied))) ≡ renewed_block clip picture block
    renewed_stored copied e =
        ap (λ (l : List ℕ). sets (stores l) 510 (two_bytes (sum_of (stores l)))) e
        ∙ ap (λ (l : List ℕ). sets l 510 (two_bytes (sum_of l))) (ap (λ (l : List ℕ). sets l 508 end) front_stored ∙ end_stored)
        ∙ sum-stored

    -- ---- what stands in it
    -- bytes 4 to 507 are as they were
    abbrev made : List ℕ
    made = renewed_block clip picture block

    abbrev ending : List ℕ
    ending = end ++ two_bytes (sum_of body)

    as_made : made ≡ front ++ (middle ++ ending)
    unfolding renewed_block renewed_body
    as_made = append_assoc (front ++ middle) end (two_bytes (sum_of body)) ∙ append_assoc front middle ending

    kept_byte : (i : ℕ) → i < 504 → get_or made (4 + i) 0 ≡ get_or block (4 + i) 0
    kept_byte i l =
        ap (λ (b : List ℕ). get_or b (4 + i) 0) as_made ∙ get_d_past front (middle ++ ending) 4 i 0 refl
        ∙ get_or-append middle ending 0 i (omega (arith, middle-length)) ∙ get_or-take 504 (drop 4 block) i 0 l ∙ get_or-drop 4 block i 0

    end_byte : (k : ℕ) → get_or made (508 + k) 0 ≡ get_or ending k 0
    end_byte k =
        ap (λ (b : List ℕ). get_or b (508 + k) 0) (as_made ∙ sym (append_assoc front middle ending))
        ∙ get_d_past (front ++ middle) ending 508 k 0 before_end_lem

    pub middle_kept : take 504 (drop 4 made) ≡ middle
    middle_kept = ap (λ (b : List ℕ). take 504 (drop 4 b)) as_made ∙ take_at middle ending 504 middle-length

    pub payload_kept : payload_of made ≡ payload_of block
    payload_kept =
        ext_get_or 0 (payload_of made) (payload_of block) (long_payload made renewed_length ∙ sym (long_payload block long))
        (λ j l. byte j (omega (arith, long_payload made renewed_length)))
      where
        long_payload : (b : List ℕ) → length b ≡ 512 → length (payload_of b) ≡ 500
        long_payload b e = omega (arith, length-take 500 (drop 8 b), length-drop 8 b)

        byte : (j : ℕ) → j < 500 → get_or (payload_of made) j 0 ≡ get_or (payload_of block) j 0
        byte j l =
            let at : 4 + (4 + j) ≡ 8 + j = omega arith in
            get_or-take 500 (drop 8 made) j 0 l ∙ get_or-drop 8 made j 0
            ∙ ap (λ (n : ℕ). get_or made n 0) (sym at) ∙ kept_byte (4 + j) (omega arith) ∙ ap (λ (n : ℕ). get_or block n 0) at
            ∙ sym (get_or-take 500 (drop 8 block) j 0 l ∙ get_or-drop 8 block j 0)

    clip_made : pair_at made 0 ≡ clip
    unfolding renewed_block renewed_body
    clip_made = pair_back clip

    picture_made : picture_of made ≡ picture
    unfolding renewed_block renewed_body
    picture_made = ap (λ (high : ℕ). 65536 * high + pair_at made 2) (end_byte 0) ∙ number_back picture

    marks_kept : marks_of made ≡ marks_of block
    marks_kept = kept_byte 1 (omega arith)

    used_kept : used_of made ≡ used_of block
    used_kept = λ i. 256 * kept_byte 2 (omega arith) i + kept_byte 3 (omega arith) i

    header_made : header_of made ≡ renewed_header clip picture (header_of block)
    header_made = λ i. record {
      standard = standard_in (standard_bit (marks_kept i));
      clip = clip_made i;
      picture = picture_made i;
      part = kept_byte 0 (omega arith) i;
      last = eqb (marks_kept i % 2) 1;
      refresh = eqb (marks_kept i / 2 % 2) 1;
      used = used_kept i;
    }

    sum-made : sum_of made ≡ check_sum_of made
    unfolding renewed_block
    sum-made =
        let s : ℕ = sum_of body in
        sum_body (two_bytes s) ∙ sym (pair_back s)
        ∙ sym (λ i. 256 * get_d_past body (two_bytes s) 510 0 0 body-length i + get_d_past body (two_bytes s) 510 1 0 body-length i)

-- ---- it is good
ruled_so : (size : Size) (clip picture : ℕ) (header : Header) → 1 ≤ clip → picture < pictures → header_ruled size header ≡ true → header_ruled size (renewed_header clip picture header) ≡ true
unfolding header_ruled
ruled_so size clip picture header c p r =
    both_true (le-leb 1 clip c) (both_true (lt-ltb picture pictures p) (two_of (picture_rule header) _ (two_of (clip_rule header) _ r).1).1)

fields_made : (size : Size) (clip picture : ℕ) (block : List ℕ) → length block ≡ 512 → 1 ≤ clip → picture < pictures → fields_follow size block ≡ true → fields_follow size (renewed_block clip picture block) ≡ true
unfolding fields_follow
fields_made size clip picture block long c p f =
    let ruled = two_of (header_ruled size (header_of block)) _ f in
    let marks = two_of (leb (marks_of block) 7) _ ruled.1 in
    let clear = two_of (unused_clear (used_of block) (payload_of block) 500) _ marks.1 in
    both_true (ap (header_ruled size) (header_made clip picture block long) ∙ ruled_so size clip picture (header_of block) c p ruled.0)
    (both_true (ap (λ (m : ℕ). leb m 7) (marks_kept clip picture block long) ∙ marks.0)
    (both_true ((λ i. unused_clear (used_kept clip picture block long i) (payload_kept clip picture block long i) 500) ∙ clear.0)
    (ap (λ (z : ℕ). eqb z 0) (end_byte clip picture block long 1))))

pub renewed_good : RenewedGood
unfolding check_of
renewed_good size clip picture block header c p e =
    let long = good_of (eqb (length block) 512) _ _ header e in
    let sum = good_of (eqb (sum_of block) (check_sum_of block)) _ _ header long.1 in
    let rules = good_of (fields_follow size block) _ _ header sum.1 in
    let is : length block ≡ 512 = eqb-true (length block) 512 long.0 in
    record {
      judged =
          good_judged size (renewed_block clip picture block) (renewed_header clip picture header)
          (passed size (renewed_block clip picture block) (renewed_header clip picture header) (renewed_length clip picture block is) (sum-made clip picture block is)
          (fields_made size clip picture block is c p rules.0) (header_made clip picture block is ∙ ap (renewed_header clip picture) (accepted_once rules.1)));
      payload = payload_kept clip picture block is;
    }

-- ---- only the last clip and number count
same_middle : (clip picture : ℕ) (block other : List ℕ) → take 504 (drop 4 block) ≡ take 504 (drop 4 other) → renewed_block clip picture block ≡ renewed_block clip picture other
unfolding renewed_block renewed_body
same_middle clip picture block other e =
    ap (λ (m : List ℕ).
    let b = (two_bytes clip ++ two_bytes (picture % 65536)) ++ m ++ (picture / 65536 ∷ 0 ∷ []) in
    b ++ two_bytes (sum_of b)) e

pub renewed_again : RenewedAgain
renewed_again clip picture clip' picture' block long = same_middle clip picture (renewed_block clip' picture' block) block (middle_kept clip' picture' block long)

-- ---- a block as it was made
module _ (header : Header) (payload : List ℕ) (e : length payload ≡ 500) where
  -- its bytes 4 to 507
  abbrev inner : List ℕ
  inner = header.part ∷ marks_for header ∷ header.used / 256 ∷ header.used % 256 ∷ payload

  inner-length : length inner ≡ 504
  inner-length = omega arith

  made-middle : take 504 (drop 4 (block_for header payload)) ≡ inner
  unfolding block_for body_for
  made-middle = ap (take 504) (append_assoc inner (end_bytes header) _) ∙ take_at inner _ 504 inner-length

  own_same : renewed_block header.clip header.picture (block_for header payload) ≡ block_for header payload
  unfolding renewed_block renewed_body block_for body_for
  own_same =
      ap (λ (m : List ℕ).
      let b = (two_bytes header.clip ++ two_bytes (header.picture % 65536)) ++ m ++ end_bytes header in
      b ++ two_bytes (sum_of b)) made-middle

pub renewed_same : RenewedSame
renewed_same = own_same
