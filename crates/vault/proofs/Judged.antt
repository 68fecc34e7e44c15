-- What a judgement says: a block of a header within the rules and a clear payload is good, with that header; and what holds of a good block.
-- Assumes nothing.
use mathlib.Core.Path.{◌≡◌, refl, sym, ap, ◌∙◌}
use mathlib.Core.Bool.{Bool, true, false, false≢true}
use mathlib.Core.List.{List, ◌++◌, append_assoc}
use Prim.Native.Nat.{ℕ, ◌+◌, ◌*◌, ◌/◌, ◌%◌, ◌≤◌, ◌<◌}
use native.Mathlib.Omega.{arith}
use lib.ListN.{length, get_or, take}
use lib.Seq.{take_at}
use lib.Dec.{eqb, leb}
use borrow.Author.Tests.{leb-true, ltb-true, eqb-true, eq-eqb}
use Rattle.std.specs.Prelude.{Ok, Err}
use Rattle.laws.specs.Choice.{pick, both, either}
use Rattle.laws.proofs.Choice.{two_of, if_so}
use Rattle.laws.proofs.Splice.{get_d_past}
use Rattle.size.specs.declared.Size.{Size}
use Rattle.refusals.specs.Told.{Told, accepted, refused_by, refused}
use Rattle.refusals.proofs.Told.{accepted_once, told_apart, refused_once}
use Rattle.vault.specs.declared.Standard.{Standard}
use Rattle.vault.specs.declared.Standard.TheVariants.{H261, H263}
use Rattle.vault.specs.declared.Header.{Header}
use Rattle.vault.specs.Block.{two_bytes, pair_at, picture_of, header_of, payload_of, zero_of, check_sum_of, marks_of, standard_bit, standard_in, pictures, greatest_part, clip_rule, picture_rule, part_rule, refresh_rule, used_rule, header_ruled, unused_clear, fields_follow, sum_of, CheckedToldOnce, check_of, of_clip, same_standard, of_standard, judge_of, bit, standard_mark, marks_for, head_bytes, end_bytes, body_for, block_for}
use Rattle.vault.proofs.Made.{before_end_lem, body-length, block_length, sum_body}

-- ---- a block that was made
-- the number of a number's two bytes
pub pair_back : (n : ℕ) → 256 * (n / 256) + n % 256 ≡ n
pair_back n = omega arith

-- the number of a number's high byte and its two others
pub number_back : (n : ℕ) → 65536 * (n / 65536) + (256 * (n % 65536 / 256) + n % 65536 % 256) ≡ n
number_back n = omega arith

-- what marks are made of, read back
record MarksBack (standard : Standard) (last refresh : Bool) (marks : ℕ) : Type 0 where
  standard_back : standard_in (standard_bit marks) ≡ standard
  last_back : eqb (marks % 2) 1 ≡ last
  refresh_back : eqb (marks / 2 % 2) 1 ≡ refresh
  three_marks : leb marks 7 ≡ true

marks_back : (standard : Standard) (last refresh : Bool) → MarksBack standard last refresh (standard_mark standard + (bit last + 2 * bit refresh))
marks_back H261 true true = record { standard_back = refl; last_back = refl; refresh_back = refl; three_marks = refl }
marks_back H261 true false = record { standard_back = refl; last_back = refl; refresh_back = refl; three_marks = refl }
marks_back H261 false true = record { standard_back = refl; last_back = refl; refresh_back = refl; three_marks = refl }
marks_back H261 false false = record { standard_back = refl; last_back = refl; refresh_back = refl; three_marks = refl }
marks_back H263 true true = record { standard_back = refl; last_back = refl; refresh_back = refl; three_marks = refl }
marks_back H263 true false = record { standard_back = refl; last_back = refl; refresh_back = refl; three_marks = refl }
marks_back H263 false true = record { standard_back = refl; last_back = refl; refresh_back = refl; three_marks = refl }
marks_back H263 false false = record { standard_back = refl; last_back = refl; refresh_back = refl; three_marks = refl }

module _ (header : Header) (payload : List ℕ) (e : length payload ≡ 500) where
  abbrev made : List ℕ
  made = block_for header payload

  -- what stands after the payload
  abbrev ending : List ℕ
  ending = end_bytes header ++ two_bytes (sum_of (body_for header payload))

  made_end : (k : ℕ) → get_or made (508 + k) 0 ≡ get_or ending k 0
  unfolding block_for body_for
  made_end k =
      ap (λ (block : List ℕ). get_or block (508 + k) 0) (append_assoc (head_bytes header ++ payload) (end_bytes header) (two_bytes (sum_of (body_for header payload))))
      ∙ get_d_past (head_bytes header ++ payload) ending 508 k 0 (before_end_lem header payload e)

  made_picture : picture_of made ≡ header.picture
  unfolding block_for body_for
  made_picture = ap (λ (high : ℕ). 65536 * high + pair_at made 2) (made_end 0) ∙ number_back header.picture

  marked : MarksBack header.standard header.last header.refresh (marks_for header)
  marked = marks_back header.standard header.last header.refresh

  pub made_header : header_of made ≡ header
  unfolding block_for body_for
  made_header = λ i. record {
    standard = marked.standard_back i;
    clip = pair_back header.clip i;
    picture = made_picture i;
    part = header.part;
    last = marked.last_back i;
    refresh = marked.refresh_back i;
    used = pair_back header.used i;
  }

  made_marks : leb (marks_of made) 7 ≡ true
  unfolding block_for body_for
  made_marks = marked.three_marks

  pub made_payload : payload_of made ≡ payload
  unfolding block_for body_for
  made_payload = ap (take 500) (append_assoc payload (end_bytes header) _) ∙ take_at payload _ 500 e

  made-zero : zero_of made ≡ 0
  made-zero = made_end 1

  made-sum : sum_of made ≡ check_sum_of made
  unfolding block_for
  made-sum =
      let s : ℕ = sum_of (body_for header payload) in
      sum_body header payload e (two_bytes s) ∙ sym (pair_back s)
      ∙ sym (λ i. 256 * get_d_past (body_for header payload) (two_bytes s) 510 0 0 (body-length header payload e) i
      + get_d_past (body_for header payload) (two_bytes s) 510 1 0 (body-length header payload e) i)

-- every test passed
pub passed : (size : Size) (block : List ℕ) (header : Header) → length block ≡ 512 → sum_of block ≡ check_sum_of block → fields_follow size block ≡ true
    → header_of block ≡ header → check_of size block ≡ accepted header
unfolding check_of
passed size block header l s f h = rw (eq-eqb (length block) 512 l, eq-eqb (sum_of block) (check_sum_of block) s, f) (ap accepted h)

pub both_true : {a b : Bool} → a ≡ true → b ≡ true → both a b ≡ true
both_true p q = rw p q

-- a block of a header within the rules and a clear payload is good, and its header is that one
pub made_good : (size : Size) (header : Header) (payload : List ℕ) → length payload ≡ 500 → header_ruled size header ≡ true
    → unused_clear header.used payload 500 ≡ true → check_of size (block_for header payload) ≡ accepted header
unfolding fields_follow
made_good size header payload e r k =
    passed size (block_for header payload) header (block_length header payload e) (made-sum header payload e) rules (made_header header payload e)
  where
    rules : fields_follow size (block_for header payload) ≡ true
    rules =
        both_true (ap (header_ruled size) (made_header header payload e) ∙ r)
        (both_true (made_marks header payload e)
        (both_true ((λ i. unused_clear (made_header header payload e i).used (made_payload header payload e i) 500) ∙ k)
        (eq-eqb (zero_of (block_for header payload)) 0 (made-zero header payload e))))

-- ---- a block that is good
pub record Sound (size : Size) (block : List ℕ) (header : Header) : Type 0 where
  pub long : length block ≡ 512
  pub header_is : header_of block ≡ header
  pub clip_is : 1 ≤ header.clip
  pub picture_is : header.picture < pictures
  pub part_is : header.part ≤ greatest_part size
  pub refresh_is : header.refresh ≡ true → header.part ≡ 0
  pub used_is : 1 ≤ header.used
  pub used_most : header.used ≤ 4000
  pub used_full : header.last ≡ false → header.used ≡ 4000

unless : (a b : Bool) → either a b ≡ true → a ≡ false → b ≡ true
unless true b e f = absurd (false≢true (sym f))
unless false b e f = e

-- a test whose failure refuses
pub good_of : (t : Bool) (x : Told Header) (n : ℕ) (header : Header) → pick t x (refused n 0) ≡ accepted header → (t ≡ true) × (x ≡ accepted header)
good_of true x n header e = (refl, e)
good_of false x n header e = absurd (told_apart (sym e))

rules_of : (size : Size) (block : List ℕ) (header : Header) → length block ≡ 512 → header_of block ≡ header → header_ruled size header ≡ true
    → Sound size block header
unfolding header_ruled
rules_of size block header l h r =
    let clip = two_of (clip_rule header) _ r in
    let picture = two_of (picture_rule header) _ clip.1 in
    let part = two_of (part_rule size header) _ picture.1 in
    let refresh = two_of (refresh_rule header) (used_rule header) part.1 in
    let used = two_of (leb 1 header.used) _ refresh.1 in
    let most = two_of (leb header.used 4000) _ used.1 in
    record {
      long = l;
      header_is = h;
      clip_is = leb-true 1 header.clip clip.0;
      picture_is = ltb-true header.picture pictures picture.0;
      part_is = leb-true header.part (greatest_part size) part.0;
      refresh_is = λ m. eqb-true header.part 0 (if_so header.refresh (eqb header.part 0) refresh.0 m);
      used_is = leb-true 1 header.used used.0;
      used_most = leb-true header.used 4000 most.0;
      used_full = λ m. eqb-true header.used 4000 (unless header.last (eqb header.used 4000) most.1 m);
    }

pub good_sound : (size : Size) (block : List ℕ) (header : Header) → check_of size block ≡ accepted header → Sound size block header
unfolding check_of fields_follow
good_sound size block header e =
    let long = good_of (eqb (length block) 512) _ _ header e in
    let sum = good_of (eqb (sum_of block) (check_sum_of block)) _ _ header long.1 in
    let rules = good_of (fields_follow size block) _ _ header sum.1 in
    let same = accepted_once rules.1 in
    rules_of size block header (eqb-true (length block) 512 long.0) same
    (ap (header_ruled size) (sym same) ∙ (two_of (header_ruled size (header_of block)) _ rules.0).0)

-- ---- of one clip, which has a standard
pub own_clip : (clip : ℕ) (found : Told Header) (header : Header) → of_clip clip found ≡ accepted header → (found ≡ accepted header) × (header.clip ≡ clip)
own_clip clip (accepted found) header e =
    let same = good_of (eqb found.clip clip) (accepted found) _ header e in
    (same.1, sym (ap (λ (h : Header). h.clip) (accepted_once same.1)) ∙ eqb-true found.clip clip same.0)
own_clip clip (refused_by numbers) header e = absurd (told_apart (sym e))

same_is : (a b : Standard) → same_standard a b ≡ true → a ≡ b
same_is H261 H261 e = refl
same_is H261 H263 e = absurd (false≢true e)
same_is H263 H261 e = absurd (false≢true e)
same_is H263 H263 e = refl

pub same_so : (a b : Standard) → a ≡ b → same_standard a b ≡ true
same_so a b e = ap (λ (s : Standard). same_standard s b) e ∙ self b
  where
    self : (s : Standard) → same_standard s s ≡ true
    self H261 = refl
    self H263 = refl

pub own_standard : (standard : Standard) (found : Told Header) (header : Header) → of_standard standard found ≡ accepted header → (found ≡ accepted header) × (header.standard ≡ standard)
own_standard standard (accepted found) header e =
    let same = good_of (same_standard found.standard standard) (accepted found) _ header e in
    (same.1, sym (ap (λ (h : Header). h.standard) (accepted_once same.1)) ∙ same_is found.standard standard same.0)
own_standard standard (refused_by numbers) header e = absurd (told_apart (sym e))

pub judged_good : (size : Size) (standard : Standard) (clip : ℕ) (block : List ℕ) (header : Header) → judge_of size standard clip block ≡ accepted header
    → (check_of size block ≡ accepted header) × (header.clip ≡ clip)
unfolding judge_of
judged_good size standard clip block header e = own_clip clip (check_of size block) header (own_standard standard (of_clip clip (check_of size block)) header e).0

pub good_of_clip : (size : Size) (block : List ℕ) (header : Header) → check_of size block ≡ accepted header → of_clip header.clip (check_of size block) ≡ accepted header
good_of_clip size block header e = ap (of_clip header.clip) e ∙ rw (eq-eqb header.clip header.clip refl)

pub good_judged : (size : Size) (block : List ℕ) (header : Header) → check_of size block ≡ accepted header
    → judge_of size header.standard header.clip block ≡ accepted header
unfolding judge_of
good_judged size block header e =
    ap (of_standard header.standard) (good_of_clip size block header e) ∙ rw (same_so header.standard header.standard refl)

-- ---- an answer is one that is told as it is
pub checked_told_once : CheckedToldOnce
checked_told_once (Ok g) (Ok h) e = ap Ok (accepted_once e)
checked_told_once (Err a) (Err b) e = ap Err (refused_once a b e)
checked_told_once (Ok g) (Err b) e = absurd (told_apart e)
checked_told_once (Err a) (Ok h) e = absurd (told_apart (sym e))
