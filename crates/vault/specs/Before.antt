-- Document 02, T-08: "Stored clips keep their meaning, and a sender below 4,096 pictures writes the same bytes as before. A reader from before this request refuses any later
-- block by 22 and never shows it under a shortened number." The rules from before it, which had no mark of a standard (T-04), beside those of Block and Parts, and what is
-- claimed of both. Assumes nothing.
use Rattle.std.specs.Prelude.{ℕ, zero, suc, ◌≤◌, ◌<◌, ◌≡◌, Bool, false, List, [], ◌∷◌, ◌++◌, eqb, leb, ltb, length}
use Rattle.laws.specs.Choice.{pick, both}
use Rattle.size.specs.declared.Size.{Size}
use Rattle.refusals.specs.Told.{Told, accepted, refused}
use Rattle.vault.specs.declared.Standard.{Standard}
use Rattle.vault.specs.declared.Standard.TheVariants.{H261}
use Rattle.vault.specs.declared.Header.{Header}
use Rattle.vault.specs.Block.{pair_at, two_bytes, clip_of, picture_of, part_of, marks_of, last_of, refresh_of, standard_bit, used_of, payload_of, check_sum_of, clip_rule, part_rule, refresh_rule, used_rule, unused_clear, sum_of, check_of, of_clip, judge_of, low_marks}
use Rattle.vault.specs.Parts.{part_count, payload_at, header_at, block_at, blocks_of}
use Rattle.vault.specs.Collected.{Part}

-- ---- judging a block before: "2-3 picture, 0..4095", "508-509 zero"
abbrev pub pictures_before : ℕ
pictures_before = 4096

abbrev pub header_before : List ℕ → Header
header_before block = record {
  standard = H261;
  clip = clip_of block;
  picture = pair_at block 2;
  part = part_of block;
  last = last_of block;
  refresh = refresh_of block;
  used = used_of block;
}

unfoldable pub ruled_before : Size → Header → Bool
ruled_before size header =
    both (clip_rule header) (both (ltb header.picture pictures_before) (both (part_rule size header) (both (refresh_rule header) (used_rule header))))

unfoldable pub follow_before : Size → List ℕ → Bool
follow_before size block =
    both (ruled_before size (header_before block))
    (both (leb (marks_of block) 3) (both (unused_clear (used_of block) (payload_of block) 500) (eqb (pair_at block 508) 0)))

unfoldable pub check_before : Size → List ℕ → Told Header
check_before size block =
    pick (eqb (length block) 512)
    (pick (eqb (sum_of block) (check_sum_of block))
    (pick (follow_before size block) (accepted (header_before block)) (refused 22 0)) (refused 21 0)) (refused 1 0)

unfoldable pub judge_before : Size → ℕ → List ℕ → Told Header
judge_before size clip block = of_clip clip (check_before size block)

-- ---- making a picture's blocks before
abbrev pub head_bytes_before : Header → List ℕ
head_bytes_before header =
    two_bytes header.clip ++ two_bytes header.picture ++ (header.part ∷ low_marks header ∷ []) ++ two_bytes header.used

abbrev pub body_before : Header → List ℕ → List ℕ
body_before header payload = head_bytes_before header ++ payload ++ (0 ∷ 0 ∷ [])

unfoldable pub block_before : Header → List ℕ → List ℕ
block_before header payload = body_before header payload ++ two_bytes (sum_of (body_before header payload))

unfoldable pub first_blocks_before : ℕ → ℕ → Bool → List ℕ → ℕ → ℕ → List ℕ
first_blocks_before clip picture refresh bytes count zero = []
first_blocks_before clip picture refresh bytes count (suc n) =
    first_blocks_before clip picture refresh bytes count n ++ block_before (header_at H261 clip picture refresh count n) (payload_at bytes count n)

abbrev pub blocks_before : ℕ → ℕ → Bool → List ℕ → ℕ → List ℕ
blocks_before clip picture refresh bytes count = first_blocks_before clip picture refresh bytes count (part_count count)

-- ---- blocks, whatever bytes they hold
-- below 4,096 each without H.263's mark is judged as before, for any clip and for none
abbrev pub EarlierJudgedAlike : Type 0
EarlierJudgedAlike = (size : Size) (block : List ℕ) → picture_of block < pictures_before → standard_bit (marks_of block) ≡ false
    → (check_of size block ≡ check_before size block) × ((clip : ℕ) → judge_of size H261 clip block ≡ judge_before size clip block)

-- "Stored clips keep their meaning": what was good before is good, with the same header
abbrev pub StoredKept : Type 0
StoredKept = (size : Size) (block : List ℕ) (header : Header) → check_before size block ≡ accepted header
    → (check_of size block ≡ accepted header) × (header.picture < pictures_before)

-- "A reader from before this request refuses any later block by 22": a whole one with its right sum, whatever else stands in it
abbrev pub LaterRefusedBefore : Type 0
LaterRefusedBefore = (size : Size) (block : List ℕ) → pictures_before ≤ picture_of block
    → check_before size block ≡ pick (eqb (length block) 512) (pick (eqb (sum_of block) (check_sum_of block)) (refused 22 0) (refused 21 0)) (refused 1 0)

-- so one that is good now is refused by 22 and by no other number, whichever clip the reader was opened for
abbrev pub TakenRefusedBefore : Type 0
TakenRefusedBefore = (size : Size) (block : List ℕ) (header : Header) → check_of size block ≡ accepted header → pictures_before ≤ header.picture
    → (check_before size block ≡ refused 22 0) × ((clip : ℕ) → judge_before size clip block ≡ refused 22 0)

-- "and never shows it under a shortened number": it isn't good under any
abbrev pub LaterNeverGoodBefore : Type 0
LaterNeverGoodBefore = (size : Size) (block : List ℕ) (header : Header) → pictures_before ≤ picture_of block → check_before size block ≡ accepted header → ⊥

-- ---- a sender's blocks
-- "a sender below 4,096 pictures writes the same bytes as before"
abbrev pub EarlierMadeAlike : Type 0
EarlierMadeAlike = (clip picture : ℕ) (refresh : Bool) (bytes : List ℕ) (count : ℕ) → picture < pictures_before
    → blocks_of H261 clip picture refresh bytes count ≡ blocks_before clip picture refresh bytes count

-- a later picture's blocks are refused by 22, each of them
abbrev pub LaterPartsRefusedBefore : Type 0
LaterPartsRefusedBefore = (standard : Standard) (clip picture : ℕ) (refresh : Bool) (bytes : List ℕ) (count : ℕ) (size : Size) (part : ℕ) → Part size clip picture count part → pictures_before ≤ picture
    → (reader : ℕ) → judge_before size reader (block_at standard clip picture refresh bytes count part) ≡ refused 22 0
