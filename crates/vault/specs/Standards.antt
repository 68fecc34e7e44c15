-- Document 02, T-04: a clip's standard in its blocks. "Blocks and clips of H.261 keep their bytes and their answers but for marks bit 2, which was 22." The rules from before it,
-- beside those of Block, and what is claimed of both. Assumes nothing.
use Rattle.std.specs.Prelude.{◌≡◌, Bool, true, false, List, ℕ, eqb, leb, length}
use Rattle.laws.specs.Choice.{pick, both}
use Rattle.size.specs.declared.Size.{Size}
use Rattle.refusals.specs.Told.{Told, accepted, refused}
use Rattle.vault.specs.declared.Standard.{Standard}
use Rattle.vault.specs.declared.Standard.TheVariants.{H261}
use Rattle.vault.specs.declared.Header.{Header}
use Rattle.vault.specs.Block.{marks_of, standard_bit, used_of, payload_of, zero_of, check_sum_of, header_of, header_ruled, unused_clear, sum_of, check_of, of_clip, judge_of, low_marks, marks_for}

-- ---- judging a block before: "5 marks, bit 0 (the lowest) last part, bit 1 refresh, part 0 only, the rest zero"
unfoldable pub follow_unmarked : Size → List ℕ → Bool
follow_unmarked size block =
    both (header_ruled size (header_of block))
    (both (leb (marks_of block) 3) (both (unused_clear (used_of block) (payload_of block) 500) (eqb (zero_of block) 0)))

unfoldable pub check_unmarked : Size → List ℕ → Told Header
check_unmarked size block =
    pick (eqb (length block) 512)
    (pick (eqb (sum_of block) (check_sum_of block))
    (pick (follow_unmarked size block) (accepted (header_of block)) (refused 22 0)) (refused 21 0)) (refused 1 0)

unfoldable pub judge_unmarked : Size → ℕ → List ℕ → Told Header
judge_unmarked size clip block = of_clip clip (check_unmarked size block)

-- ---- blocks, whatever bytes they hold
-- one with bit 2 unset is judged as before, by an H.261 clip and by none
abbrev pub UnmarkedJudgedAlike : Type 0
UnmarkedJudgedAlike = (size : Size) (block : List ℕ) → standard_bit (marks_of block) ≡ false
    → (check_of size block ≡ check_unmarked size block) × ((clip : ℕ) → judge_of size H261 clip block ≡ judge_unmarked size clip block)

-- "but for marks bit 2, which was 22": to the H.261 clip of its number one that is good with it is 5
abbrev pub MarkedOtherwise : Type 0
MarkedOtherwise = (size : Size) (block : List ℕ) (header : Header) → check_of size block ≡ accepted header → standard_bit (marks_of block) ≡ true
    → (judge_unmarked size header.clip block ≡ refused 22 0) × (judge_of size H261 header.clip block ≡ refused 5 0)

-- what a clip finds good has its standard
abbrev pub StandardBelieved : Type 0
StandardBelieved = (size : Size) (standard : Standard) (clip : ℕ) (block : List ℕ) (header : Header) → judge_of size standard clip block ≡ accepted header → header.standard ≡ standard

-- ---- a sender's blocks: of the bytes before its payload only the marks name the standard, and H.261's are as before
abbrev pub MarksKept : Type 0
MarksKept = (header : Header) → header.standard ≡ H261 → marks_for header ≡ low_marks header
