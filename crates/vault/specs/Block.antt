-- Document 01, "A block of 512 bytes", with the picture numbers of document 02, T-08, and the standard's mark of T-04: its fields and their rules, the check sum, judging a
-- block and making one. A block is its list of bytes.
-- Assumes nothing.
use Rattle.std.specs.Prelude.{ℕ, zero, suc, ◌+◌, ◌-◌, ◌*◌, ◌/◌, ◌%◌, ◌^◌, min, ◌≡◌, Bool, true, false, List, [], ◌∷◌, ◌++◌, length, get_or, take, drop, eqb, leb, ltb, Result, Ok, Err}
use Rattle.laws.specs.Choice.{pick, both, either, opposite}
use Rattle.size.specs.declared.Size.{Size}
use Rattle.size.specs.declared.Size.TheVariants.{SubQcif, Qcif, Cif}
use Rattle.refusals.specs.declared.Refusal.{Refusal}
use Rattle.refusals.specs.Told.{numbers_of, Told, accepted, refused_by, refused}
use Rattle.vault.specs.declared.Standard.{Standard}
use Rattle.vault.specs.declared.Standard.TheVariants.{H261, H263}
use Rattle.vault.specs.declared.Header.{Header}

-- ---- the fields
-- "High byte first": the number of two bytes, and the two bytes of a number
abbrev pub pair_at : List ℕ → ℕ → ℕ
pair_at block at = 256 * get_or block at 0 + get_or block (at + 1) 0

abbrev pub two_bytes : ℕ → List ℕ
two_bytes n = n / 256 ∷ n % 256 ∷ []

-- "0-1 clip"
abbrev pub clip_of : List ℕ → ℕ
clip_of block = pair_at block 0

-- document 02, T-08: "Byte 508 becomes the high byte of the picture number, 0..15; bytes 2-3 hold the rest."
abbrev pub picture_of : List ℕ → ℕ
picture_of block = 65536 * get_or block 508 0 + pair_at block 2

-- "4 part"
abbrev pub part_of : List ℕ → ℕ
part_of block = get_or block 4 0

-- "5 marks, bit 0 (the lowest) last part, bit 1 refresh"
abbrev pub marks_of : List ℕ → ℕ
marks_of block = get_or block 5 0

abbrev pub last_of : List ℕ → Bool
last_of block = eqb (marks_of block % 2) 1

abbrev pub refresh_of : List ℕ → Bool
refresh_of block = eqb (marks_of block / 2 % 2) 1

-- document 02, T-04: "Marks bit 2 says H.263"
abbrev pub standard_bit : ℕ → Bool
standard_bit marks = eqb (marks / 4 % 2) 1

abbrev pub standard_in : Bool → Standard
standard_in true = H263
standard_in false = H261

abbrev pub standard_of : List ℕ → Standard
standard_of block = standard_in (standard_bit (marks_of block))

-- "6-7 bits used"
abbrev pub used_of : List ℕ → ℕ
used_of block = pair_at block 6

-- "8-507 payload"
abbrev pub payload_of : List ℕ → List ℕ
payload_of block = take 500 (drop 8 block)

-- "508-509 zero", of which 508 is the picture's now
abbrev pub zero_of : List ℕ → ℕ
zero_of block = get_or block 509 0

-- "510-511 the sum"
abbrev pub check_sum_of : List ℕ → ℕ
check_sum_of block = pair_at block 510

abbrev pub header_of : List ℕ → Header
header_of block = record {
  standard = standard_of block;
  clip = clip_of block;
  picture = picture_of block;
  part = part_of block;
  last = last_of block;
  refresh = refresh_of block;
  used = used_of block;
}

-- ---- their rules
-- "clip, 1..65535"
abbrev pub clip_rule : Header → Bool
clip_rule header = leb 1 header.clip

-- document 02, T-08: "Raise the limit to 1,048,576 per clip." That is 16 times 65,536: a high byte above 15 makes a number that isn't below it
abbrev pub pictures : ℕ
pictures = 1048576

abbrev pub picture_rule : Header → Bool
picture_rule header = ltb header.picture pictures

-- "part (at most 16 QCIF, 65 CIF)"; sub-QCIF as QCIF
abbrev pub greatest_part : Size → ℕ
greatest_part SubQcif = 16
greatest_part Qcif = 16
greatest_part Cif = 65

abbrev pub part_rule : Size → Header → Bool
part_rule size header = leb header.part (greatest_part size)

-- "refresh, part 0 only"
abbrev pub refresh_rule : Header → Bool
refresh_rule header = either (opposite header.refresh) (eqb header.part 0)

-- "bits used, 1..4000, exactly 4000 unless last"
abbrev pub used_rule : Header → Bool
used_rule header = both (leb 1 header.used) (both (leb header.used 4000) (either header.last (eqb header.used 4000)))

unfoldable pub header_ruled : Size → Header → Bool
header_ruled size header =
    both (clip_rule header) (both (picture_rule header) (both (part_rule size header) (both (refresh_rule header) (used_rule header))))

-- how many of the eight bits of byte i stand after the first `used` bits
abbrev pub unused : ℕ → ℕ → ℕ
unused used i = min 8 (8 * (i + 1) - used)

-- "unused bits zero", in the first n bytes of a payload
unfoldable pub unused_clear : ℕ → List ℕ → ℕ → Bool
unused_clear used payload zero = true
unused_clear used payload (suc n) = both (unused_clear used payload n) (eqb (get_or payload n 0 % 2 ^ unused used n) 0)

-- every field follows its rule; of the marks, with bit 2, "the rest zero"
unfoldable pub fields_follow : Size → List ℕ → Bool
fields_follow size block =
    both (header_ruled size (header_of block))
    (both (leb (marks_of block) 7) (both (unused_clear (used_of block) (payload_of block) 500) (eqb (zero_of block) 0)))

-- ---- the check sum
-- the sum of (i+1) times byte i over the first n bytes
unfoldable pub weighted : List ℕ → ℕ → ℕ
weighted block zero = 0
weighted block (suc n) = weighted block n + suc n * get_or block n 0

-- "the sum of (i+1) times byte i over bytes 0..509, modulo 65,521"
abbrev pub sum_of : List ℕ → ℕ
sum_of block = weighted block 510 % 65521

-- ---- judging: "Blocks: 1, 21, 22, 23.", and then 5
-- what is answered: the header, or the refusal's number and place
abbrev pub told_checked : Result Header Refusal → Told Header
told_checked (Ok header) = accepted header
told_checked (Err why) = refused_by (numbers_of why)

-- nothing of the answer is lost by that
abbrev pub CheckedToldOnce : Type 0
CheckedToldOnce = (a b : Result Header Refusal) → told_checked a ≡ told_checked b → a ≡ b

-- 1: "a lent buffer hasn't its named length"; 21: "block check wrong"; 22: "block field against its rule"
unfoldable pub check_of : Size → List ℕ → Told Header
check_of size block =
    pick (eqb (length block) 512)
    (pick (eqb (sum_of block) (check_sum_of block))
    (pick (fields_follow size block) (accepted (header_of block)) (refused 22 0)) (refused 21 0)) (refused 1 0)

-- 23: "another clip's block"
abbrev pub of_clip : ℕ → Told Header → Told Header
of_clip clip (accepted header) = pick (eqb header.clip clip) (accepted header) (refused 23 0)
of_clip clip (refused_by numbers) = refused_by numbers

-- document 02, T-04: "a block of the other standard is 5 (place 0, after 23)"
abbrev pub same_standard : Standard → Standard → Bool
same_standard H261 H261 = true
same_standard H261 H263 = false
same_standard H263 H261 = false
same_standard H263 H263 = true

abbrev pub of_standard : Standard → Told Header → Told Header
of_standard standard (accepted header) = pick (same_standard header.standard standard) (accepted header) (refused 5 0)
of_standard standard (refused_by numbers) = refused_by numbers

-- the same for a receiver of one clip, which has a standard
unfoldable pub judge_of : Size → Standard → ℕ → List ℕ → Told Header
judge_of size standard clip block = of_standard standard (of_clip clip (check_of size block))

-- ---- making a block of a header and a payload
abbrev pub bit : Bool → ℕ
bit true = 1
bit false = 0

-- bits 0 and 1
abbrev pub low_marks : Header → ℕ
low_marks header = bit header.last + 2 * bit header.refresh

-- bit 2
abbrev pub standard_mark : Standard → ℕ
standard_mark H261 = 0
standard_mark H263 = 4

abbrev pub marks_for : Header → ℕ
marks_for header = standard_mark header.standard + low_marks header

-- bytes 0 to 7
abbrev pub head_bytes : Header → List ℕ
head_bytes header =
    two_bytes header.clip ++ two_bytes (header.picture % 65536) ++ (header.part ∷ marks_for header ∷ []) ++ two_bytes header.used

-- bytes 508 and 509
abbrev pub end_bytes : Header → List ℕ
end_bytes header = header.picture / 65536 ∷ 0 ∷ []

-- bytes 0 to 509
unfoldable pub body_for : Header → List ℕ → List ℕ
body_for header payload = head_bytes header ++ payload ++ end_bytes header

unfoldable pub block_for : Header → List ℕ → List ℕ
block_for header payload = body_for header payload ++ two_bytes (sum_of (body_for header payload))
