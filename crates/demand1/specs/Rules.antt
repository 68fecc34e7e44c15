-- Document 01, "Refusal numbers": what each entry point is refused by, in the paper's order; document 02, T-04, for a clip of H.263. Assumes nothing.
use Rattle.std.specs.Prelude.{ℕ, ◌*◌, ◌≤◌, ◌≡◌, Bool, true, false, List, [], ◌∷◌, ◌++◌, eqb, ltb, leb, length}
use Rattle.laws.specs.Choice.{pick, both, either, opposite, alike}
use Rattle.refusals.specs.Told.{Numbers, Told, accepted, refused_by, verdict_on}
use Rattle.refusals.specs.Tables.{Tabled}
use Rattle.bits.specs.Bits.{Bit, source}
use Rattle.fields.specs.Answer.{found}
use Rattle.size.specs.declared.Size.{Size}
use Rattle.size.specs.Size.{limit, store_length}
use Rattle.layout.specs.Flat.{Flat}
use Rattle.layout.specs.Numbers.{within}
use Rattle.layout.specs.Valid.{has_lengths}
use Rattle.coding.specs.declared.Kind.{Kind}
use Rattle.coding.specs.declared.Kind.TheVariants.{H261, H263}
use Rattle.coding.specs.Kind.{kind_size, kind_standard, shape_of, coding_of}
use Rattle.coding.specs.Described.{write_lengths}
use Rattle.vault.specs.declared.Standard.{Standard}
use Rattle.vault.specs.declared.Header.{Header}
use Rattle.vault.specs.Block.{clip_of, part_of, last_of, standard_of, check_sum_of, header_of, fields_follow, sum_of, pictures, same_standard}
use Rattle.vault.specs.Parts.{placed_payload}
use Rattle.standing.specs.declared.Line.{Line}
use Rattle.standing.specs.declared.Line.TheVariants.{Earlier, Next, Anew, Otherwise}
use Rattle.standing.specs.declared.Receiver.{Receiver}
use Rattle.standing.specs.Receive.{Buffers, count_of, mark_of, line_of}
use Rattle.sender.specs.declared.Sender.{Sender}
use Rattle.standing.specs.Receive as R
use Rattle.sender.specs.Send as S
use Rattle.h261_layers.specs.Grammar as G261
use Rattle.h263_layers.specs.Grammar as G263
use Rattle.demand1.specs.Order.{Verdict, when, first_verdict}

-- ---- a picture's N bits: "1, 2, then the earliest place, then the smaller number". The standard's grammar reads on from place to place and stops at the first refusal
abbrev pub grammar_verdict : Kind → List Bit → Verdict
grammar_verdict (H261 f) bits = verdict_on (found (G261.picture f bits 0))
grammar_verdict (H263 size) bits = verdict_on (found (G263.picture size bits 0))

abbrev pub picture_rules : Kind → List ℕ → ℕ → List Verdict
picture_rules k bytes n =
    -- 2: "N above 8 times the slice, or above the format's limit"
    when 2 (either (ltb (8 * length bytes) n) (ltb (limit (kind_size k)) n)) ∷
    -- 3 to 13, and in H.263 14
    grammar_verdict k (source bytes n) ∷ []

-- 1: "a lent buffer hasn't its named length"
abbrev pub read_rules : Kind → List ℕ → ℕ → Flat → List Verdict
read_rules k bytes n before = when 1 (opposite (has_lengths (shape_of k) before)) ∷ picture_rules k bytes n

abbrev pub decode_rules : Kind → List ℕ → ℕ → List ℕ → List ℕ → List Verdict
decode_rules k bytes n reference store =
    when 1 (opposite (both (eqb (length reference) (store_length (kind_size k))) (eqb (length store) (store_length (kind_size k))))) ∷ picture_rules k bytes n

-- ---- a description: 31, "invalid description, or one of another format than opened"; 32, "written picture above the limit"
abbrev pub write_rules : Kind → Flat → ℕ → List Verdict
write_rules k d room = when 1 (opposite (write_lengths k d room)) ∷ when 31 (opposite ((coding_of k).valid d)) ∷ when 32 (ltb (limit (kind_size k)) (length ((coding_of k).written d))) ∷ []

-- "Sender: 1, 34, 31, 33, 32." Document 02, T-08: "34 at the new limit"; 33: "picture 0 not a refresh"
abbrev pub send_rules : Sender → Flat → S.Buffers → List Verdict
send_rules s d b =
    when 1 (opposite (both ((coding_of s.kind).named d) (S.lent_lengths (kind_size s.kind) b))) ∷
    when 34 (opposite (ltb s.picture pictures)) ∷
    when 31 (opposite ((coding_of s.kind).valid d)) ∷
    when 33 (both (eqb s.picture 0) (opposite ((coding_of s.kind).refresh d))) ∷
    when 32 (opposite (leb (length ((coding_of s.kind).written d)) (limit (kind_size s.kind)))) ∷ []

-- ---- 22: "opening with clip 0"
abbrev pub open_rules : ℕ → List Verdict
open_rules clip = when 22 (eqb clip 0) ∷ []

-- ---- "Blocks: 1, 21, 22, 23." 21: "block check wrong"; 22: "block field against its rule"; 23: "another clip's block". Document 02, T-04: "a block of the other standard is 5 (place 0, after 23)"
abbrev pub check_rules : Size → List ℕ → List Verdict
check_rules size block = when 1 (opposite (eqb (length block) 512)) ∷ when 21 (opposite (eqb (sum_of block) (check_sum_of block))) ∷ when 22 (opposite (fields_follow size block)) ∷ []

abbrev pub judge_rules : Size → Standard → ℕ → List ℕ → List Verdict
judge_rules size standard clip block =
    check_rules size block ++ (when 23 (opposite (eqb (clip_of block) clip)) ∷ when 5 (opposite (same_standard (standard_of block) standard)) ∷ [])

abbrev pub block_rules : Receiver → List ℕ → Buffers → List Verdict
block_rules r block b = when 1 (opposite (R.lent_lengths (kind_size r.kind) b)) ∷ judge_rules (kind_size r.kind) (kind_standard r.kind) r.clip block

-- ---- "A last part is read at once": the lines by which a block is taken
abbrev pub takes : Line → Bool
takes Earlier = false
takes Next = true
takes Anew = true
takes Otherwise = false

-- 24: "accepted picture, untrue refresh mark"
abbrev pub mark_rule : Receiver → Header → Told Flat → Verdict
mark_rule r header (accepted d) = when 24 (opposite (alike ((coding_of r.kind).refresh d) (mark_of r.progress header)))
mark_rule r header (refused_by numbers) = accepted tt

-- a taken part that is the last: the picture's own refusals, and then 24
abbrev pub last_rules : Receiver → List ℕ → Buffers → List Verdict
last_rules r block b =
    let collection : List ℕ = placed_payload block (part_of block) b.collection in
    let n : ℕ = count_of (header_of block) in
    pick (both (takes (line_of r.progress (header_of block))) (last_of block))
    (picture_rules r.kind collection n ++ (mark_rule r (header_of block) ((coding_of r.kind).read collection n) ∷ []))
    []

-- ---- the table: what a picture's bits are refused by has a number of its standard, a place up to N, which is 0 for 2, and a table of codewords exactly with 8
-- 2 to 13; in H.263, which sends every macroblock and so never gives 9, also "14, one of the four optional modes"
abbrev pub reading_number : Kind → ℕ → Bool
reading_number (H261 f) number = within 2 13 number
reading_number (H263 size) number = both (within 2 14 number) (opposite (eqb number 9))

pub record InTable (k : Kind) (n : ℕ) (numbers : Numbers) : Type 0 where
  pub listed : reading_number k numbers.number ≡ true
  pub within : numbers.place ≤ n
  pub counted : numbers.number ≡ 2 → numbers.place ≡ 0
  pub tabled : Tabled numbers

abbrev pub PictureInTable : Type 0
PictureInTable = (k : Kind) (bytes : List ℕ) (n : ℕ) (numbers : Numbers) → first_verdict (picture_rules k bytes n) ≡ refused_by numbers → InTable k n numbers
