-- The P1 picture in one block with a refresh mark is refused by 24; drawn all the same, it copies the second store into the first. Assumes nothing.
use Prim.Native.Nat.{ℕ, ◌<◌}
use mathlib.Core.Path.{◌≡◌, refl, sym, ap, subst, ◌∙◌}
use mathlib.Core.Bool.{Bool, true, false}
use mathlib.Core.List.{List, [], ◌∷◌, ◌++◌}
use native.Mathlib.Omega.{arith}
use borrow.Author.Tests.{eq-eqb}
use lib.Dec.{eqb, lit<, lit≤}
use lib.ListN.{length, replicate, get_or, length-replicate, get_or-replicate}
use Rattle.laws.specs.Choice.{pick, both, opposite, alike}
use Rattle.refusals.specs.Told.{untabled, Told, accepted, refused, verdict_on}
use Rattle.size.specs.Size.{store_length, collection_length}
use Rattle.bits.specs.Bits.{Bit}
use Rattle.bits.specs.Write.{Holds}
use Rattle.layout.specs.Flat.{Flat, put_groups, put_macroblocks}
use Rattle.h261_description.specs.Value.{laid_picture}
use Rattle.h261_description.specs.Fields.{refresh}
use Rattle.coding.specs.Kind.{kind_size, coding_of}
use Rattle.coding.specs.Described.{bytes_in}
use Rattle.coding.proofs.AllLawful.{coding_lawful}
use Rattle.vault.specs.declared.Standard.TheVariants.{H261}
use Rattle.vault.specs.declared.Header.{Header}
use Rattle.vault.specs.Block.{header_of}
use Rattle.vault.specs.Parts.{part_count, payload_at, header_at, block_at, placed_payload}
use Rattle.vault.specs.Collected.{Collected, Part}
use Rattle.vault.proofs.Judged.{made_header}
use Rattle.vault.proofs.KeptLaws.{payload_length}
use Rattle.vault.proofs.Cut.{at_length}
use Rattle.vault.proofs.Collected.{at_judged, at_payload, placed_length, collected_none, collected_more, count_back}
use Rattle.standing.specs.Stores.{Stores, stores}
use Rattle.standing.specs.declared.Receiver.{Receiver}
use Rattle.standing.specs.Receive.{Buffers, fresh_receiver, lent_lengths, line_of, count_of}
use Rattle.sheet.specs.Sheet.{p1}
use Rattle.sheet.proofs.Sheet.{shown}
use Rattle.demand1.specs.Order.{Verdict, when, first_verdict}
use Rattle.demand1.specs.Rules.{picture_rules, judge_rules, block_rules, takes, mark_rule, last_rules}
use Rattle.demand1.proofs.Order.{or_else, first_append}
use Rattle.demand1.proofs.Pictures.{kind_due}
use Rattle.demand1.proofs.Blocks.{value_verdict, judge_is}
use Rattle.demand3.proofs.Filled.{collected_holds}
use Rattle.wrong.specs.WrongPrograms.{first}
use Rattle.wrong.specs.DrawingFirst.{drawn_into, DrawingFirstWrong}
use Rattle.wrong.proofs.WrongPrograms.{qcif, first-valid, first_long, first_below}

-- ---- the block
abbrev bits : List Bit
bits = (coding_of qcif).written first

abbrev count : ℕ
count = length bits

abbrev block : List ℕ
block = block_at H261 1 0 true (bytes_in bits) count 0

abbrev head : Header
head = header_at H261 1 0 true count 0

one_part : part_count count ≡ 1
one_part = let l : count ≡ 110 = first_long in omega arith

part_0 : Part (kind_size qcif) 1 0 count 0
part_0 = record { clip_is = lit≤ tt; picture_is = lit< tt; count_is = first_below; part_is = omega (arith, one_part) }

head_is : header_of block ≡ head
unfolding block_at
head_is = made_header head (payload_at (bytes_in bits) count 0) (payload_length (bytes_in bits) count 0)

-- ---- the receiver, and what it is lent: two stores that differ
abbrev receiver : Receiver
receiver = fresh_receiver 1 qcif

unfoldable all : ℕ → ℕ → List ℕ
all n k = replicate n k

all_long : (n k : ℕ) → length (all n k) ≡ n
unfolding all
all_long n k = length-replicate n k

all_first : (n k : ℕ) → 0 < n → get_or (all n k) 0 0 ≡ k
unfolding all
all_first n k l = get_or-replicate n 0 k 0 l

abbrev size : ℕ
size = store_length (kind_size qcif)

abbrev lent : Buffers
lent = record { collection = all (collection_length (kind_size qcif)) 0; both = stores (all size 0) (all size 1) }

lent_named : lent_lengths (kind_size qcif) lent ≡ true
lent_named =
    rw (
      eq-eqb (length (all (collection_length (kind_size qcif)) 0)) (collection_length (kind_size qcif)) (all_long (collection_length (kind_size qcif)) 0),
      eq-eqb (length (all size 0)) size (all_long size 0),
      eq-eqb (length (all size 1)) size (all_long size 1),
    )
    refl

abbrev after : List ℕ
after = placed_payload block 0 lent.collection

-- ---- it is read
collected : Collected (bytes_in bits) count 1 after
collected =
    collected_more (bytes_in bits) count block 0 lent.collection (at_payload H261 1 0 true (bytes_in bits) count 0) (omega (arith, all_long (collection_length (kind_size qcif)) 0))
    (collected_none (bytes_in bits) count lent.collection)

holds : Holds after bits
holds =
    let long : length after ≡ collection_length (kind_size qcif) =
    placed_length block 0 lent.collection (at_length H261 1 0 true (bytes_in bits) count 0) (omega (arith, all_long (collection_length (kind_size qcif)) 0)) ∙ all_long (collection_length (kind_size qcif)) 0 in
    collected_holds bits after (omega (arith, long, one_part)) (subst (λ (n : ℕ). Collected (bytes_in bits) count n after) (sym one_part) collected)

read_first : (coding_of qcif).read after (count_of head) ≡ accepted first
unfolding coding_of
read_first =
    ap ((coding_of qcif).read after) (count_back H261 1 0 true (bytes_in bits) count 0 (omega (arith, first_long)) (sym one_part))
    ∙ (coding_lawful.each qcif).reads first after first-valid first_below holds

no_refresh : (coding_of qcif).refresh first ≡ false
unfolding coding_of refresh laid_picture put_groups put_macroblocks
no_refresh = refl

-- ---- 24 is due
good : first_verdict (block_rules receiver block lent) ≡ accepted tt
good =
    ap (λ (z : Bool). first_verdict (when 1 (opposite z) ∷ judge_rules (kind_size qcif) H261 1 block)) lent_named
    ∙ sym (value_verdict (header_of block) (first_verdict (judge_rules (kind_size qcif) H261 1 block)))
    ∙ ap verdict_on (sym (judge_is (kind_size qcif) H261 1 block) ∙ at_judged H261 1 0 true (bytes_in bits) count (kind_size qcif) 0 part_0)

-- by the header
abbrev taken : Header → Bool
taken h = both (takes (line_of receiver.progress h)) h.last

is_taken : taken head ≡ true
unfolding line_of
is_taken = ap (eqb 1) one_part

abbrev last_for : Header → List Verdict
last_for h =
    let now : List ℕ = placed_payload block h.part lent.collection in
    pick (taken h) (picture_rules qcif now (count_of h) ++ (mark_rule receiver h ((coding_of qcif).read now (count_of h)) ∷ [])) []

marked : mark_rule receiver head ((coding_of qcif).read after (count_of head)) ≡ refused 24 0
marked = ap (mark_rule receiver head) read_first ∙ ap (λ (z : Bool). when 24 (opposite (alike z true))) no_refresh

refused_24 : first_verdict (last_rules receiver block lent) ≡ refused 24 0
refused_24 =
    let x : Told Flat = (coding_of qcif).read after (count_of head) in
    ap (λ (h : Header). first_verdict (last_for h)) head_is
    ∙ ap (λ (z : Bool). first_verdict (pick z (picture_rules qcif after (count_of head) ++ (mark_rule receiver head x ∷ [])) [])) is_taken
    ∙ first_append (picture_rules qcif after (count_of head)) (mark_rule receiver head x ∷ [])
    ∙ ap (λ (v : Verdict). or_else v (first_verdict (mark_rule receiver head x ∷ []))) (sym (kind_due qcif after (count_of head)) ∙ ap verdict_on read_first)
    ∙ ap (λ (v : Verdict). first_verdict (v ∷ [])) marked

due_24 : first_verdict (block_rules receiver block lent ++ last_rules receiver block lent) ≡ refused 24 0
due_24 = first_append (block_rules receiver block lent) (last_rules receiver block lent) ∙ ap (λ (v : Verdict). or_else v (first_verdict (last_rules receiver block lent))) good ∙ refused_24

-- ---- what is drawn
abbrev drawn_for : Stores → Header → Stores
drawn_for else h = pick (taken h) (drawn_into receiver lent.both ((coding_of qcif).read (placed_payload block h.part lent.collection) (count_of h))) else

drawn_is : (else : Stores) → (drawn_for else (header_of block)).first ≡ all size 1
unfolding coding_of
drawn_is else =
    ap (λ (h : Header). (drawn_for else h).first) head_is
    ∙ ap (λ (z : Bool). (pick z (drawn_into receiver lent.both ((coding_of qcif).read after (count_of head))) else).first) is_taken
    ∙ ap (λ (x : Told Flat). (drawn_into receiver lent.both x).first) read_first
    ∙ (shown p1).3 (all size 1) (all_long size 1)

pub drawing_first_wrong : DrawingFirstWrong
drawing_first_wrong p d =
    let x = d.receives receiver block lent in
    let same : Stores = (p.receive receiver block lent).left.both in
    let kept : drawn_for same (header_of block) ≡ lent.both = x.stores (untabled 24 0) (x.due ∙ due_24) in
    let z : ◌≡◌ {A = ℕ} 1 0 = sym (all_first size 1 (lit< tt)) ∙ ap (λ (s : List ℕ). get_or s 0 0) (sym (drawn_is same) ∙ ap (λ (s : Stores). s.first) kept) ∙ all_first size 0 (lit< tt) in
    omega arith
