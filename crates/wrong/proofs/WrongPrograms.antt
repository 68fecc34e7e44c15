-- The wrong readers and writers that document 01 names don't meet demand 2. Assumes nothing.
use Prim.Native.Nat.{ℕ, ◌≤◌}
use mathlib.Core.Path.{◌≡◌, refl, sym, ap, ◌∙◌}
use mathlib.Core.Bool.{true}
use mathlib.Core.List.{List, []}
use native.Mathlib.Omega.{arith}
use lib.Dec.{lit<}
use lib.ListN.{length, replicate, get_or, length-replicate, get_or-replicate}
use Rattle.laws.proofs.Choice.{T_true}
use Rattle.refusals.specs.declared.Reason.TheVariants.{BitsEnd}
use Rattle.refusals.specs.Told.{accepted}
use Rattle.refusals.proofs.Told.{told_apart}
use Rattle.bits.specs.Bits.{Bit, bits_in}
use Rattle.bits.specs.Code.{longer, lookup, word}
use Rattle.bits.specs.Write.{bytes_of, byte_from}
use Rattle.h261_words.specs.Tables.{table1}
use Rattle.bits.specs.Read.{Read, got, bad, field_from}
use Rattle.h261_groups.specs.declared.Format.TheVariants.{Qcif}
use Rattle.size.specs.Size.{limit, store_length, output_length}
use Rattle.coding.specs.declared.Kind.{Kind}
use Rattle.coding.specs.declared.Kind.TheVariants.{H261}
use Rattle.coding.specs.Kind.{kind_size, coding_of}
use Rattle.coding.specs.Described.{write_of}
use Rattle.h261_description.specs.Value.{Picture, laid_picture}
use Rattle.layout.specs.Flat.{Flat, put_groups, put_macroblocks}
use Rattle.h261_description.specs.Valid.{valid}
use Rattle.fields.specs.Rules.{spares_from, spares}
use Rattle.fields.specs.Answer.{map_read}
use Rattle.h261_layers.specs.Grammar.{mba, macroblocks_from, group_head, group, groups_read, header, picture, reading}
use Rattle.h261_reader.specs.Described.{described}
use Rattle.h261_reader.proofs.Verdicts.{accepted_valid, accepted_described}
use Rattle.h261_writer.specs.Write.{macroblocks_of, group_of, groups_of, picture_of, picture_bits}
use Rattle.demand2.proofs.WrittenBack.{writes, written_back}
use Rattle.sheet.specs.Sheet.{picture1, bytes1, p1}
use Rattle.sheet.proofs.Sheet.{shown}
use Rattle.instances.proofs.Sending.{blank_long}
use Rattle.wrong.specs.WrongPrograms.{first, blank_output, RefusingWrong, FixedWrong, FixedSamplesWrong, FirstForAllWrong, RefusingAllWrong}
use Rattle.demand2.specs.Demand2.{Follows}

-- H.261 in QCIF
abbrev pub qcif : Kind
qcif = H261 Qcif

-- the P1 picture follows the rules
pub first_follows : Follows qcif bytes1 110
unfolding described
first_follows = record { description = first; left = []; at = 110; reads = ap (map_read (laid_picture Qcif)) (shown p1).2 }

-- a store whose samples are all k
unfoldable grey : ℕ → List ℕ
grey k = replicate (store_length (kind_size qcif)) k

grey_long : (k : ℕ) → length (grey k) ≡ store_length (kind_size qcif)
unfolding grey
grey_long k = length-replicate (store_length (kind_size qcif)) k

grey-first : (k : ℕ) → get_or (grey k) 0 0 ≡ k
unfolding grey
grey-first k = get_or-replicate (store_length (kind_size qcif)) 0 k 0 (lit< tt)

pub refusing_wrong : RefusingWrong
refusing_wrong numbers h =
    let a = h.then qcif bytes1 110 (grey 0) (grey_long 0) first_follows in
    told_apart (sym a.is)

nothing_refused : described Qcif [] 0 ≡ bad BitsEnd 0
unfolding described reading picture header field_from bits_in
nothing_refused = refl

pub fixed_wrong : FixedWrong
fixed_wrong store h =
    let w = h.only qcif [] 0 (grey 0) (grey_long 0) (record { store = store; is = refl }) in
    unread_got w.description w.left w.at (sym nothing_refused ∙ w.reads)
  where
    unread_got : (d : Flat) (left : List Bit) (at : ℕ) → bad BitsEnd 0 ≡ got d left at → ⊥
    unread_got d left at e = let z : ◌≡◌ {A = ℕ} 0 1 = cc in omega arith

pub fixed_samples_wrong : FixedSamplesWrong
unfolding first_follows coding_of
fixed_samples_wrong d store same h =
    let over : (k : ℕ) → store ≡ grey k =
    λ k. h.samples qcif bytes1 110 (grey k) store first_follows (grey_long k) (same qcif bytes1 110 (grey k) first_follows) ∙ (shown p1).3 (grey k) (grey_long k) in
    let z : ◌≡◌ {A = ℕ} 0 1 = sym (grey-first 0) ∙ ap (λ (s : List ℕ). get_or s 0 0) (sym (over 0) ∙ over 1) ∙ grey-first 1 in
    omega arith

abbrev picture2 : Picture
picture2 = record { tr = 2; ptype = 0; groups = picture1.groups }

abbrev bytes2 : List ℕ
bytes2 = bytes_of 14 (picture_of Qcif picture2)

second_read : reading Qcif bytes2 110 ≡ got picture2 [] 110
unfolding picture_of groups_of group_of macroblocks_of bytes_of byte_from bits_in field_from longer lookup word table1 spares_from spares mba macroblocks_from group_head group groups_read header picture reading
second_read = refl

pub first-valid : (coding_of qcif).valid first ≡ true
unfolding coding_of
first-valid = T_true (valid Qcif first) (accepted_valid Qcif bytes1 110 picture1 [] 110 (shown p1).2)

second_valid : (coding_of qcif).valid (laid_picture Qcif picture2) ≡ true
unfolding coding_of
second_valid = T_true (valid Qcif (laid_picture Qcif picture2)) (accepted_valid Qcif bytes2 110 picture2 [] 110 second_read)

-- P1's bits
first_bits : picture_bits Qcif first ≡ picture_of Qcif picture1
unfolding picture_bits
first_bits = ap (picture_of Qcif) (accepted_described Qcif bytes1 110 picture1 [] 110 (shown p1).2)

pub first_long : length ((coding_of qcif).written first) ≡ 110
unfolding coding_of
first_long = ap length first_bits ∙ (shown p1).0

pub first_below : length ((coding_of qcif).written first) ≤ limit (kind_size qcif)
first_below = let e : length ((coding_of qcif).written first) ≡ 110 = first_long in omega arith

first_written : (out : List ℕ) → length out ≡ output_length (kind_size qcif) → write_of qcif first (length out) ≡ accepted 110
first_written out e = writes qcif first out first-valid first_below e ∙ ap accepted first_long

-- an output of its length
output_long : length (blank_output qcif) ≡ output_length (kind_size qcif)
output_long = blank_long (output_length (kind_size qcif))

pub first_for_all_wrong : FirstForAllWrong
unfolding laid_picture put_groups put_macroblocks
first_for_all_wrong h =
    let as_second = h.back qcif (laid_picture Qcif picture2) (blank_output qcif) 110 second_valid output_long (first_written (blank_output qcif) output_long) in
    let as_first = (written_back qcif first (blank_output qcif) 110 (first_written (blank_output qcif) output_long)).read in
    let same : laid_picture Qcif picture1 ≡ laid_picture Qcif picture2 = got_same (laid_picture Qcif picture1) (laid_picture Qcif picture2) (sym as_first ∙ as_second) in
    let z : ◌≡◌ {A = ℕ} 1 2 = ap (λ (x : Flat). get_or x.head 0 0) same in
    omega arith
  where
    got_same : (a b : Flat) → ◌≡◌ {A = Read Flat} (got a [] 110) (got b [] 110) → a ≡ b
    got_same a b e = cc

pub refusing_all_wrong : RefusingAllWrong
refusing_all_wrong numbers h = h.else qcif first (blank_output qcif) (numbers qcif first) first-valid first_below output_long refl
