-- "A made-up N": an output that was all 0 holds zeros after what was written, so that no other number of its bits is read as the description. Assumes nothing.
use Prim.Native.Nat.{ℕ, zero, suc, ◌+◌, ◌-◌, ◌*◌, ◌≤◌, ◌<◌}
use mathlib.Core.Path.{◌≡◌, refl, sym, ap, subst, ◌∙◌}
use mathlib.Core.Bool.{Bool, true, false}
use mathlib.Core.Logic.{◌⊎◌, inl, inr}
use mathlib.Core.List.{List, [], ◌∷◌, ◌++◌, append_assoc}
use native.Mathlib.Nat.{zero-add, suc-add, add-zero, add_assoc, le_of_lt}
use native.Mathlib.Omega.{arith}
use borrow.Author.Tests.{ltb-false}
use lib.Dec.{T, ltb}
use lib.Seq.{take-take, drop_at, drop-nil}
use lib.ListN.{length, take, drop, replicate, length-append, length-drop, length-replicate}
use Rattle.laws.specs.Choice.{pick, both, either}
use Rattle.laws.proofs.Choice.{both_left, both_right, true-T}
use Rattle.laws.proofs.Rows.{lt-or-ge}
use Rattle.refusals.specs.declared.Refusal.{Refusal}
use Rattle.refusals.specs.declared.Reason.TheVariants.{Count}
use Rattle.refusals.specs.Told.{accepted}
use Rattle.bits.specs.Bits.{Bit, bit0, bit1, bits_in, source}
use Rattle.bits.specs.Code.{Entry, entry, starts, lookup, word}
use Rattle.bits.specs.Places.{plain}
use Rattle.bits.specs.Read.{Read, got, endless, refused, bad}
use Rattle.bits.specs.Write.{byte_from, bytes_of, started_bytes, Holds}
use Rattle.bits.proofs.Tree.{miss}
use Rattle.bits.proofs.Write.{length-bytes_of}
use Rattle.h261_words.specs.Tables.{table1}
use Rattle.h261_groups.specs.declared.Format.{Format}
use Rattle.h261_groups.specs.Format.{size_of}
use Rattle.size.specs.Size.{limit, output_length}
use Rattle.layout.specs.Flat.{Flat}
use Rattle.size.specs.declared.Size.{Size}
use Rattle.h261_description.specs.Value.{Picture, laid_picture, picture_in}
use Rattle.h261_description.specs.Valid.{valid}
use Rattle.h261_description.proofs.Pictured.{picture_proper}
use Rattle.fields.specs.Answer.{map_read}
use Rattle.h261_layers.specs.Grammar.{picture, reading}
use Rattle.h261_reader.specs.Described.{described}
use Rattle.h261_reader.proofs.Verdicts.{accepted_described}
use Rattle.bits.specs.Output.{filled_output, output_left}
use Rattle.h261_writer.specs.Write.{picture_bits}
use Rattle.h261_readback.proofs.Exactly.{Unread, fewer_bits, more_bits}
use Rattle.coding.specs.declared.Kind.{Kind}
use Rattle.coding.specs.declared.Kind.TheVariants.{H261, H263}
use Rattle.coding.specs.Kind.{kind_size, coding_of, described_by}
use Rattle.coding.specs.Described.{write_of, output_of}
use Rattle.demand2.proofs.WrittenBack.{held_back, writes, written_held, output_holds}
use Rattle.instances.specs.Uniform.{repeated}
use Rattle.instances.specs.Example.{blank}
use Rattle.instances.proofs.Repeated.{repeated-add}
use Rattle.instances.proofs.Sending.{blank_long}
use Rattle.wrong.specs.WrongPrograms.{blank_output, MadeUpWrong}
use Rattle.size.specs.declared.Size.TheVariants as S
use Rattle.h263_description.specs.Value as V263
use Rattle.h263_layers.specs.Grammar as G263
use Rattle.h263_reader.specs.Described as R263
use Rattle.h263_readback.proofs.Verdicts as P263

abbrev none : ℕ → List Bit
none k = replicate k bit0

-- ---- bits that are 0 are no codeword of Table 1
abbrev has_one : List Bit → Bool
has_one [] = false
has_one (bit0 ∷ w) = has_one w
has_one (bit1 ∷ w) = true

abbrev each_one : List Entry → Bool
each_one [] = true
each_one (entry w m ∷ tab) = both (has_one w) (each_one tab)

not_begun : (w : List Bit) (n : ℕ) → T (has_one w) → starts w (none n) ≡ false
not_begun [] n t = absurd t
not_begun (bit0 ∷ w) zero t = refl
not_begun (bit0 ∷ w) (suc n) t = not_begun w n t
not_begun (bit1 ∷ w) zero t = refl
not_begun (bit1 ∷ w) (suc n) t = refl

none_found : (tab : List Entry) (n at : ℕ) (r : Refusal) → T (each_one tab) → lookup {P = plain} tab (none n) at (refused r) ≡ refused r
unfolding lookup
none_found [] n at r t = refl
none_found (entry w m ∷ tab) n at r t = miss w m tab (none n) at (refused r) (not_begun w n (both_left (has_one w) (each_one tab) t)) ∙ none_found tab n at r (both_right (has_one w) (each_one tab) t)

never : {A : Type 0} {r : Refusal} {a : A} {left : List Bit} {p : ℕ} → ◌≡◌ {A = Read A} (refused r) (got a left p) → ⊥
never e = let z : ◌≡◌ {A = ℕ} 0 1 = cc in omega arith

none_unread : (k : ℕ) → Unread (none (suc k))
unfolding word table1
none_unread k = record {
  some = omega arith;
  none = λ at m left p e. never (sym (none_found table1.entries (suc k) at _ tt) ∙ e);
}

-- ---- zeros after the bits change no byte
byte_padded : (k v : ℕ) (bs : List Bit) (m : ℕ) → byte_from k v (bs ++ none m) ≡ byte_from k v bs
unfolding byte_from
byte_padded zero v bs m = refl
byte_padded (suc k) v [] zero = refl
byte_padded (suc k) v [] (suc m) = byte_padded k (v * 2 + 0) [] m ∙ ap (λ (x : ℕ). byte_from k x []) (add-zero (v * 2))
byte_padded (suc k) v (b ∷ bs) m = byte_padded k _ bs m

drop-padded : (j : ℕ) (bs : List Bit) (m : ℕ) → (n : ℕ) × (drop j (bs ++ none m) ≡ drop j bs ++ none n)
drop-padded zero bs m = (m, refl)
drop-padded (suc j) [] zero = (0, refl)
drop-padded (suc j) [] (suc m) = let h = drop-padded j [] m in (h.0, h.1 ∙ ap (λ (l : List Bit). l ++ none h.0) (drop-nil j))
drop-padded (suc j) (b ∷ bs) m = drop-padded j bs m

bytes_padded : (n : ℕ) (bs : List Bit) (m : ℕ) → bytes_of n (bs ++ none m) ≡ bytes_of n bs
unfolding bytes_of
bytes_padded zero bs m = refl
bytes_padded (suc n) bs m =
    let h = drop-padded 8 bs m in
    λ i. byte_padded 8 0 bs m i ∷ (ap (bytes_of n) h.1 ∙ bytes_padded n (drop 8 bs) h.0) i

bytes_none : (n : ℕ) → bytes_of n [] ≡ blank n
unfolding bytes_of byte_from repeated
bytes_none zero = refl
bytes_none (suc n) = ap (λ (l : List ℕ). 0 ∷ l) (bytes_none n)

bytes_past : (a b : ℕ) (bs : List Bit) → length bs ≤ 8 * a → bytes_of (a + b) bs ≡ bytes_of a bs ++ blank b
unfolding bytes_of
bytes_past zero b [] l = ap (λ (n : ℕ). bytes_of n []) (zero-add b) ∙ bytes_none b
bytes_past zero b (x ∷ bs) l = absurd (omega arith)
bytes_past (suc a) b bs l = ap (λ (n : ℕ). bytes_of n bs) (suc-add a b) ∙ ap (λ (r : List ℕ). byte_from 8 0 bs ∷ r) (bytes_past a b (drop 8 bs) (omega (arith, l, length-drop 8 bs)))

drop-blank : (a m : ℕ) → drop a (blank (a + m)) ≡ blank m
drop-blank a m = ap (drop a) (repeated-add a m (0 ∷ [])) ∙ drop_at (blank a) (blank m) a (blank_long a)

-- so the output holds them too
pad_sum : (n k : ℕ) → started_bytes (n + k) ≡ started_bytes n + (started_bytes (n + k) - started_bytes n)
pad_sum n k = omega arith

pad_room : (n k m : ℕ) → n + k ≤ 8 * m → m ≡ started_bytes n + (started_bytes (n + k) - started_bytes n + (m - started_bytes (n + k)))
pad_room n k m l = omega arith

padded-long : (bits : List Bit) (k : ℕ) → length (bits ++ none k) ≡ length bits + k
padded-long bits k = length-append bits (none k) ∙ ap (λ (n : ℕ). length bits + n) (length-replicate k bit0)

-- a bytes of bits, b that are 0, and c more
filled_by : (bits : List Bit) (k a b c : ℕ) → length bits ≤ 8 * a → bytes_of (a + b) (bits ++ none k) ++ drop (a + b) (blank (a + (b + c))) ≡ bytes_of a bits ++ drop a (blank (a + (b + c)))
filled_by bits k a b c l =
    ap (λ (n : ℕ). bytes_of (a + b) (bits ++ none k) ++ drop (a + b) (blank n)) (sym (add_assoc a b c))
    ∙ (λ i. (bytes_padded (a + b) bits k ∙ bytes_past a b bits l) i ++ drop-blank (a + b) c i)
    ∙ append_assoc (bytes_of a bits) (blank b) (blank c)
    ∙ ap (λ (r : List ℕ). bytes_of a bits ++ r) (sym (repeated-add b c (0 ∷ [])) ∙ sym (drop-blank a (b + c)))

filled_padded : (m : ℕ) (bits : List Bit) (k : ℕ) → length bits + k ≤ 8 * m → filled_output (blank m) (bits ++ none k) ≡ filled_output (blank m) bits
filled_padded m bits k l =
    let n : ℕ = length bits in
    let b : ℕ = started_bytes (n + k) - started_bytes n in
    let c : ℕ = m - started_bytes (n + k) in
    (λ i. bytes_of ((ap started_bytes (padded-long bits k) ∙ pad_sum n k) i) (bits ++ none k) ++ drop ((ap started_bytes (padded-long bits k) ∙ pad_sum n k) i) (blank (pad_room n k m l i)))
    ∙ filled_by bits k (started_bytes n) b c (enough n)
    ∙ ap (λ (x : ℕ). bytes_of (started_bytes n) bits ++ drop (started_bytes n) (blank x)) (sym (pad_room n k m l))
  where
    enough : (n : ℕ) → n ≤ 8 * started_bytes n
    enough n = omega arith

-- ---- bytes that hold a picture's bits first, and then zeros
record Padded (s : List ℕ) (bits : List Bit) : Type 0 where
  first_bits : (n : ℕ) → n ≤ length bits → source s n ≡ take n bits
  with_none : (k : ℕ) → length bits + k ≤ 8 * length s → source s (length bits + k) ≡ bits ++ none k

filled_long : (out : List ℕ) (bits : List Bit) → started_bytes (length bits) ≤ length out → length (filled_output out bits) ≡ length out
filled_long out bits l =
    omega (arith, l, length-append (bytes_of (started_bytes (length bits)) bits) (drop (started_bytes (length bits)) out), length-bytes_of (started_bytes (length bits)) bits, length-drop (started_bytes (length bits)) out)

started_fits : (size : Size) (n m : ℕ) → n ≤ limit size → m ≡ output_length size → started_bytes n ≤ m
started_fits S.SubQcif n m l e = omega arith
started_fits S.Qcif n m l e = omega arith
started_fits S.Cif n m l e = omega arith

module _ (k : Kind) (d : Flat) (v : (coding_of k).valid d ≡ true) (l : length ((coding_of k).written d) ≤ limit (kind_size k)) where
  abbrev bits : List Bit
  bits = (coding_of k).written d

  abbrev left_there : List ℕ
  left_there = output_of k d (blank_output k)

  long : length (blank_output k) ≡ output_length (kind_size k)
  long = blank_long (output_length (kind_size k))

  answers : write_of k d (length (blank_output k)) ≡ accepted (length bits)
  answers = writes k d (blank_output k) v l long

  held : Holds left_there bits
  held = written_held k d (blank_output k) (length bits) answers

  left_is : left_there ≡ filled_output (blank_output k) bits
  unfolding output_left
  left_is = ap (output_left (blank_output k) bits) answers

  room : length left_there ≡ output_length (kind_size k)
  room = ap length left_is ∙ filled_long (blank_output k) bits (started_fits (kind_size k) (length bits) (length (blank_output k)) l long) ∙ long

  padded : Padded left_there bits
  padded = record {
    first_bits = λ n i. sym (take-take n (length bits) (bits_in left_there) i) ∙ ap (take n) held.bits;
    with_none = more;
  }
    where
      more : (m : ℕ) → length bits + m ≤ 8 * length left_there → source left_there (length bits + m) ≡ bits ++ none m
      more m i =
          let same : left_there ≡ filled_output (blank_output k) (bits ++ none m) = left_is ∙ sym (filled_padded (output_length (kind_size k)) bits m (omega (arith, i, room))) in
          let count : length (bits ++ none m) ≡ length bits + m = padded-long bits m in
          let also : Holds left_there (bits ++ none m) =
          subst (λ (s : List ℕ). Holds s (bits ++ none m)) (sym same) (output_holds (blank_output k) (bits ++ none m) (omega (arith, i, room, count, long))) in
          ap (source left_there) (sym count) ∙ also.bits

-- ---- what is read of another number of them
read_laid : {A : Type 0} (g : A → Flat) (x : Read A) (d : Flat) (n : ℕ) → map_read g x ≡ got d [] n → (p : A) × (left : List Bit) × (q : ℕ) × (x ≡ got p left q) × (g p ≡ d)
read_laid g (got p left q) d n e = (p, left, q, refl, cc)
read_laid g (refused why) d n e = let z : ◌≡◌ {A = ℕ} 0 1 = cc in absurd (omega arith)
read_laid g endless d n e = let z : ◌≡◌ {A = ℕ} 0 1 = cc in absurd (omega arith)

one_more : (n m : ℕ) → m ≤ n → (n ≡ m → ⊥) → m + suc (n - m - 1) ≡ n
one_more n m l other = omega (arith, l, other)

-- H.261: the last group ends at bit N, where no codeword of Table 1 may begin
read_bits : (f : Format) (s : List ℕ) (n : ℕ) (p : Picture) (left : List Bit) (q : ℕ) → reading f s n ≡ got p left q → (picture {P = plain} f (source s n) 0 ≡ got p left q) × (n ≤ 8 * length s)
unfolding reading
read_bits f s n p left q e = go (ltb (8 * length s) n) refl e
  where
    go : (t : Bool) → ltb (8 * length s) n ≡ t → pick (either t (ltb (limit (size_of f)) n)) (bad Count 0) (picture f (source s n) 0) ≡ got p left q → (picture {P = plain} f (source s n) 0 ≡ got p left q) × (n ≤ 8 * length s)
    go true h e = let z : ◌≡◌ {A = ℕ} 0 1 = cc in absurd (omega arith)
    go false h e = within (ltb (limit (size_of f)) n) e
      where
        within : (t : Bool) → pick t (bad Count 0) (picture f (source s n) 0) ≡ got p left q → (picture {P = plain} f (source s n) 0 ≡ got p left q) × (n ≤ 8 * length s)
        within true e = let z : ◌≡◌ {A = ℕ} 0 1 = cc in absurd (omega arith)
        within false e = (e, ltb-false (8 * length s) n h)

module _ (f : Format) (d : Flat) (v : T (valid f d)) (s : List ℕ) (padded : Padded s (picture_bits f d)) where
  other_h261 : (n : ℕ) → (n ≡ length (picture_bits f d) → ⊥) → described f s n ≡ got d [] n → ⊥
  unfolding described picture_bits
  other_h261 n other e =
      let r = read_laid (laid_picture f) (reading f s n) d n e in
      let read = read_bits f s n r.0 r.1 r.2 r.3 in
      let same : r.0 ≡ picture_in d = sym (accepted_described f s n r.0 r.1 r.2 r.3) ∙ ap picture_in r.4 in
      go r.0 r.1 r.2 same read.0 read.1 (lt-or-ge n (length (picture_bits f d)))
    where
      go : (p : Picture) (left : List Bit) (q : ℕ) → p ≡ picture_in d → picture {P = plain} f (source s n) 0 ≡ got p left q → n ≤ 8 * length s → (n < length (picture_bits f d)) ⊎ (length (picture_bits f d) ≤ n) → ⊥
      go p left q same e i (inl less) =
          fewer_bits f (picture_in d) (picture_proper f d v) n left q less
          (ap (λ (bs : List Bit). picture f bs 0) (sym (padded.first_bits n (le_of_lt less))) ∙ e ∙ ap (λ (x : Picture). got x left q) same)
      go p left q same e i (inr least) =
          let k : ℕ = n - length (picture_bits f d) - 1 in
          let q' : length (picture_bits f d) + suc k ≡ n = one_more n (length (picture_bits f d)) least other in
          more_bits (none (suc k)) (none_unread k) f (picture_in d) (picture_proper f d v) p left q
          (ap (λ (bs : List Bit). picture f bs 0) (sym (ap (source s) (sym q') ∙ padded.with_none (suc k) (omega (arith, i, q')))) ∙ e)

-- H.263: "no accepted picture begins another"
module _ (size : Size) (s : List ℕ) where
  described_all : (d : Flat) (n : ℕ) → R263.described size s n ≡ got d [] n → (p : V263.Picture) × (G263.reading size s n ≡ got p [] n)
  unfolding R263.described
  described_all d n e =
      let r = read_laid (V263.laid_picture size) (G263.reading size s n) d n e in
      let all = P263.all_read size s n r.0 r.1 r.2 r.3 in
      (r.0, r.3 ∙ (λ i. got r.0 (all.0 i) (all.1 i)))

  none_begins : (d : Flat) (n m : ℕ) → R263.described size s n ≡ got d [] n → R263.described size s m ≡ got d [] m → n < m → ⊥
  none_begins d n m e g l =
      let first = described_all d n e in
      let second = described_all d m g in
      let cut = P263.every_beginning size s m second.0 second.1 n l in
      never (sym cut.1 ∙ first.1)

other_number : (k : Kind) (d : Flat) (v : (coding_of k).valid d ≡ true) (l : length ((coding_of k).written d) ≤ limit (kind_size k)) (n : ℕ) → (n ≡ length ((coding_of k).written d) → ⊥)
    → described_by k (output_of k d (blank_output k)) n ≡ got d [] n → ⊥
unfolding coding_of
other_number (H261 f) d v l n other e = other_h261 f d (true-T (valid f d) v) (left_there (H261 f) d v l) (padded (H261 f) d v l) n other e
other_number (H263 size) d v l n other e = go (lt-or-ge n (length (bits (H263 size) d v l)))
  where
    right : R263.described size (left_there (H263 size) d v l) (length (bits (H263 size) d v l)) ≡ got d [] (length (bits (H263 size) d v l))
    right = held_back (H263 size) d (left_there (H263 size) d v l) v l (held (H263 size) d v l)

    go : (n < length (bits (H263 size) d v l)) ⊎ (length (bits (H263 size) d v l) ≤ n) → ⊥
    go (inl less) = none_begins size (left_there (H263 size) d v l) d n (length (bits (H263 size) d v l)) e right less
    go (inr least) = none_begins size (left_there (H263 size) d v l) d (length (bits (H263 size) d v l)) n right e (omega (arith, least, other))

pub made_up_wrong : MadeUpWrong
made_up_wrong w k d n v l leaves_it answers other back =
    other_number k d v l n other (ap (λ (s : List ℕ). described_by k s n) (sym leaves_it) ∙ back.back k d (blank_output k) n v (blank_long (output_length (kind_size k))) answers)
