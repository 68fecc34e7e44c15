-- What is written is read back, and its samples agree. Assumes nothing.
use Prim.Native.Nat.{ℕ, ◌+◌, ◌*◌, ◌-◌, ◌≤◌}
use mathlib.Core.Path.{◌≡◌, refl, sym, ap, subst, ◌∙◌}
use mathlib.Core.Bool.{Bool, true, false}
use mathlib.Core.List.{List, [], ◌++◌}
use native.Mathlib.Omega.{arith}
use borrow.Author.Tests.{le-ltb, ltb-false, eq-eqb, eqb-true}
use lib.Dec.{ltb, eqb}
use lib.ListN.{length, drop}
use Rattle.laws.specs.Choice.{pick, either}
use Rattle.laws.proofs.Choice.{true-T, two_of}
use Rattle.refusals.specs.Told.{Told, accepted, refused}
use Rattle.refusals.proofs.Told.{accepted_once, told_apart}
use Rattle.bits.specs.Bits.{Bit, bits_from}
use Rattle.bits.specs.Output.{output_left}
use Rattle.bits.specs.Read.{Read, got}
use Rattle.bits.specs.Write.{Holds}
use Rattle.bits.proofs.Source.{source_left}
use Rattle.fields.specs.Answer.{map_read, found}
use Rattle.size.specs.declared.Size.{Size}
use Rattle.size.specs.Size.{limit, output_length, store_length}
use Rattle.layout.specs.Flat.{Flat}
use Rattle.coding.specs.declared.Kind.{Kind}
use Rattle.coding.specs.declared.Kind.TheVariants.{H261, H263}
use Rattle.coding.specs.Kind.{kind_size, coding_of, described_by}
use Rattle.coding.specs.Described.{write_lengths, read_of, write_of, output_of}
use Rattle.decoder.specs.Decoded.{drawn_by, drawn_store, decoded}
use Rattle.demand2.specs.WrittenBack.{WrittenBack, WritesValid}
use Rattle.bits.specs.Write as W
use Rattle.bits.proofs.Write as L
use Rattle.h261_groups.specs.declared.Format.TheVariants as F
use Rattle.size.specs.declared.Size.TheVariants as S
use Rattle.h261_description.specs.Value as V261
use Rattle.h261_description.specs.Valid as J261
use Rattle.h261_reader.specs.Described as R261
use Rattle.h261_readback.specs.ReadBack as B261
use Rattle.h261_readback.proofs.ReadBack as P261
use Rattle.h263_description.specs.Value as V263
use Rattle.h263_description.specs.Valid as J263
use Rattle.h263_reader.specs.Described as R263
use Rattle.h263_readback.specs.ReadBack as B263
use Rattle.h263_readback.proofs.ReadBack as P263

-- ---- by kind
-- what a coding reads is what its grammar finds
pub read_is : (k : Kind) (bytes : List ℕ) (n : ℕ) → (coding_of k).read bytes n ≡ found (described_by k bytes n)
unfolding coding_of
read_is (H261 f) bytes n = refl
read_is (H263 size) bytes n = refl

-- a valid description has named lengths
any_of : (a b : Bool) → b ≡ true → either a b ≡ true
any_of true b e = refl
any_of false b e = e

pub valid_named : (k : Kind) (d : Flat) → (coding_of k).valid d ≡ true → (coding_of k).named d ≡ true
unfolding coding_of J261.valid J263.valid
valid_named (H261 F.Qcif) d v = rw (two_of (J261.lengths_of F.Qcif d) _ v).0
valid_named (H261 F.Cif) d v = any_of (J261.lengths_of F.Qcif d) _ (two_of (J261.lengths_of F.Cif d) _ v).0
valid_named (H263 S.SubQcif) d v = rw (two_of (J263.lengths_of S.SubQcif d) _ v).0
valid_named (H263 S.Qcif) d v = any_of (J263.lengths_of S.SubQcif d) _ (rw (two_of (J263.lengths_of S.Qcif d) _ v).0)
valid_named (H263 S.Cif) d v =
    any_of (J263.lengths_of S.SubQcif d) _ (any_of (J263.lengths_of S.Qcif d) _ (two_of (J263.lengths_of S.Cif d) _ v).0)

-- bytes that hold the bits of a valid description first are read back as it, in exactly N bits
pub held_back : (k : Kind) (d : Flat) (bytes : List ℕ) → (coding_of k).valid d ≡ true → length ((coding_of k).written d) ≤ limit (kind_size k) → Holds bytes ((coding_of k).written d)
    → described_by k bytes (length ((coding_of k).written d)) ≡ got d [] (length ((coding_of k).written d))
unfolding coding_of R261.described R263.described
held_back (H261 f) d bytes v l h =
    let back : B261.ReadBack f d bytes = P261.reads_back f d bytes (true-T (J261.valid f d) v) l h in
    ap (map_read (V261.laid_picture f)) back.read ∙ ap (λ (x : Flat). got x [] (length ((coding_of (H261 f)).written d))) back.laid_out
held_back (H263 size) d bytes v l h =
    let back : B263.ReadBack size d bytes = P263.reads_back size d bytes (true-T (J263.valid size d) v) l h in
    ap (map_read (V263.laid_picture size)) back.read ∙ ap (λ (x : Flat). got x [] (length ((coding_of (H263 size)).written d))) back.laid_out

-- ---- writing
-- what the output holds after N bits were written: they stand first in it
pub output_holds : (out : List ℕ) (w : List Bit) → length w ≤ 8 * length out → Holds (W.bytes_of (W.started_bytes (length w)) w ++ drop (W.started_bytes (length w)) out) w
unfolding bits_from
output_holds out w room =
    let zero_more : 0 + length w ≡ length w = omega arith in
    let fits : 0 + length w ≤ 8 * length out = omega arith in
    let is : W.bytes_with out 0 w ≡ W.bytes_of (W.started_bytes (length w)) w ++ drop (W.started_bytes (length w)) out = rw zero_more at (L.written_is out 0 w) in
    let long : length (W.bytes_with out 0 w) ≡ length out = L.length_written out 0 w fits in
    let stands : bits_from (W.bytes_with out 0 w) 0 (length w) ≡ w = rw zero_more at (L.written_bits out 0 w fits) in
    let within : length w ≤ 8 * length (W.bytes_with out 0 w) = omega arith in
    let none : length w - 0 ≡ length w = omega arith in
    subst (λ (s : List ℕ). Holds s w) is
    (record { room = within; bits = rw none at (source_left (W.bytes_with out 0 w) (length w) within) ∙ stands })

-- an answer of N bits: the description was valid, not above the limit, the output had its length, and N is what was written
pub record Wrote (k : Kind) (d : Flat) (room n : ℕ) : Type 0 where
  pub is_valid : (coding_of k).valid d ≡ true
  pub below : length ((coding_of k).written d) ≤ limit (kind_size k)
  pub named : room ≡ output_length (kind_size k)
  pub count : n ≡ length ((coding_of k).written d)

bits_only : (a b c : Bool) (m n : ℕ) (x y z : ℕ) → pick a (pick b (pick c (refused x 0) (accepted m)) (refused y 0)) (refused z 0) ≡ accepted n
    → (a ≡ true) × (b ≡ true) × (c ≡ false) × (n ≡ m)
bits_only true true false m n x y z e = (refl, refl, refl, sym (accepted_once e))
bits_only true true true m n x y z e = absurd (told_apart (sym e))
bits_only true false c m n x y z e = absurd (told_apart (sym e))
bits_only false b c m n x y z e = absurd (told_apart (sym e))

pub wrote : (k : Kind) (d : Flat) (room n : ℕ) → write_of k d room ≡ accepted n → Wrote k d room n
unfolding write_of
wrote k d room n e =
    let bits : List Bit = (coding_of k).written d in
    let said = bits_only (write_lengths k d room) ((coding_of k).valid d) (ltb (limit (kind_size k)) (length bits)) (length bits) n _ _ _ e in
    record {
      is_valid = said.1;
      below = ltb-false (limit (kind_size k)) (length bits) said.2;
      named = eqb-true room (output_length (kind_size k)) (two_of ((coding_of k).named d) (eqb room (output_length (kind_size k))) said.0).1;
      count = said.3;
    }

-- and the other way: every valid description that is not above the limit is written, into an output of its length
pub writes : WritesValid
unfolding write_of
writes k d out v l e =
    rw (valid_named k d v, eq-eqb (length out) (output_length (kind_size k)) e, v, le-ltb (limit (kind_size k)) (length ((coding_of k).written d)) l) refl

-- what `write` left holds the bits first, whenever it answers N
pub written_held : (k : Kind) (d : Flat) (out : List ℕ) (n : ℕ) → write_of k d (length out) ≡ accepted n → Holds (output_of k d out) ((coding_of k).written d)
unfolding output_left
written_held k d out n e =
    let w = (coding_of k).written d in
    let w_is = wrote k d (length out) n e in
    subst (λ (x : Told ℕ). Holds (output_left out w x) w) (sym e) (output_holds out w (fits (kind_size k) (length w) (length out) w_is.below w_is.named))
  where
    fits : (size : Size) (bits room : ℕ) → bits ≤ limit size → room ≡ output_length size → bits ≤ 8 * room
    fits S.SubQcif bits room l e = omega arith
    fits S.Qcif bits room l e = omega arith
    fits S.Cif bits room l e = omega arith

-- ---- decoding: into stores of their length, what is found is drawn
pub decoded_is : (k : Kind) (bytes : List ℕ) (n : ℕ) (reference : List ℕ) → length reference ≡ store_length (kind_size k)
    → decoded k bytes n reference (store_length (kind_size k)) ≡ drawn_by (coding_of k) reference (found (described_by k bytes n))
unfolding decoded drawn_store
decoded_is k bytes n reference e =
    rw (eq-eqb (length reference) (store_length (kind_size k)) e, eq-eqb (store_length (kind_size k)) (store_length (kind_size k)) refl) (ap (drawn_by (coding_of k) reference) (read_is k bytes n))

-- ---- the theorem
pub written_back : WrittenBack
unfolding read_of
written_back k d out n e =
    let w_is = wrote k d (length out) n e in
    let bytes : List ℕ = output_of k d out in
    let again : described_by k bytes n ≡ got d [] n =
    subst (λ (m : ℕ). described_by k bytes m ≡ got d [] m) (sym w_is.count) (held_back k d bytes w_is.is_valid w_is.below (written_held k d out n e)) in
    record {
      read = again;
      reads = λ before l. rw l (read_is k bytes n ∙ ap found again);
      samples = λ reference l. decoded_is k bytes n reference l ∙ ap (λ (x : Read Flat). drawn_by (coding_of k) reference (found x)) again;
    }
