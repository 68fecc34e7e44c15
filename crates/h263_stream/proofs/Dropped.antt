-- What is dropped after a picture, by the windows at two places. Assumes nothing.
use Prim.Native.Nat.{ℕ, zero, suc, ◌+◌, ◌-◌, ◌*◌, ◌/◌, ◌^◌, ◌<◌, ◌≤◌, min}
use native.Mathlib.Nat.{not-suc-le-zero, min-le_right}
use native.Mathlib.Omega.{arith}
use borrow.Author.Tests.{lt-ltb, le-ltb, le-leb, lt-leb, eq-eqb, ne_eqb}
use mathlib.Core.Path.{◌≡◌, sym, ap, ◌∙◌}
use mathlib.Core.Bool.{Bool, true, false}
use mathlib.Core.List.{List}
use lib.Dec.{eqb, leb}
use Rattle.laws.specs.Choice.{pick, both, either}
use Rattle.refusals.specs.Told.{Told, verdict_on, found_or}
use Rattle.bits.specs.Bits.{value}
use Rattle.bits.proofs.Value.{window_first}
use Rattle.fields.specs.Answer.{found}
use Rattle.size.specs.declared.Size.{Size}
use Rattle.size.specs.declared.Size.TheVariants.{SubQcif, Qcif, Cif}
use Rattle.size.specs.Size.{limit}
use Rattle.layout.specs.Flat.{Flat}
use Rattle.h263_reader.specs.Described.{described}
use Rattle.coding.specs.declared.Kind.TheVariants.{H263}
use Rattle.coding.specs.Described.{read_of}
use Rattle.h263_stream.specs.Filled.{fills_from, ends_after, ends_within, room_of, all_bits, bits_by, picture_bits, picture_read}

-- ---- zeros
module _ (bytes : List ℕ) (all at : ℕ) {left : ℕ} (l : left ≡ all - at) where
  pub too_many : 8 ≤ left → false ≡ fills_from bytes all at
  unfolding fills_from
  too_many m =
      let many : 8 ≤ all - at = omega (arith, l, m) in
      sym (ap (λ (t : Bool). both t (eqb (value bytes at (all - at)) 0)) (le-ltb (all - at) 8 many))

  pub by_zeros : {w : ℕ} → left < 8 → w ≡ value bytes at 24 → eqb (w / 2 ^ (24 - left)) 0 ≡ fills_from bytes all at
  unfolding fills_from
  by_zeros {w} m e =
      let few : all - at < 8 = omega (arith, l, m) in
      ap (λ (n : ℕ). eqb n 0) (window_first bytes at w left e (omega (arith, m)) ∙ ap (λ (n : ℕ). value bytes at n) l)
      ∙ sym (ap (λ (t : Bool). both t (eqb (value bytes at (all - at)) 0)) (lt-ltb (all - at) 8 few))

  -- ---- an end code
  module _ (zeros : ℕ) where
    pub too_few : left < zeros + 22 → false ≡ ends_after bytes all at zeros
    unfolding ends_after
    too_few m =
        let few : all - at < zeros + 22 = omega (arith, l, m) in
        sym (ap (λ (t : Bool). both t (both (eqb (value bytes at 16) 0) (eqb (value bytes (at + 16) (zeros + 6)) 63))) (lt-leb (zeros + 22) (all - at) few))

    module _ (m : zeros + 22 ≤ left) {w : ℕ} (e : w ≡ value bytes at 24) where
      room : leb (zeros + 22) (all - at) ≡ true
      room =
          let enough : zeros + 22 ≤ all - at = omega (arith, l, m) in
          le-leb (zeros + 22) (all - at) enough

      sixteen : w / 2 ^ 8 ≡ value bytes at 16
      sixteen = window_first bytes at w 16 e (omega arith)

      pub no_zeros : (w / 2 ^ 8 ≡ 0 → ⊥) → false ≡ ends_after bytes all at zeros
      unfolding ends_after
      no_zeros n = sym (λ i. both (room i) (both (ne_eqb (value bytes at 16) 0 (λ z. n (sixteen ∙ z)) i) (eqb (value bytes (at + 16) (zeros + 6)) 63)))

      pub by_ones : {v : ℕ} → zeros < 8 → w / 2 ^ 8 ≡ 0 → v ≡ value bytes (at + 16) 24 → eqb (v / 2 ^ (18 - zeros)) 63 ≡ ends_after bytes all at zeros
      unfolding ends_after
      by_ones {v} s z f =
          let rest : 18 - zeros ≡ 24 - (zeros + 6) = omega (arith, s) in
          ap (λ (n : ℕ). eqb n 63) (ap (λ (n : ℕ). v / 2 ^ n) rest ∙ window_first bytes (at + 16) v (zeros + 6) f (omega (arith, s)))
          ∙ sym (λ i. both (room i) (both (eq-eqb (value bytes at 16) 0 (sym sixteen ∙ z) i) (eqb (value bytes (at + 16) (zeros + 6)) 63)))

-- ---- N
room_few : (size : Size) → room_of size ≤ 32776
room_few SubQcif = omega arith
room_few Qcif = omega arith
room_few Cif = omega arith

module _ (size : Size) (count : ℕ) {room n : ℕ} (r : room ≡ room_of size) (m : n ≡ min count room) where
  pub bytes_few : n ≤ 32776
  bytes_few = omega (arith, m, min-le_right count room, r, room_few size)

  pub all_bits_lem : 8 * n ≡ all_bits size count
  all_bits_lem = ap (λ (k : ℕ). 8 * k) (m ∙ ap (λ (k : ℕ). min count k) r)

pub judged : {size other : Size} (bytes : List ℕ) (count : ℕ) {v : Told (Unit {0})} → size ≡ other → v ≡ verdict_on (found (described other bytes count))
    → v ≡ verdict_on (found (described size bytes count))
judged bytes count e v = v ∙ sym (ap (λ (x : Size). verdict_on (found (described x bytes count))) e)

pub thirteen : {n m x : ℕ} (y z : ℕ) → n ≡ m → n ≡ 13 → x ≡ y → x ≡ pick (eqb m 13) y z
thirteen {n} {m} y z e f g = g ∙ sym (ap (λ (t : Bool). pick t y z) (eq-eqb m 13 (sym e ∙ f)))

pub not-thirteen : {n m : ℕ} (y z : ℕ) → n ≡ m → (n ≡ 13 → ⊥) → z ≡ pick (eqb m 13) y z
not-thirteen {n} {m} y z e f = sym (ap (λ (t : Bool). pick t y z) (ne_eqb m 13 (λ g. f (e ∙ g))))

pub bits_by_lem : (size : Size) (bytes : List ℕ) (count : ℕ) {all most seen : ℕ} {v : Told (Unit {0})} → all ≡ all_bits size count → most ≡ limit size → seen ≡ min all most
    → v ≡ verdict_on (found (described size bytes seen)) → bits_by bytes all seen v ≡ picture_bits size bytes count
unfolding picture_bits
bits_by_lem size bytes count {all} {most} {seen} {v} a m s e =
    let same : seen ≡ min (all_bits size count) (limit size) = s ∙ (λ i. min (a i) (m i)) in
    λ i. bits_by bytes (a i) (same i) ((e ∙ ap (λ (n : ℕ). verdict_on (found (described size bytes n))) same) i)

-- the picture of those bits
pub read_bits : (size : Size) (bytes : List ℕ) (count : ℕ) (before : Flat) {n : ℕ} {v : Told (Unit {0})} {left : Flat} → n ≡ picture_bits size bytes count
    → v ≡ verdict_on (read_of (H263 size) bytes n before) → left ≡ found_or before (read_of (H263 size) bytes n before)
    → (v ≡ verdict_on (picture_read size bytes count before)) × (left ≡ found_or before (picture_read size bytes count before))
read_bits size bytes count before e v l = (
  v ∙ ap (λ (k : ℕ). verdict_on (read_of (H263 size) bytes k before)) e,
  l ∙ ap (λ (k : ℕ). found_or before (read_of (H263 size) bytes k before)) e,
)
