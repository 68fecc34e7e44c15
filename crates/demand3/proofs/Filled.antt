-- A picture's bits in bytes, the last started byte filled with zeros, and then in a collection. Assumes nothing.
use mathlib.Core.Path.{◌≡◌, refl, sym, ap, ◌∙◌}
use mathlib.Core.List.{List, [], ◌∷◌, ◌++◌}
use Prim.Native.Nat.{ℕ, zero, suc, ◌+◌, ◌-◌, ◌*◌, ◌/◌, ◌%◌, ◌^◌, ◌≤◌, ◌<◌}
use native.Mathlib.Nat.{mul-mod_left, mul_assoc, mul_comm, pow-suc, zero-add, not-suc-le-zero, le_of_suc-le-suc, mod-one}
use native.Mathlib.Omega.{arith}
use lib.ListN.{length, get_or, take, drop, length-drop, take-append-drop}
use lib.Seq.{drop-drop, take_all}
use Rattle.bits.specs.Bits.{Bit, num, bits_from}
use Rattle.bits.proofs.Source.{source_left}
use Rattle.bits.specs.Write.{byte_from, bytes_of, started_bytes, bytes_with}
use Rattle.bits.proofs.Write.{written_is, written_bits, length-bytes_of}
use Rattle.vault.specs.Block.{unused}
use Rattle.vault.specs.Parts.{part_count}
use Rattle.vault.specs.Collected.{Collected}
use Rattle.vault.proofs.Collected.{collected_all}
use Rattle.bits.specs.Write.{Holds}
use Rattle.coding.specs.Described.{bytes_in}

-- ---- zeros after the last bit
ended : (k v : ℕ) → byte_from k v [] ≡ v * 2 ^ k
unfolding byte_from
ended zero v = omega arith
ended (suc k) v = ended k (v * 2) ∙ mul_assoc v 2 (2 ^ k) ∙ ap (λ (n : ℕ). v * n) (mul_comm 2 (2 ^ k) ∙ sym (pow-suc 2 k))

low : (k v : ℕ) (bs : List Bit) → byte_from k v bs % 2 ^ (k - length bs) ≡ 0
unfolding byte_from
low zero v bs = let e : zero - length bs ≡ 0 = omega arith in rw e (mod-one v)
low (suc k) v [] = let e : suc k - 0 ≡ suc k = omega arith in ap (λ (n : ℕ). byte_from k (v * 2) [] % 2 ^ n) e ∙ ap (λ (n : ℕ). n % 2 ^ suc k) (ended (suc k) v) ∙ mul-mod_left v (2 ^ suc k)
low (suc k) v (b ∷ bs) = let e : suc k - suc (length bs) ≡ k - length bs = omega arith in ap (λ (n : ℕ). byte_from k (v * 2 + num b) bs % 2 ^ n) e ∙ low k (v * 2 + num b) bs

byte_at : (n : ℕ) (bs : List Bit) (i : ℕ) → i < n → get_or (bytes_of n bs) i 0 ≡ byte_from 8 0 (drop (8 * i) bs)
unfolding bytes_of
byte_at zero bs i l = absurd (not-suc-le-zero l)
byte_at (suc n) bs zero l = refl
byte_at (suc n) bs (suc i) l =
    let e : 8 + 8 * i ≡ 8 * suc i = omega arith in
    byte_at n (drop 8 bs) i (le_of_suc-le-suc l) ∙ ap (byte_from 8 0) (drop-drop (8 * i) 8 bs ∙ ap (λ (k : ℕ). drop k bs) e)

pub filled : (bits : List Bit) (i : ℕ) → i < (length bits + 7) / 8 → get_or (bytes_in bits) i 0 % 2 ^ unused (length bits) i ≡ 0
filled bits i l =
    let e : unused (length bits) i ≡ 8 - length (drop (8 * i) bits) = omega (arith, length-drop (8 * i) bits) in
    rw (e, byte_at (started_bytes (length bits)) bits i l) (low 8 0 (drop (8 * i) bits))

-- ---- all parts of a picture, collected, hold its bits
module _ (bits : List Bit) (collection : List ℕ) (room : 500 * part_count (length bits) ≤ length collection) where
  fits : length bits ≤ 8 * length collection
  fits = omega arith

  as_written : Collected (bytes_in bits) (length bits) (part_count (length bits)) collection → collection ≡ bytes_with collection 0 bits
  unfolding bits_from
  as_written h =
      let n : ℕ = started_bytes (length bits) in
      let long : length (bytes_in bits) ≡ n = length-bytes_of n bits in
      let front : take n collection ≡ take n (bytes_in bits) = collected_all (bytes_in bits) (length bits) collection (omega arith) room (filled bits) h in
      let whole : take n (bytes_in bits) ≡ bytes_in bits = take_all n (bytes_in bits) (omega arith) in
      sym (take-append-drop n collection) ∙ ap (λ (l : List ℕ). l ++ drop n collection) (front ∙ whole)
      ∙ ap (λ (k : ℕ). bytes_of (started_bytes k) bits ++ drop (started_bytes k) collection) (sym (zero-add (length bits)))
      ∙ sym (written_is collection 0 bits)

  pub collected_holds : Collected (bytes_in bits) (length bits) (part_count (length bits)) collection → Holds collection bits
  unfolding bits_from
  collected_holds h = record {
    room = fits;
    bits =
        source_left collection (length bits) fits ∙ (λ i. bits_from (as_written h i) 0 (same i))
        ∙ written_bits collection 0 bits (omega (arith, fits));
  }
    where
      same : length bits - 0 ≡ 0 + length bits
      same = omega arith
