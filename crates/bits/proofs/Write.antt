-- Bits that are written one after another: what stands before them stays, and reading gives them back. Assumes nothing.
use mathlib.Core.Path.{◌≡◌, refl, sym, ap, ◌∙◌}
use mathlib.Core.List.{List, [], ◌∷◌, ◌++◌, append_assoc, append-nil}
use Prim.Native.Nat.{ℕ, zero, suc, ◌+◌, ◌-◌, ◌*◌, ◌≤◌}
use native.Mathlib.Nat.{add-zero, zero-add, add_assoc}
use native.Mathlib.Omega.{arith}
use lib.ListN.{length, take, drop, length-append, length-drop}
use lib.Seq.{drop-append-add, drop-drop, drop-nil}
use Rattle.bits.specs.Bits.{Bit, bit0, bit1, num, bits_of, bits_in, source, bits_from}
use Rattle.bits.proofs.Value.{length_bits}
use Rattle.bits.proofs.Source.{source_left}
use Rattle.bits.proofs.Numbers.{bits_of-append, num_small}
use Rattle.bits.specs.Write.{bytes_of, bytes_with, started_bytes, byte_from}

pub written_is : (s : List ℕ) (at : ℕ) (w : List Bit) → bytes_with s at w ≡ bytes_of (started_bytes (at + length w)) (bits_from s 0 at ++ w) ++ drop (started_bytes (at + length w)) s
unfolding bytes_with
written_is s at w = refl

-- ---- the bits of those bytes
-- the first k bits, zeros where they end
abbrev padded : ℕ → List Bit → List Bit
padded zero bs = []
padded (suc k) [] = bit0 ∷ padded k []
padded (suc k) (b ∷ bs) = b ∷ padded k bs

one_bit : (b : Bit) → bits_of 1 (num b) ≡ b ∷ []
one_bit bit0 = refl
one_bit bit1 = refl

snoc : (j v : ℕ) (b : Bit) (r : List Bit) → bits_of (suc j) (v * 2 + num b) ++ r ≡ bits_of j v ++ (b ∷ r)
snoc j v b r =
    let e : j + 1 ≡ suc j = omega arith in
    let h : bits_of j v ++ (b ∷ []) ≡ bits_of (suc j) (v * 2 + num b) =
    ap (λ (l : List Bit). bits_of j v ++ l) (sym (one_bit b)) ∙ bits_of-append j 1 v (num b) (num_small b) ∙ ap (λ (i : ℕ). bits_of i (v * 2 + num b)) e in
    ap (λ (l : List Bit). l ++ r) (sym h) ∙ append_assoc (bits_of j v) (b ∷ []) r

pad_number : (j k v : ℕ) (bs : List Bit) → bits_of (j + k) (byte_from k v bs) ≡ bits_of j v ++ padded k bs
unfolding byte_from
pad_number j zero v bs = rw (add-zero j) (sym (append-nil (bits_of j v)))
pad_number j (suc k) v [] =
    let e : j + suc k ≡ suc j + k = omega arith in
    let z : v * 2 + 0 ≡ v * 2 = omega arith in
    rw e (pad_number (suc j) k (v * 2) [] ∙ rw z at (snoc j v bit0 (padded k [])))
pad_number j (suc k) v (b ∷ bs) =
    let e : j + suc k ≡ suc j + k = omega arith in
    rw e (pad_number (suc j) k (v * 2 + num b) bs ∙ snoc j v b (padded k bs))

pad_more : (j k : ℕ) (bs : List Bit) → padded j bs ++ padded k (drop j bs) ≡ padded (j + k) bs
pad_more zero k bs = rw (zero-add k)
pad_more (suc j) k [] = let e : suc j + k ≡ suc (j + k) = omega arith in rw e (ap (λ (l : List Bit). bit0 ∷ l) (rw (drop-nil j) at (pad_more j k [])))
pad_more (suc j) k (b ∷ bs) = let e : suc j + k ≡ suc (j + k) = omega arith in rw e (ap (λ (l : List Bit). b ∷ l) (pad_more j k bs))

bytes_bits : (n : ℕ) (bs : List Bit) (rest : List ℕ) → bits_in (bytes_of n bs ++ rest) ≡ padded (n * 8) bs ++ bits_in rest
unfolding bits_in bytes_of
bytes_bits zero bs rest = refl
bytes_bits (suc n) bs rest =
    let e : suc n * 8 ≡ 8 + n * 8 = omega arith in
    rw (e, ← pad_more 8 (n * 8) bs, append_assoc (padded 8 bs) (padded (n * 8) (drop 8 bs)) (bits_in rest), bytes_bits n (drop 8 bs) rest)
    (ap (λ (l : List Bit). l ++ (padded (n * 8) (drop 8 bs) ++ bits_in rest)) (pad_number 0 8 0 bs))

take-padded : (k : ℕ) (bs rest : List Bit) → length bs ≤ k → take (length bs) (padded k bs ++ rest) ≡ bs
take-padded k [] rest h = refl
take-padded zero (b ∷ bs) rest h = absurd (omega arith)
take-padded (suc k) (b ∷ bs) rest h = ap (λ (l : List Bit). b ∷ l) (take-padded k bs rest (omega arith))

pub length-bytes_of : (n : ℕ) (bs : List Bit) → length (bytes_of n bs) ≡ n
unfolding bytes_of
length-bytes_of zero bs = refl
length-bytes_of (suc n) bs = ap suc (length-bytes_of n (drop 8 bs))

-- ---- what was written stands there
module _ (s : List ℕ) (at : ℕ) (w : List Bit) (room : at + length w ≤ 8 * length s) where
  before_word : length (bits_from s 0 at ++ w) ≡ at + length w
  before_word = length-append (bits_from s 0 at) w ∙ ap (λ (k : ℕ). k + length w) (length_bits s 0 at)

  pub length_written : length (bytes_with s at w) ≡ length s
  unfolding bytes_with
  length_written =
      let n = started_bytes (at + length w) in
      let a = length-append (bytes_of n (bits_from s 0 at ++ w)) (drop n s) in
      let b = length-bytes_of n (bits_from s 0 at ++ w) in
      let c = length-drop n s in
      omega arith

  written_source : source (bytes_with s at w) (at + length w) ≡ bits_from s 0 at ++ w
  unfolding bytes_with
  written_source =
      let n = started_bytes (at + length w) in
      let l : length (bits_from s 0 at ++ w) ≤ n * 8 = omega (arith, before_word) in
      ap (take (at + length w)) (bytes_bits n (bits_from s 0 at ++ w) (drop n s))
      ∙ ap (λ (k : ℕ). take k (padded (n * 8) (bits_from s 0 at ++ w) ++ bits_in (drop n s))) (sym before_word)
      ∙ take-padded (n * 8) (bits_from s 0 at ++ w) (bits_in (drop n s)) l

  pub written_bits : bits_from (bytes_with s at w) 0 (at + length w) ≡ bits_from s 0 at ++ w
  written_bits =
      let l : at + length w ≤ 8 * length (bytes_with s at w) = omega (arith, length_written) in
      let z : at + length w - 0 ≡ at + length w = omega arith in
      rw z at (sym (source_left (bytes_with s at w) (at + length w) l)) ∙ written_source

  drop_written : (k : ℕ) → drop (started_bytes (at + length w) + k) (bytes_with s at w) ≡ drop (started_bytes (at + length w) + k) s
  unfolding bytes_with
  drop_written k =
      let n = started_bytes (at + length w) in
      let x = bytes_of n (bits_from s 0 at ++ w) in
      ap (λ (i : ℕ). drop (i + k) (x ++ drop n s)) (sym (length-bytes_of n (bits_from s 0 at ++ w))) ∙ drop-append-add x (drop n s) k ∙ drop-drop k n s

  -- and another word after it
  pub written_more : (v : List Bit) → bytes_with (bytes_with s at w) (at + length w) v ≡ bytes_with s at (w ++ v)
  written_more v =
      let e : at + length w + length v ≡ at + length (w ++ v) = add_assoc at (length w) (length v) ∙ ap (λ (k : ℕ). at + k) (sym (length-append w v)) in
      let n = started_bytes (at + length w) in
      let m = started_bytes (at + length w + length v) in
      let k : m ≡ n + (m - n) = omega arith in
      let b : bits_from (bytes_with s at w) 0 (at + length w) ++ v ≡ bits_from s 0 at ++ (w ++ v) =
      ap (λ (l : List Bit). l ++ v) written_bits ∙ append_assoc (bits_from s 0 at) w v in
      let d : drop m (bytes_with s at w) ≡ drop m s =
      ap (λ (i : ℕ). drop i (bytes_with s at w)) k ∙ drop_written (m - n) ∙ ap (λ (i : ℕ). drop i s) (sym k) in
      written_is (bytes_with s at w) (at + length w) v
      ∙ (λ i. bytes_of m (b i) ++ d i)
      ∙ ap (λ (j : ℕ). bytes_of (started_bytes j) (bits_from s 0 at ++ (w ++ v)) ++ drop (started_bytes j) s) e
      ∙ sym (written_is s at (w ++ v))
