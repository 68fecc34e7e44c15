-- Eight bits at once come to what they come to one by one, where no start code ends within them. Assumes nothing.
use mathlib.Core.Path.{◌≡◌, refl, sym, ap, subst, ◌∙◌}
use mathlib.Core.Bool.{Bool, true, false}
use mathlib.Core.List.{List, [], ◌∷◌, ◌++◌, map, map-append}
use Prim.Native.Nat.{ℕ, zero, suc, ◌+◌, ◌-◌, ◌*◌, ◌/◌, ◌%◌, ◌^◌, ◌<◌, ◌≤◌}
use native.Mathlib.Nat.{add-zero, mod-lt}
use native.Mathlib.Omega.{arith}
use borrow.Author.Tests.{lt-ltb, ltb-true, ne_eqb}
use lib.Dec.{eqb, leb, ltb, leb→le, lit<, lit≤}
use lib.ListN.{length, get_or, set, length-append}
use lib.Seq.{sets}
use Rattle.laws.specs.Choice.{pick}
use Rattle.laws.proofs.Choice.{true-T}
use Rattle.bits.specs.Bits.{Bit, bit0, bit1, bit_of, bits_of, bit_num, bit_at, bits_from}
use Rattle.bits.proofs.Value.{bits_split, byte_bits, left_none, left_more}
use Rattle.bits.specs.Write.{bytes_with}
use Rattle.bits.specs.Appended.{FieldFits}
use Rattle.bits.proofs.Stores.{bytes_in, stored_none}
use Rattle.bits.proofs.Write.{length_written, written_more}
use Rattle.stream.specs.declared.Stream.{Stream}
use Rattle.stream.specs.Stream.{bit_number, window_after, starts_at, begun_by, longer_by, stream_after, beginning, extended, kept_after, ran_from, kept_from, until_start, is_one, bits_on}
use Rattle.stream.specs.Pictures.{as_bit}
use Rattle.stream.specs.Bytes.{bits_of_number, last_after, before_after, Calm, Reaches}
use Rattle.stream.proofs.StreamLaws.{more_below, one_bit}

-- ---- a bit that ends no start code
module _ (s : Stream) (b : Bool) (q : window_after s.window b ≡ 16 → ⊥) where
  no_start : starts_at s b ≡ false
  no_start = ne_eqb (window_after s.window b) 16 q

  went : stream_after s b ≡ longer_by s b
  unfolding stream_after
  went = ap (λ (t : Bool). pick t (begun_by s b) (longer_by s b)) no_start

  stayed : (bytes : List ℕ) → kept_after s b bytes ≡ extended s.count b bytes
  unfolding kept_after
  stayed bytes = ap (λ (t : Bool). pick t (beginning bytes) (extended s.count b bytes)) no_start

  until_on : (bits : List Bool) → until_start s (b ∷ bits) ≡ b ∷ until_start (stream_after s b) bits
  until_on bits = ap (λ (t : Bool). pick t [] (b ∷ until_start (stream_after s b) bits)) no_start

-- ---- bits within which none ends
abbrev Quiet : ℕ → List Bool → Type 0
Quiet w [] = Unit {0}
Quiet w (b ∷ bits) = (window_after w b ≡ 16 → ⊥) × Quiet (window_after w b) bits

abbrev windows : ℕ → List Bool → ℕ
windows w [] = w
windows w (b ∷ bits) = windows (window_after w b) bits

quiet_on : (s : Stream) (b : Bool) (bits : List Bool) → Quiet s.window (b ∷ bits) → Quiet (stream_after s b).window bits
quiet_on s b bits q = subst (λ (t : Stream). Quiet t.window bits) (sym (went s b q.0)) q.1

until_quiet : (s : Stream) (bits rest : List Bool) → Quiet s.window bits → until_start s (bits ++ rest) ≡ bits ++ until_start (ran_from s bits) rest
until_quiet s [] rest q = refl
until_quiet s (b ∷ bits) rest q =
    until_on s b q.0 (bits ++ rest) ∙ ap (λ (l : List Bool). b ∷ l) (until_quiet (stream_after s b) bits rest (quiet_on s b bits q))

ran_append : (s : Stream) (bits more : List Bool) → ran_from s (bits ++ more) ≡ ran_from (ran_from s bits) more
ran_append s [] more = refl
ran_append s (b ∷ bits) more = ran_append (stream_after s b) bits more

kept_append : (s : Stream) (bits more : List Bool) (p : List ℕ) → kept_from s (bits ++ more) p ≡ kept_from (ran_from s bits) more (kept_from s bits p)
kept_append s [] more p = refl
kept_append s (b ∷ bits) more p = kept_append (stream_after s b) bits more (kept_after s b p)

-- what they come to
abbrev after : Stream → List Bool → Stream
after s bits = record {
  place = s.place + length bits;
  window = windows s.window bits;
  begun = s.begun;
  offset = s.offset;
  count = s.count + length bits;
  last = last_after s.count s.last bits;
  «before» = before_after s.count s.last s.«before» bits;
}

after_none : (s : Stream) → s ≡ after s []
after_none s = λ i. record {
  place = sym (add-zero s.place) i;
  window = s.window;
  begun = s.begun;
  offset = s.offset;
  count = sym (add-zero s.count) i;
  last = s.last;
  «before» = s.«before»;
}

-- a bit more, where it can be counted
abbrev one_after : Stream → Bool → Stream
one_after s b = record {
  place = s.place + 1;
  window = window_after s.window b;
  begun = s.begun;
  offset = s.offset;
  count = s.count + 1;
  last = pick b (s.count + 1) s.last;
  «before» = pick b s.last s.«before»;
}

longer_one : (s : Stream) (b : Bool) → s.place < 18446744073709551615 → s.count < 18446744073709551615 → longer_by s b ≡ one_after s b
longer_one s b p c = λ i. record {
  place = sym (more_below s.place p) i;
  window = window_after s.window b;
  begun = s.begun;
  offset = s.offset;
  count = sym (more_below s.count c) i;
  last = pick b (sym (more_below s.count c) i) s.last;
  «before» = pick b s.last s.«before»;
}

after_more : (s : Stream) (b : Bool) (bits : List Bool) → after (one_after s b) bits ≡ after s (b ∷ bits)
after_more s b bits =
    let p : s.place + 1 + length bits ≡ s.place + suc (length bits) = omega arith in
    let c : s.count + 1 + length bits ≡ s.count + suc (length bits) = omega arith in
    λ i. record {
      place = p i;
      window = windows (window_after s.window b) bits;
      begun = s.begun;
      offset = s.offset;
      count = c i;
      last = last_after (s.count + 1) (pick b (s.count + 1) s.last) bits;
      «before» = before_after (s.count + 1) (pick b (s.count + 1) s.last) (pick b s.last s.«before») bits;
    }

ran_quiet : (s : Stream) (bits : List Bool) → Quiet s.window bits → s.place + length bits < 18446744073709551616 → s.count + length bits < 18446744073709551616
    → ran_from s bits ≡ after s bits
ran_quiet s [] q p c = after_none s
ran_quiet s (b ∷ bits) q p c =
    let is : stream_after s b ≡ one_after s b = went s b q.0 ∙ longer_one s b (omega (arith, p)) (omega (arith, c)) in
    ap (λ (t : Stream). ran_from t bits) is ∙ ran_quiet (one_after s b) bits q.1 (omega (arith, p)) (omega (arith, c)) ∙ after_more s b bits

-- and what the buffer holds
first_kept : (s : Stream) (b : Bool) (p : List ℕ) → (window_after s.window b ≡ 16 → ⊥) → s.count < 8 * length p → kept_after s b p ≡ bytes_with p s.count (as_bit b ∷ [])
first_kept s b p q l =
    stayed s b q p ∙ ap (λ (t : Bool). pick t (bytes_with p s.count (bits_of 1 (bit_number b))) p) (lt-ltb s.count (8 * length p) l)
    ∙ ap (bytes_with p s.count) (one_bit b)

kept_quiet : (s : Stream) (b : Bool) (bits : List Bool) (p : List ℕ) → Quiet s.window (b ∷ bits) → s.count + suc (length bits) ≤ 8 * length p
    → s.count + suc (length bits) < 18446744073709551616 → kept_from s (b ∷ bits) p ≡ bytes_with p s.count (map as_bit (b ∷ bits))
kept_quiet s b [] p q r c = first_kept s b p q.0 (omega (arith, r))
kept_quiet s b (d ∷ bits) p q r c =
    let n : (stream_after s b).count ≡ s.count + 1 = ap (λ (t : Stream). t.count) (went s b q.0) ∙ sym (more_below s.count (omega (arith, c))) in
    let w = bytes_with p s.count (as_bit b ∷ []) in
    let one : s.count + 1 ≤ 8 * length p = omega (arith, r) in
    let l : length w ≡ length p = length_written p s.count (as_bit b ∷ []) one in
    ap (λ (x : List ℕ). kept_from (stream_after s b) (d ∷ bits) x) (first_kept s b p q.0 (omega (arith, r)))
    ∙ kept_quiet (stream_after s b) d bits w (quiet_on s b (d ∷ bits) q) (omega (arith, r, n, l)) (omega (arith, c, n))
    ∙ ap (λ (k : ℕ). bytes_with w k (map as_bit (d ∷ bits))) n
    ∙ written_more p s.count (as_bit b ∷ []) one (map as_bit (d ∷ bits))

-- ---- a byte
bit_number_lem : (n : ℕ) → n < 2 → bit_number (is_one (bit_of n)) ≡ n
bit_number_lem zero l = refl
bit_number_lem (suc zero) l = refl
bit_number_lem (suc (suc n)) l = absurd (omega (arith, l))

bits_back : (l : List Bit) → map as_bit (map is_one l) ≡ l
bits_back [] = refl
bits_back (bit0 ∷ l) = ap (λ (m : List Bit). bit0 ∷ m) (bits_back l)
bits_back (bit1 ∷ l) = ap (λ (m : List Bit). bit1 ∷ m) (bits_back l)

-- the windows within a byte: what stood before it is at least nine, so none is the start code's sixteen
module _ (w byte : ℕ) (busy : 8 < w % 4096) (small : byte < 256) where
  abbrev bit : ℕ → Bool
  bit power = is_one (bit_of (byte / power % 2))

  is_bit : (power : ℕ) → bit_number (bit power) ≡ byte / power % 2
  is_bit power = bit_number_lem (byte / power % 2) (mod-lt (byte / power) (lit< tt))

  window1 : window_after w (bit 128) ≡ w % 524288 * 2 + byte / 128
  window1 = omega (arith, is_bit 128, small)

  window2 : window_after (window_after w (bit 128)) (bit 64) ≡ w % 262144 * 4 + byte / 64
  window2 = omega (arith, is_bit 64, window1, small)

  abbrev after2 : ℕ
  after2 = window_after (window_after w (bit 128)) (bit 64)

  window3 : window_after after2 (bit 32) ≡ w % 131072 * 8 + byte / 32
  window3 = omega (arith, is_bit 32, window2, small)

  window4 : window_after (window_after after2 (bit 32)) (bit 16) ≡ w % 65536 * 16 + byte / 16
  window4 = omega (arith, is_bit 16, window3, small)

  abbrev after4 : ℕ
  after4 = window_after (window_after after2 (bit 32)) (bit 16)

  window5 : window_after after4 (bit 8) ≡ w % 32768 * 32 + byte / 8
  window5 = omega (arith, is_bit 8, window4, small)

  window6 : window_after (window_after after4 (bit 8)) (bit 4) ≡ w % 16384 * 64 + byte / 4
  window6 = omega (arith, is_bit 4, window5, small)

  abbrev after6 : ℕ
  after6 = window_after (window_after after4 (bit 8)) (bit 4)

  window7 : window_after after6 (bit 2) ≡ w % 8192 * 128 + byte / 2
  window7 = omega (arith, is_bit 2, window6, small)

  window8 : windows w (bits_of_number 8 byte) ≡ w % 4096 * 256 + byte
  window8 = omega (arith, is_bit 1, window7, small)

  quiet_byte : Quiet w (bits_of_number 8 byte)
  quiet_byte =
      let far : Quiet after4 (bit 8 ∷ bit 4 ∷ bit 2 ∷ bit 1 ∷ []) =
      ((λ e. omega (arith, e, window5, busy)), ((λ e. omega (arith, e, window6, busy)), ((λ e. omega (arith, e, window7, busy)), ((λ e. omega (arith, e, window8, busy)), tt)))) in
      ((λ e. omega (arith, e, window1, busy)), ((λ e. omega (arith, e, window2, busy)), ((λ e. omega (arith, e, window3, busy)), ((λ e. omega (arith, e, window4, busy)), far))))

-- ---- a stream's bytes
pub bits_end : (bytes : List ℕ) (at : ℕ) → length bytes ≤ at / 8 → bits_on bytes at ≡ []
bits_end bytes at l = let past : 8 * length bytes ≤ at = omega (arith, l) in ap (map is_one) (left_none bytes (8 * length bytes) at past)

pub bits_more : (bytes : List ℕ) (at : ℕ) → at < 8 * length bytes → bits_on bytes at ≡ is_one (bit_at bytes at) ∷ bits_on bytes (at + 1)
bits_more bytes at l = ap (map is_one) (left_more bytes (8 * length bytes) at l)

bits_byte : (bytes : List ℕ) (i : ℕ) → i < length bytes → bits_on bytes (i * 8) ≡ bits_of_number 8 (get_or bytes i 0) ++ bits_on bytes ((i + 1) * 8)
bits_byte bytes i l =
    let n = 8 * length bytes in
    let most : 8 ≤ 8 = omega arith in
    let split : n - i * 8 ≡ 8 + (n - (i + 1) * 8) = omega (arith, l) in
    let there : i * 8 + 8 ≡ (i + 1) * 8 = omega arith in
    ap (λ (k : ℕ). map is_one (bits_from bytes (i * 8) k)) split
    ∙ ap (map is_one) (bits_split bytes (i * 8) 8 (n - (i + 1) * 8) ∙ (λ j. byte_bits bytes i (i * 8) 8 most refl j ++ bits_from bytes (there j) (n - (i + 1) * 8)))
    ∙ map-append is_one (bits_of 8 (get_or bytes i 0)) (bits_on_of n)
  where
    bits_on_of : ℕ → List Bit
    bits_on_of n = bits_from bytes ((i + 1) * 8) (n - (i + 1) * 8)

pub bit_is : (bytes : List ℕ) (at : ℕ) → eqb (get_or bytes (at / 8) 0 / 2 ^ (7 - at % 8) % 2) 1 ≡ is_one (bit_at bytes at)
unfolding bit_at bit_num
bit_is bytes at = go (get_or bytes (at / 8) 0 / 2 ^ (7 - at % 8) % 2) (mod-lt (get_or bytes (at / 8) 0 / 2 ^ (7 - at % 8)) (lit< tt))
  where
    go : (n : ℕ) → n < 2 → eqb n 1 ≡ is_one (bit_of n)
    go zero l = refl
    go (suc zero) l = refl
    go (suc (suc n)) l = absurd (omega (arith, l))

-- ---- on and on
pub reaches_here : (bytes : List ℕ) (s : Stream) (at : ℕ) (p : List ℕ) → Reaches bytes s at p s at p
reaches_here bytes s at p = record { onward = omega arith; state = refl; place = refl; kept = refl; long = refl }

module _ {bytes : List ℕ} {s : Stream} {at : ℕ} {p : List ℕ} {t : Stream} {there : ℕ} {left : List ℕ} (h : Reaches bytes s at p t there left) where
  pub reaches_more : {u : Stream} {far : ℕ} {last : List ℕ} → Reaches bytes t there left u far last → Reaches bytes s at p u far last
  reaches_more g = record {
    onward = omega (arith, h.onward, g.onward);
    state = h.state ∙ g.state;
    place = h.place ∙ g.place;
    kept = h.kept ∙ g.kept;
    long = g.long ∙ h.long;
  }

  -- what comes of the bits up to the next start code, where none are left of them
  pub reaches_all : until_start t (bits_on bytes there) ≡ []
      → (t ≡ ran_from s (until_start s (bits_on bytes at))) × ((there ≡ at + length (until_start s (bits_on bytes at))) × (left ≡ kept_from s (until_start s (bits_on bytes at)) p))
  reaches_all e = (sym (h.state ∙ ap (ran_from t) e), (omega (arith, h.place, ap length e), sym (h.kept ∙ ap (λ (l : List Bool). kept_from t l left) e)))

pub reaches_from : {bytes : List ℕ} {s : Stream} (at : ℕ) {p : List ℕ} {t : Stream} {there : ℕ} {left : List ℕ} → at % 8 ≡ 0
    → Reaches bytes s (at / 8 * 8) p t there left → Reaches bytes s at p t there left
reaches_from {bytes} {s} at {p} {t} {there} {left} z h =
    let e : at / 8 * 8 ≡ at = omega (arith, z) in
    subst (λ (k : ℕ). Reaches bytes s k p t there left) e h

-- a bit leaves the buffer as long as it is
pick_long : (t : Bool) (x y p : List ℕ) → (t ≡ true → length x ≡ length p) → length y ≡ length p → length (pick t x y) ≡ length p
pick_long true x y p a b = a refl
pick_long false x y p a b = b

kept_long : (s : Stream) (b : Bool) (p : List ℕ) → length (kept_after s b p) ≡ length p
unfolding kept_after
kept_long s b p =
    pick_long (starts_at s b) (beginning p) (extended s.count b p) p
    (λ e. pick_long (leb 20 (8 * length p)) (bytes_with p 0 (bits_of 20 16)) p p (λ l. length_written p 0 (bits_of 20 16) (leb→le 20 (8 * length p) (true-T (leb 20 (8 * length p)) l))) refl)
    (pick_long (ltb s.count (8 * length p)) (bytes_with p s.count (bits_of 1 (bit_number b))) p p (λ l. length_written p s.count (bits_of 1 (bit_number b)) (omega (arith, ltb-true s.count (8 * length p) l))) refl)

pub none_end : (bytes : List ℕ) (t : Stream) (there : ℕ) → length bytes ≤ there / 8 → until_start t (bits_on bytes there) ≡ []
none_end bytes t there l = ap (until_start t) (bits_end bytes there l)

module _ (bytes : List ℕ) (t : Stream) (there : ℕ) (l : there < 8 * length bytes) {b : Bool} (is : b ≡ is_one (bit_at bytes there)) where
  here : bits_on bytes there ≡ b ∷ bits_on bytes (there + 1)
  here = bits_more bytes there l ∙ ap (λ (x : Bool). x ∷ bits_on bytes (there + 1)) (sym is)

  pub none_start : {r : Bool} → r ≡ starts_at t b → r ≡ true → until_start t (bits_on bytes there) ≡ []
  none_start e now = ap (until_start t) here ∙ ap (λ (x : Bool). pick x [] (b ∷ until_start (stream_after t b) (bits_on bytes (there + 1)))) (sym e ∙ now)

  -- one bit on
  pub reaches_bit : {r : Bool} {u : Stream} {p left : List ℕ} → r ≡ starts_at t b → r ≡ false → u ≡ stream_after t b → left ≡ kept_after t b p
      → Reaches bytes t there p u (there + 1) left
  reaches_bit {r} {u} {p} {left} e now v k =
      let rest = bits_on bytes (there + 1) in
      let on : until_start t (bits_on bytes there) ≡ b ∷ until_start u rest =
      ap (until_start t) here ∙ ap (λ (x : Bool). pick x [] (b ∷ until_start (stream_after t b) rest)) (sym e ∙ now) ∙ ap (λ (x : Stream). b ∷ until_start x rest) (sym v) in
      record {
        onward = omega arith;
        state = ap (ran_from t) on ∙ ap (λ (x : Stream). ran_from x (until_start u rest)) (sym v);
        place = omega (arith, ap length on);
        kept = ap (λ (l : List Bool). kept_from t l p) on ∙ (λ i. kept_from (sym v i) (until_start u rest) (sym k i));
        long = ap length k ∙ kept_long t b p;
      }

-- ---- eight bits on
module _ {s : Stream} {room byte : ℕ} (c : Calm s room) (most : room ≤ 1152921504606846976) (small : byte < 256) where
  abbrev byte_bits_of : List Bool
  byte_bits_of = bits_of_number 8 byte

  quiet : Quiet s.window byte_bits_of
  quiet = quiet_byte s.window byte c.busy small

  pub longer_byte : {last earlier : ℕ} → last ≡ last_after s.count s.last byte_bits_of → earlier ≡ before_after s.count s.last s.«before» byte_bits_of
      → record { place = s.place + 8; window = s.window % 4096 * 256 + byte; begun = s.begun; offset = s.offset; count = s.count + 8; last = last; «before» = earlier } ≡ ran_from s byte_bits_of
  longer_byte {last} {earlier} l e =
      (λ i. record {
        place = s.place + 8;
        window = sym (window8 s.window byte c.busy small) i;
        begun = s.begun;
        offset = s.offset;
        count = s.count + 8;
        last = l i;
        «before» = e i;
      })
      ∙ sym (ran_quiet s byte_bits_of quiet (omega (arith, c.low)) (omega (arith, c.fits, most)))

  pub kept_byte : (p : List ℕ) → room ≤ length p → kept_from s byte_bits_of p ≡ bytes_with p s.count (bits_of 8 byte)
  kept_byte p r =
      kept_quiet s (is_one (bit_of (byte / 2 ^ 7 % 2))) (bits_of_number 7 byte) p quiet (omega (arith, c.fits, r)) (omega (arith, c.fits, most)) ∙ ap (bytes_with p s.count) (bits_back (bits_of 8 byte))

  pub reaches_byte : (bytes : List ℕ) (i : ℕ) {u : Stream} {p left : List ℕ} → i < length bytes → byte ≡ get_or bytes i 0 → room ≤ length p
      → u ≡ ran_from s byte_bits_of → left ≡ bytes_with p s.count (bits_of 8 byte) → Reaches bytes s (i * 8) p u ((i + 1) * 8) left
  reaches_byte bytes i {u} {p} {left} l is r v k =
      let rest = bits_on bytes ((i + 1) * 8) in
      let on : until_start s (bits_on bytes (i * 8)) ≡ byte_bits_of ++ until_start u rest =
      ap (until_start s) (bits_byte bytes i l ∙ ap (λ (n : ℕ). bits_of_number 8 n ++ rest) (sym is)) ∙ until_quiet s byte_bits_of rest quiet
      ∙ ap (λ (x : Stream). byte_bits_of ++ until_start x rest) (sym v) in
      let kept_is : left ≡ kept_from s byte_bits_of p = k ∙ sym (kept_byte p r) in
      let room8 : s.count + 8 ≤ 8 * length p = omega (arith, c.fits, r) in
      record {
        onward = omega arith;
        state = ap (ran_from s) on ∙ ran_append s byte_bits_of (until_start u rest) ∙ ap (λ (x : Stream). ran_from x (until_start u rest)) (sym v);
        place = omega (arith, ap length on, length-append byte_bits_of (until_start u rest));
        kept = ap (λ (x : List Bool). kept_from s x p) on ∙ kept_append s byte_bits_of (until_start u rest) p ∙ (λ j. kept_from (sym v j) (until_start u rest) (sym kept_is j));
        long = ap length k ∙ length_written p s.count (bits_of 8 byte) room8;
      }

-- ---- a byte in the buffer
module _ (s : List ℕ) (at byte : ℕ) (bytes : (i : ℕ) → get_or s i 0 < 256) (small : byte < 256) (room : at + 8 ≤ 8 * length s) where
  abbrev first_byte : ℕ
  first_byte = get_or s (at / 8) 0

  byte_fits : FieldFits 8 byte
  byte_fits = record { some = lit≤ tt; short = lit≤ tt; small = small }

  pub put_whole : at % 8 ≡ 0 → set s (at / 8) byte ≡ bytes_with s at (bits_of 8 byte)
  put_whole z =
      let here : at / 8 ≡ at / 8 + 0 = omega arith in
      let many : 1 ≡ (at % 8 + 8 + 7) / 8 - 0 = omega (arith, z) in
      let past : 0 ≡ (at % 8 + 8 + 7) / 8 * 8 - (at % 8 + 8) = omega (arith, z) in
      let is : byte ≡ (((first_byte / 256 * 256) % 4294967296 + byte) * 1) % 4294967296 / 1 % 256 = omega (arith, small, bytes (at / 8)) in
      (λ i. set s (here i) (is i))
      ∙ (λ i. sets s (at / 8 + 0) (bytes_in (many i) ((((first_byte / 2 ^ (8 - sym z i) * 2 ^ 8) % 2 ^ 32 + byte) * 2 ^ past i) % 2 ^ 32)))
      ∙ stored_none s at byte_fits bytes room

  abbrev parted : ℕ
  parted = (((first_byte / 2 ^ (8 - at % 8) * 2 ^ 8) % 2 ^ 32 + byte) * 2 ^ (8 - at % 8)) % 2 ^ 32

  pub put_parted : (at % 8 ≡ 0 → ⊥) → set (set s (at / 8) (parted / 2 ^ 8 % 256)) (at / 8 + 1) (parted % 256) ≡ bytes_with s at (bits_of 8 byte)
  put_parted z =
      let some : 0 < at % 8 = omega (arith, z) in
      let here : at / 8 ≡ at / 8 + 0 = omega arith in
      let next : at / 8 + 1 ≡ suc (at / 8 + 0) = omega arith in
      let many : 2 ≡ (at % 8 + 8 + 7) / 8 - 0 = omega (arith, some) in
      let past : 8 - at % 8 ≡ (at % 8 + 8 + 7) / 8 * 8 - (at % 8 + 8) = omega (arith, some) in
      let low : parted % 256 ≡ parted / 1 % 256 = omega arith in
      (λ i. set (set s (here i) (parted / 2 ^ 8 % 256)) (next i) (low i))
      ∙ (λ i. sets s (at / 8 + 0) (bytes_in (many i) ((((first_byte / 2 ^ (8 - at % 8) * 2 ^ 8) % 2 ^ 32 + byte) * 2 ^ past i) % 2 ^ 32)))
      ∙ stored_none s at byte_fits bytes room
