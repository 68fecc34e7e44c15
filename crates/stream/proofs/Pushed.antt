-- A bit more, over plain variables. Assumes nothing.
use Prim.Native.Nat.{ℕ, ◌+◌, ◌*◌, ◌%◌, ◌^◌, ◌/◌, ◌<◌, ◌≤◌}
use native.Mathlib.Omega.{arith}
use borrow.Author.Tests.{lt-ltb, le-ltb, le-leb, lt-leb}
use mathlib.Core.Path.{◌≡◌, sym, ap, ◌∙◌}
use mathlib.Core.Bool.{Bool, true, false}
use mathlib.Core.List.{List}
use lib.ListN.{length}
use Rattle.laws.specs.Choice.{pick}
use Rattle.bits.specs.Bits.{bits_of}
use Rattle.bits.specs.Write.{bytes_with}
use Rattle.stream.specs.declared.Stream.{Stream}
use Rattle.stream.specs.Stream.{bit_number, one_more, window_after, starts_at, offset_of, begun_by, longer_by, stream_after, beginning, extended, kept_after}

pub more_last : (n : ℕ) → 18446744073709551615 ≤ n → n ≡ one_more n
more_last n l = sym (ap (λ (t : Bool). pick t (n + 1) n) (le-ltb n 18446744073709551615 l))

pub window_one : (window : ℕ) {bit : Bool} → bit ≡ true → window % 524288 * 2 + 1 ≡ window_after window bit
window_one window e = sym (ap (λ (t : Bool). window_after window t) e)

pub window_zero : (window : ℕ) {bit : Bool} → bit ≡ false → window % 524288 * 2 ≡ window_after window bit
window_zero window e =
    let none : window % 524288 * 2 ≡ window % 524288 * 2 + 0 = omega arith in
    none ∙ sym (ap (λ (t : Bool). window_after window t) e)

pub bit_small : {n : ℕ} (bit : Bool) → n ≡ bit_number bit → n < 2 ^ 1
bit_small {n} bit e = go bit e
  where
    go : (bit : Bool) → n ≡ bit_number bit → n < 2 ^ 1
    go true e = omega (arith, e)
    go false e = omega (arith, e)

-- ---- what has gone by
module _ (s : Stream) (bit : Bool) {place window : ℕ} (p : place ≡ one_more s.place) (w : window ≡ window_after s.window bit) where
  pub begun : {offset : ℕ} → offset ≡ offset_of place
      → record { place = place; window = window; begun = true; offset = offset; count = 20; last = 16; «before» = 0 } ≡ begun_by s bit
  begun o = λ i. record { place = p i; window = w i; begun = true; offset = (o ∙ ap offset_of p) i; count = 20; last = 16; «before» = 0 }

  module _ {count : ℕ} (c : count ≡ one_more s.count) where
    pub longer : {t : Bool} → bit ≡ t
        → record { place = place; window = window; begun = s.begun; offset = s.offset; count = count; last = pick t count s.last; «before» = pick t s.last s.«before» } ≡ longer_by s bit
    longer e = λ i. record {
      place = p i;
      window = w i;
      begun = s.begun;
      offset = s.offset;
      count = c i;
      last = pick (sym e i) (c i) s.last;
      «before» = pick (sym e i) s.last s.«before»;
    }

-- ---- the buffer
pub begins_in : (bytes : List ℕ) {left : List ℕ} → 3 ≤ length bytes → left ≡ bytes_with bytes 0 (bits_of 20 16) → left ≡ beginning bytes
begins_in bytes l e =
    let room : 20 ≤ 8 * length bytes = omega arith in
    e ∙ sym (ap (λ (t : Bool). pick t (bytes_with bytes 0 (bits_of 20 16)) bytes) (le-leb 20 (8 * length bytes) room))

pub begins_out : (bytes : List ℕ) → length bytes < 3 → bytes ≡ beginning bytes
begins_out bytes l =
    let none : 8 * length bytes < 20 = omega arith in
    sym (ap (λ (t : Bool). pick t (bytes_with bytes 0 (bits_of 20 16)) bytes) (lt-leb 20 (8 * length bytes) none))

pub extends_in : (bytes : List ℕ) (count : ℕ) (bit : Bool) {value : ℕ} {left : List ℕ} → count / 8 < length bytes → value ≡ bit_number bit
    → left ≡ bytes_with bytes count (bits_of 1 value) → left ≡ extended count bit bytes
extends_in bytes count bit l v e =
    let room : count < 8 * length bytes = omega arith in
    e ∙ ap (λ (n : ℕ). bytes_with bytes count (bits_of 1 n)) v
    ∙ sym (ap (λ (t : Bool). pick t (bytes_with bytes count (bits_of 1 (bit_number bit))) bytes) (lt-ltb count (8 * length bytes) room))

pub extends_out : (bytes : List ℕ) (count : ℕ) (bit : Bool) → length bytes ≤ count / 8 → bytes ≡ extended count bit bytes
extends_out bytes count bit l =
    let none : 8 * length bytes ≤ count = omega arith in
    sym (ap (λ (t : Bool). pick t (bytes_with bytes count (bits_of 1 (bit_number bit))) bytes) (le-ltb count (8 * length bytes) none))

-- ---- both
module _ (s : Stream) (bit : Bool) {started : Bool} (e : started ≡ starts_at s bit) where
  pub pushed_start : {r : Stream} (bytes : List ℕ) {left : List ℕ} → started ≡ true → r ≡ begun_by s bit → left ≡ beginning bytes → (r ≡ stream_after s bit) × (left ≡ kept_after s bit bytes)
  unfolding stream_after kept_after
  pushed_start bytes t a b = (
    a ∙ sym (ap (λ (x : Bool). pick x (begun_by s bit) (longer_by s bit)) (sym e ∙ t)),
    b ∙ sym (ap (λ (x : Bool). pick x (beginning bytes) (extended s.count bit bytes)) (sym e ∙ t)),
  )

  pub pushed_on : {r : Stream} (bytes : List ℕ) {left : List ℕ} → started ≡ false → r ≡ longer_by s bit → left ≡ extended s.count bit bytes → (r ≡ stream_after s bit) × (left ≡ kept_after s bit bytes)
  unfolding stream_after kept_after
  pushed_on bytes t a b = (
    a ∙ sym (ap (λ (x : Bool). pick x (begun_by s bit) (longer_by s bit)) (sym e ∙ t)),
    b ∙ sym (ap (λ (x : Bool). pick x (beginning bytes) (extended s.count bit bytes)) (sym e ∙ t)),
  )
