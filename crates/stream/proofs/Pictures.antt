-- After any bits the state is the one that the last picture gives, and the buffer holds its bits. Assumes nothing.
use mathlib.Core.Path.{◌≡◌, refl, sym, ap, ◌∙◌}
use mathlib.Core.Logic.{◌⊎◌, inl, inr, ◌↔◌}
use mathlib.Core.Bool.{Bool, true, false}
use mathlib.Core.List.{List, [], ◌∷◌, ◌++◌, map, append-nil, map-append}
use Prim.Native.Nat.{ℕ, ◌+◌, ◌-◌, ◌*◌, ◌/◌, ◌<◌, ◌≤◌, min}
use native.Mathlib.Omega.{arith}
use borrow.Author.Tests.{ltb-true, ltb-false, le-leb, eqb-true, eqb-false, eq-eqb}
use lib.Dec.{ltb}
use lib.ListN.{length, take, length-append, length-map}
use lib.Seq.{length-take-le, take-take, take-length, append_snoc, take-append-le, take_all, take-nil}
use Rattle.laws.specs.Choice.{pick}
use Rattle.laws.proofs.Rows.{lt-or-ge}
use Rattle.bits.specs.Bits.{Bit, bits_of, bits_in, bits_from, source}
use Rattle.bits.proofs.Source.{source_left}
use Rattle.bits.specs.Write.{bytes_with}
use Rattle.bits.proofs.Write.{length_written, written_bits}
use Rattle.stream.specs.declared.Stream.{Stream}
use Rattle.stream.specs.Stream.{bit_number, one_more, fresh_stream, window_after, starts_at, offset_of, begun_by, longer_by, stream_after, beginning, extended, kept_after, ran_from, kept_from}
use Rattle.stream.proofs.StreamLaws.{more_below, one_bit}
use Rattle.stream.specs.Last.{start_code, Last, none, found, last_picture, Ends, Says, last_one, before_last, longer}
use Rattle.stream.proofs.Last.{last_says, ends_here, goes_on, length_snoc, last_one_lem, last_zero, before_one, before_zero, code_length, code_last, code_before, begins-length, before_code, almost, next_is, picture_is}
use Rattle.stream.specs.Window.{number, last_twenty}
use Rattle.stream.proofs.Window.{window_more, ends_with, with_end}
use Rattle.stream.specs.Pictures.{earlier_of, own_of, going, told, as_bit, Next, state_of, starting, kept_bytes, ran, is_found, PicturesKnown, PictureKept, PictureEnded}

abbrev current : List Bool → List Bool
current seen = own_of seen (last_picture seen)

-- ---- a bit more
more_length : (bits : List Bool) (b : Bool) → length bits < 18446744073709551615 → one_more (length bits) ≡ length (bits ++ (b ∷ []))
more_length bits b l = sym (more_below (length bits) l) ∙ omega (arith, length_snoc bits b)

own_longer : (seen : List Bool) (b : Bool) (l : Last) → own_of seen l ++ (b ∷ []) ≡ own_of (seen ++ (b ∷ [])) (longer b l)
own_longer seen b none = refl
own_longer seen b (found earlier picture) = refl

earlier_longer : (b : Bool) (l : Last) → earlier_of l ≡ earlier_of (longer b l)
earlier_longer b none = refl
earlier_longer b (found earlier picture) = refl

found-longer : (b : Bool) (l : Last) → is_found l ≡ is_found (longer b l)
found-longer b none = refl
found-longer b (found earlier picture) = refl

own_le : (seen : List Bool) (l : Last) → Says seen l → length (own_of seen l) ≤ length seen
own_le seen none s = omega arith
own_le seen (found earlier picture) s = omega (arith, ap length s.all, length-append earlier picture)

-- the bits that the state has counted, with one more
last_more : (own : List Bool) (b : Bool) → length own < 18446744073709551615 → pick b (one_more (length own)) (last_one own) ≡ last_one (own ++ (b ∷ []))
last_more own true l = more_length own true l ∙ length_snoc own true ∙ sym (last_one_lem own)
last_more own false l = sym (last_zero own)

before_more : (own : List Bool) (b : Bool) → pick b (last_one own) (before_last own) ≡ before_last (own ++ (b ∷ []))
before_more own true = sym (before_one own)
before_more own false = sym (before_zero own)

module _ (seen : List Bool) (b : Bool) (small : length seen < 18446744073709551615) where
  begun_told : (l : Last) (earlier : List Bool) → seen ++ (b ∷ []) ≡ earlier ++ start_code → begun_by (told seen l) b ≡ told (seen ++ (b ∷ [])) (found earlier start_code)
  begun_told l earlier e = λ i. record {
    place = more_length seen b small i;
    window = window_more seen b i;
    begun = true;
    offset = place_of_lem i;
    count = sym code_length i;
    last = sym code_last i;
    «before» = sym code_before i;
  }
    where
      place_of_lem : offset_of (one_more (length seen)) ≡ length earlier / 8
      place_of_lem =
          let n : length (seen ++ (b ∷ [])) - 20 ≡ length earlier = omega (arith, ap length e, length-append earlier start_code, code_length) in
          ap offset_of (more_length seen b small) ∙ ap (λ (k : ℕ). k / 8) n

  longer-told : (l : Last) → length (own_of seen l) ≤ length seen → longer_by (told seen l) b ≡ told (seen ++ (b ∷ [])) (longer b l)
  longer-told l own = λ i. record {
    place = more_length seen b small i;
    window = window_more seen b i;
    begun = found-longer b l i;
    offset = length (earlier_longer b l i) / 8;
    count = (more_length (own_of seen l) b less ∙ ap length (own_longer seen b l)) i;
    last = (last_more (own_of seen l) b less ∙ ap last_one (own_longer seen b l)) i;
    «before» = (before_more (own_of seen l) b ∙ ap before_last (own_longer seen b l)) i;
  }
    where
      less : length (own_of seen l) < 18446744073709551615
      less = omega (arith, own, small)

pub next : (seen : List Bool) (b : Bool) → Next seen b
next seen b = go (starts_at (state_of seen) b) refl
  where
    go : (t : Bool) → starts_at (state_of seen) b ≡ t → Next seen b
    go true e =
        let ends = ends_with (seen ++ (b ∷ [])) (sym (window_more seen b) ∙ eqb-true (window_after (number (last_twenty seen)) b) 16 e) in
        starting ends.0 e ends.1
    go false e = going e (goes_on seen b (λ earlier same. eqb-false (window_after (number (last_twenty seen)) b) 16 e (window_more seen b ∙ with_end (seen ++ (b ∷ [])) earlier same)))

module _ (seen : List Bool) (b : Bool) (small : length seen < 18446744073709551615) where
  step : stream_after (state_of seen) b ≡ state_of (seen ++ (b ∷ []))
  unfolding stream_after
  step = go (next seen b)
    where
      go : Next seen b → pick (starts_at (state_of seen) b) (begun_by (state_of seen) b) (longer_by (state_of seen) b) ≡ state_of (seen ++ (b ∷ []))
      go (starting earlier t e) =
          ap (λ (x : Bool). pick x (begun_by (state_of seen) b) (longer_by (state_of seen) b)) t
          ∙ begun_told seen b small (last_picture seen) earlier e
          ∙ ap (told (seen ++ (b ∷ []))) (sym (ap last_picture e ∙ ends_here earlier))
      go (going t e) =
          ap (λ (x : Bool). pick x (begun_by (state_of seen) b) (longer_by (state_of seen) b)) t
          ∙ longer-told seen b small (last_picture seen) (own_le seen (last_picture seen) (last_says seen))
          ∙ ap (told (seen ++ (b ∷ []))) (sym e)

steps : (seen bits : List Bool) → length seen + length bits < 18446744073709551616 → ran_from (state_of seen) bits ≡ state_of (seen ++ bits)
steps seen [] l = ap state_of (sym (append-nil seen))
steps seen (b ∷ bits) l =
    let one : length seen < 18446744073709551615 = omega (arith, l) in
    let rest : length (seen ++ (b ∷ [])) + length bits < 18446744073709551616 = omega (arith, l, length_snoc seen b) in
    ap (λ (s : Stream). ran_from s bits) (step seen b one) ∙ steps (seen ++ (b ∷ [])) bits rest ∙ ap state_of (append_snoc seen b bits)

told_fresh : fresh_stream ≡ state_of []
unfolding last_picture number
told_fresh = refl

-- ---- the window, however many bits have gone by
window_after_lem : (s : Stream) (b : Bool) → (stream_after s b).window ≡ window_after s.window b
unfolding stream_after
window_after_lem s b = go (starts_at s b)
  where
    go : (t : Bool) → (pick t (begun_by s b) (longer_by s b)).window ≡ window_after s.window b
    go true = refl
    go false = refl

windows : (s : Stream) (seen bits : List Bool) → s.window ≡ number (last_twenty seen) → (ran_from s bits).window ≡ number (last_twenty (seen ++ bits))
windows s seen [] e = e ∙ ap (λ (l : List Bool). number (last_twenty l)) (sym (append-nil seen))
windows s seen (b ∷ bits) e =
    windows (stream_after s b) (seen ++ (b ∷ [])) bits (window_after_lem s b ∙ ap (λ (w : ℕ). window_after w b) e ∙ window_more seen b)
    ∙ ap (λ (l : List Bool). number (last_twenty l)) (append_snoc seen b bits)

-- ---- the buffer
-- n bytes that begin with these bits, as far as they reach
record Holds (n : ℕ) (bytes : List ℕ) (own : List Bool) : Type 0 where
  size : length bytes ≡ n
  first : bits_from bytes 0 (min (length own) (8 * n)) ≡ take (8 * n) (map as_bit own)

holds_none : (bytes : List ℕ) → Holds (length bytes) bytes []
unfolding bits_from
holds_none bytes = record {
  size = refl;
  first =
      let e : min 0 (8 * length bytes) ≡ 0 = omega arith in
      ap (bits_from bytes 0) e ∙ sym (take-nil (8 * length bytes));
}

code_bits : bits_of 20 16 ≡ map as_bit start_code
unfolding start_code
code_bits = refl

bits_none : (bytes : List ℕ) → bits_from bytes 0 0 ≡ []
unfolding bits_from
bits_none bytes = refl

holds_code : (n : ℕ) (bytes : List ℕ) → length bytes ≡ n → 20 ≤ 8 * n → Holds n (beginning bytes) start_code
holds_code n bytes l room =
    let fits : 20 ≤ 8 * length bytes = omega (arith, l, room) in
    let is : beginning bytes ≡ bytes_with bytes 0 (bits_of 20 16) = ap (λ (t : Bool). pick t (bytes_with bytes 0 (bits_of 20 16)) bytes) (le-leb 20 (8 * length bytes) fits) in
    let count : min (length start_code) (8 * n) ≡ 20 = omega (arith, code_length, room) in
    let whole : length (map as_bit start_code) ≤ 8 * n = omega (arith, length-map start_code as_bit, code_length, room) in
    record {
      size = ap length is ∙ length_written bytes 0 (bits_of 20 16) fits ∙ l;
      first =
          ap (bits_from (beginning bytes) 0) count ∙ ap (λ (s : List ℕ). bits_from s 0 20) is ∙ written_bits bytes 0 (bits_of 20 16) fits
          ∙ ap (λ (s : List Bit). s ++ bits_of 20 16) (bits_none bytes) ∙ code_bits ∙ sym (take_all (8 * n) (map as_bit start_code) whole);
    }

holds_more : (n : ℕ) (bytes : List ℕ) (own : List Bool) (b : Bool) → Holds n bytes own → Holds n (extended (length own) b bytes) (own ++ (b ∷ []))
holds_more n bytes own b h = go (ltb (length own) (8 * length bytes)) refl
  where
    more : map as_bit (own ++ (b ∷ [])) ≡ map as_bit own ++ (as_bit b ∷ [])
    more = map-append as_bit own (b ∷ [])

    go : (t : Bool) → ltb (length own) (8 * length bytes) ≡ t → Holds n (pick t (bytes_with bytes (length own) (bits_of 1 (bit_number b))) bytes) (own ++ (b ∷ []))
    go true e =
        let l : length own + length (bits_of 1 (bit_number b)) ≤ 8 * length bytes = omega (arith, ltb-true (length own) (8 * length bytes) e) in
        let before : min (length own) (8 * n) ≡ length own = omega (arith, l, h.size) in
        let count : min (length (own ++ (b ∷ []))) (8 * n) ≡ length own + 1 = omega (arith, l, h.size, length_snoc own b) in
        let all : length (map as_bit own) ≤ 8 * n = omega (arith, l, h.size, length-map own as_bit) in
        let fits : length (map as_bit (own ++ (b ∷ []))) ≤ 8 * n = omega (arith, l, h.size, length-map (own ++ (b ∷ [])) as_bit, length_snoc own b) in
        let was : bits_from bytes 0 (length own) ≡ map as_bit own = ap (bits_from bytes 0) (sym before) ∙ h.first ∙ take_all (8 * n) (map as_bit own) all in
        record {
          size = length_written bytes (length own) (bits_of 1 (bit_number b)) l ∙ h.size;
          first =
              ap (bits_from (bytes_with bytes (length own) (bits_of 1 (bit_number b))) 0) count ∙ written_bits bytes (length own) (bits_of 1 (bit_number b)) l
              ∙ ap (λ (s : List Bit). s ++ bits_of 1 (bit_number b)) was ∙ ap (λ (s : List Bit). map as_bit own ++ s) (one_bit b) ∙ sym more
              ∙ sym (take_all (8 * n) (map as_bit (own ++ (b ∷ []))) fits);
        }
    go false e =
        let l : 8 * length bytes ≤ length own = ltb-false (length own) (8 * length bytes) e in
        let count : min (length (own ++ (b ∷ []))) (8 * n) ≡ min (length own) (8 * n) = omega (arith, l, h.size, length_snoc own b) in
        let past : 8 * n ≤ length (map as_bit own) = omega (arith, l, h.size, length-map own as_bit) in
        record {
          size = h.size;
          first = ap (bits_from bytes 0) count ∙ h.first ∙ sym (ap (take (8 * n)) more ∙ take-append-le (8 * n) (map as_bit own) (as_bit b ∷ []) past);
        }

module _ (n : ℕ) (room : 20 ≤ 8 * n) where
  holds_step : (seen : List Bool) (b : Bool) (bytes : List ℕ) → Holds n bytes (current seen)
      → Holds n (kept_after (state_of seen) b bytes) (current (seen ++ (b ∷ [])))
  unfolding kept_after
  holds_step seen b bytes h = go (next seen b)
    where
      go : Next seen b → Holds n (pick (starts_at (state_of seen) b) (beginning bytes) (extended (length (current seen)) b bytes)) (current (seen ++ (b ∷ [])))
      go (starting earlier t e) = rw (t, ap last_picture e ∙ ends_here earlier) (holds_code n bytes h.size room)
      go (going t e) = rw (t, e, ← own_longer seen b (last_picture seen)) (holds_more n bytes (current seen) b h)

  holds_steps : (seen bits : List Bool) (bytes : List ℕ) → length seen + length bits < 18446744073709551616 → Holds n bytes (current seen)
      → Holds n (kept_from (state_of seen) bits bytes) (current (seen ++ bits))
  holds_steps seen [] bytes l h = rw (append-nil seen) h
  holds_steps seen (b ∷ bits) bytes l h =
      let one : length seen < 18446744073709551615 = omega (arith, l) in
      let rest : length (seen ++ (b ∷ [])) + length bits < 18446744073709551616 = omega (arith, l, length_snoc seen b) in
      rw (step seen b one, ← append_snoc seen b bits) (holds_steps (seen ++ (b ∷ [])) bits (kept_after (state_of seen) b bytes) rest (holds_step seen b bytes h))

-- and the buffer holds the picture without what follows it
held_before : (s : List ℕ) (room : ℕ) (whole more : List Bit) → source s (min (length (whole ++ more)) room) ≡ take room (whole ++ more)
    → source s (min (length whole) room) ≡ take room whole
held_before s room whole more e =
    let k = min (length whole) room in
    let less : k ≤ min (length (whole ++ more)) room = omega (arith, length-append whole more) in
    let in_room : k ≤ room = omega arith in
    let in_whole : k ≤ length whole = omega arith in
    sym (take-take k (min (length (whole ++ more)) room) (bits_in s) less) ∙ ap (take k) e ∙ take-take k room (whole ++ more) in_room ∙ take-append-le k whole more in_whole ∙ go (lt-or-ge (length whole) room)
  where
    go : (length whole < room) ⊎ (room ≤ length whole) → take (min (length whole) room) whole ≡ take room whole
    go (inl l) =
        let all : min (length whole) room ≡ length whole = omega (arith, l) in
        let fits : length whole ≤ room = omega (arith, l) in
        ap (λ (i : ℕ). take i whole) all ∙ take-length whole ∙ sym (take_all room whole fits)
    go (inr l) =
        let full : min (length whole) room ≡ room = omega (arith, l) in
        ap (λ (i : ℕ). take i whole) full

held_whole : (s : List ℕ) (room : ℕ) (picture whole more : List Bool) → picture ≡ whole ++ more → source s (min (length picture) room) ≡ take room (map as_bit picture)
    → source s (min (length whole) room) ≡ take room (map as_bit whole)
held_whole s room picture whole more e h =
    let bits : map as_bit picture ≡ map as_bit whole ++ map as_bit more = ap (map as_bit) e ∙ map-append as_bit whole more in
    let n : length (map as_bit whole ++ map as_bit more) ≡ length picture = sym (ap length bits) ∙ length-map picture as_bit in
    ap (λ (k : ℕ). source s (min k room)) (sym (length-map whole as_bit))
    ∙ held_before s room (map as_bit whole) (map as_bit more) (ap (λ (k : ℕ). source s (min k room)) n ∙ h ∙ ap (take room) bits)

-- ---- the theorems
-- the window is the last 20 bits
pub window : (seen : List Bool) → (ran seen).window ≡ number (last_twenty seen)
window seen = windows fresh_stream [] seen (ap (λ (s : Stream). s.window) told_fresh)

-- and a picture starts with the next bit exactly where that ends a start code
pub starts : (seen : List Bool) (b : Bool) → (starts_at (ran seen) b ≡ true) ↔ ((earlier : List Bool) × (seen ++ (b ∷ []) ≡ earlier ++ start_code))
starts seen b = (
  λ e. ends_with (seen ++ (b ∷ [])) (sym (now seen b) ∙ eqb-true (window_after (ran seen).window b) 16 e),
  λ ends. eq-eqb (window_after (ran seen).window b) 16 (now seen b ∙ with_end (seen ++ (b ∷ [])) ends.0 ends.1),
)
  where
    now : (seen : List Bool) (b : Bool) → window_after (ran seen).window b ≡ number (last_twenty (seen ++ (b ∷ [])))
    now seen b = ap (λ (w : ℕ). window_after w b) (window seen) ∙ window_more seen b

pub pictures : PicturesKnown
pictures seen l = ap (λ (s : Stream). ran_from s seen) told_fresh ∙ steps [] seen (omega (arith, l))

pub picture_kept : PictureKept
unfolding last_picture
picture_kept seen bytes earlier picture l room e =
    let n = length bytes in
    let held : Holds n (kept_from fresh_stream seen bytes) (current seen) =
    rw told_fresh (holds_steps n room [] seen bytes (omega (arith, l)) (holds_none bytes)) in
    let h : Holds n (kept_bytes seen bytes) picture = rw e at held in
    let k = min (length picture) (8 * n) in
    let fits : k ≤ 8 * length (kept_bytes seen bytes) = omega (arith, h.size) in
    let z : k - 0 ≡ k = omega arith in
    source_left (kept_bytes seen bytes) k fits ∙ ap (bits_from (kept_bytes seen bytes) 0) z ∙ h.first

pub picture_ended : PictureEnded
picture_ended seen b bytes earlier picture l room e now =
    let whole = take (length picture - 19) picture in
    let is : Ends seen earlier picture = rw e at (last_says seen) in
    let long : 20 ≤ length picture = omega (arith, begins-length start_code picture is.starts, code_length) in
    let at_next = (starts seen b).0 now in
    let same : earlier ++ picture ++ (b ∷ []) ≡ at_next.0 ++ start_code = ap (λ (s : List Bool). s ++ (b ∷ [])) (sym is.all) ∙ at_next.1 in
    let before : at_next.0 ≡ earlier ++ whole = next_is earlier picture at_next.0 b same long in
    let split : picture ≡ whole ++ almost = picture_is earlier picture at_next.0 b same long in
    let mine : current seen ≡ picture = ap (own_of seen) e in
    record {
      next = ap last_picture at_next.1 ∙ ends_here at_next.0 ∙ ap (λ (s : List Bool). found s start_code) before;
      counted = ap (λ (s : Stream). s.count - 19) (pictures seen l) ∙ ap (λ (s : List Bool). length s - 19) mine ∙ sym (length-take-le (length picture - 19) picture (omega arith));
      ones = ap (λ (s : Stream). s.«before») (pictures seen l) ∙ ap before_last (mine ∙ split) ∙ before_code whole 15 3;
      held = held_whole (kept_bytes seen bytes) (8 * length bytes) picture whole almost split (picture_kept seen bytes earlier picture l room e);
    }
