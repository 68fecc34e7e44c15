-- A byte more, over plain variables. Assumes nothing.
use Prim.Native.Nat.{ℕ, ◌+◌, ◌-◌, ◌/◌, ◌<◌, ◌≤◌}
use borrow.Author.Tests.{lt-ltb, le-ltb, eq-eqb, ne_eqb}
use mathlib.Core.Path.{◌≡◌, sym, ap, ◌∙◌}
use mathlib.Core.Bool.{Bool, true, false}
use mathlib.Core.List.{List}
use lib.Dec.{eqb}
use lib.ListN.{set}
use Rattle.laws.specs.Choice.{pick, both, either}
use Rattle.h263_stream.specs.declared.Stream.{Stream}
use Rattle.h263_stream.specs.Stream.{one_more, is_code, starts_at, ends_at, begun_by, ended_by, longer_by, stream_after, beginning, kept_after}

pub more_below : (n : ℕ) → n < 18446744073709551615 → n + 1 ≡ one_more n
more_below n l = sym (ap (λ (t : Bool). pick t (n + 1) n) (lt-ltb n 18446744073709551615 l))

pub more_last : (n : ℕ) → 18446744073709551615 ≤ n → n ≡ one_more n
more_last n l = sym (ap (λ (t : Bool). pick t (n + 1) n) (le-ltb n 18446744073709551615 l))

-- ---- a test after another, and a case by a test
pub either_first : {a t : Bool} (b : Bool) → t ≡ a → t ≡ true → true ≡ either a b
either_first b e y = sym (ap (λ (x : Bool). either x b) (sym e ∙ y))

pub either_then : {a b t u : Bool} → t ≡ a → t ≡ false → u ≡ b → u ≡ either a b
either_then {b = b} e n f = f ∙ sym (ap (λ (x : Bool). either x b) (sym e ∙ n))

pub picked : {b t : Bool} (x y : ℕ) → t ≡ b → t ≡ true → x ≡ pick b x y
picked x y e f = sym (ap (λ (z : Bool). pick z x y) (sym e ∙ f))

pub unpicked : {b t : Bool} (x y : ℕ) → t ≡ b → t ≡ false → y ≡ pick b x y
unpicked x y e f = sym (ap (λ (z : Bool). pick z x y) (sym e ∙ f))

-- ---- a code
module _ (six a b c : ℕ) where
  pub first_other : (a ≡ 0 → ⊥) → false ≡ is_code six a b c
  unfolding is_code
  first_other n = sym (ap (λ (t : Bool). both (both t (eqb b 0)) (eqb (c / 4) six)) (ne_eqb a 0 n))

  pub second_other : a ≡ 0 → (b ≡ 0 → ⊥) → false ≡ is_code six a b c
  unfolding is_code
  second_other e n = sym (λ i. both (both (eq-eqb a 0 e i) (ne_eqb b 0 n i)) (eqb (c / 4) six))

  pub by_third : a ≡ 0 → b ≡ 0 → eqb (c / 4) six ≡ is_code six a b c
  unfolding is_code
  by_third e f = sym (λ i. both (both (eq-eqb a 0 e i) (eq-eqb b 0 f i)) (eqb (c / 4) six))

-- ---- what has gone by
module _ (s : Stream) (byte : ℕ) {place : ℕ} (p : place ≡ one_more s.place) where
  pub begun : {offset : ℕ} → offset ≡ s.place - 2
      → record { place = place; older = s.last; last = byte; begun = true; ongoing = true; offset = offset; count = 3 } ≡ begun_by s byte
  begun o = λ i. record { place = p i; older = s.last; last = byte; begun = true; ongoing = true; offset = o i; count = 3 }

  pub ended : record { place = place; older = s.last; last = byte; begun = s.begun; ongoing = false; offset = s.offset; count = 0 } ≡ ended_by s byte
  ended = λ i. record { place = p i; older = s.last; last = byte; begun = s.begun; ongoing = false; offset = s.offset; count = 0 }

  pub longer : {count : ℕ} → count ≡ one_more s.count
      → record { place = place; older = s.last; last = byte; begun = s.begun; ongoing = s.ongoing; offset = s.offset; count = count } ≡ longer_by s byte
  longer c = λ i. record { place = p i; older = s.last; last = byte; begun = s.begun; ongoing = s.ongoing; offset = s.offset; count = c i }

-- ---- both
module _ (s : Stream) (byte : ℕ) (picture : List ℕ) where
  abbrev state_by : Bool → Bool → Stream
  state_by x y = pick x (begun_by s byte) (pick y (ended_by s byte) (longer_by s byte))

  abbrev kept_by : Bool → Bool → List ℕ
  kept_by x y = pick x (beginning byte picture) (pick y picture (set picture s.count byte))

  pub pushed : {x y : Bool} {r : Stream} {left : List ℕ} → starts_at s byte ≡ x → ends_at s byte ≡ y → r ≡ state_by x y → left ≡ kept_by x y
      → (r ≡ stream_after s byte) × (left ≡ kept_after s byte picture)
  unfolding stream_after kept_after
  pushed e f a b = (a ∙ sym (λ i. state_by (e i) (f i)), b ∙ sym (λ i. kept_by (e i) (f i)))
