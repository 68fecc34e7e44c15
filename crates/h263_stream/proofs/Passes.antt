-- Up to the next code, by one byte after another. Assumes nothing.
use Prim.Native.Nat.{ℕ, suc, ◌+◌, ◌<◌, ◌≤◌}
use native.Mathlib.Omega.{arith}
use mathlib.Core.Path.{◌≡◌, refl, sym, ap, ◌∙◌}
use mathlib.Core.Bool.{Bool, true, false}
use mathlib.Core.List.{List, [], ◌∷◌}
use lib.ListN.{length, get_or, drop, set, length-set, drop_of_length-le}
use Rattle.laws.specs.Choice.{pick}
use Rattle.laws.proofs.Lists.{drop_on}
use Rattle.h263_stream.specs.declared.Stream.{Stream}
use Rattle.h263_stream.specs.Stream.{starts_at, ends_at, code_at, beginning, stream_after, kept_after}
use Rattle.h263_stream.specs.Passed.{ran_from, kept_from, before_code, Reaches}

-- a byte more leaves the buffer as long as it was
pub kept_long : (s : Stream) (byte : ℕ) (picture : List ℕ) → length (kept_after s byte picture) ≡ length picture
unfolding kept_after
kept_long s byte picture = go (starts_at s byte) (ends_at s byte)
  where
    go : (x y : Bool) → length (pick x (beginning byte picture) (pick y picture (set picture s.count byte))) ≡ length picture
    go true y = length-set (set (set picture 0 0) 1 0) 2 byte ∙ length-set (set picture 0 0) 1 0 ∙ length-set picture 0 0
    go false true = refl
    go false false = length-set picture s.count byte

pub reaches_here : (bytes : List ℕ) (s : Stream) (at : ℕ) (picture : List ℕ) → Reaches bytes s at picture s at picture
reaches_here bytes s at picture = record { state = refl; place = refl; kept = refl; long = refl }

-- where none of the bytes left goes before a code
pub reaches_all : {bytes : List ℕ} {s : Stream} {at : ℕ} {picture : List ℕ} {t : Stream} {there : ℕ} {left : List ℕ} → Reaches bytes s at picture t there left → before_code t (drop there bytes) ≡ []
    → (t ≡ ran_from s (before_code s (drop at bytes))) × ((there ≡ at + length (before_code s (drop at bytes))) × (left ≡ kept_from s (before_code s (drop at bytes)) picture))
reaches_all {bytes} {s} {at} {picture} {t} {there} {left} h e =
    let none : there + 0 ≡ there = omega arith in (
      sym (h.state ∙ ap (λ (l : List ℕ). ran_from t l) e),
      (sym (h.place ∙ ap (λ (l : List ℕ). there + length l) e ∙ none), sym (h.kept ∙ ap (λ (l : List ℕ). kept_from t l left) e)),
    )

module _ (bytes : List ℕ) (t : Stream) (there : ℕ) where
  -- at the bytes' end
  pub none_end : length bytes ≤ there → before_code t (drop there bytes) ≡ []
  none_end l = ap (λ (xs : List ℕ). before_code t xs) (drop_of_length-le bytes l)

  module _ (more : there < length bytes) {completed : Bool} (c : completed ≡ code_at t (get_or bytes there 0)) where
    abbrev byte : ℕ
    byte = get_or bytes there 0

    by_code : before_code t (drop there bytes) ≡ pick completed [] (byte ∷ before_code (stream_after t byte) (drop (there + 1) bytes))
    by_code = ap (λ (xs : List ℕ). before_code t xs) (drop_on bytes there more) ∙ sym (ap (λ (x : Bool). pick x [] (byte ∷ before_code (stream_after t byte) (drop (there + 1) bytes))) c)

    -- where the next byte completes a code
    pub none_code : completed ≡ true → before_code t (drop there bytes) ≡ []
    none_code e = by_code ∙ ap (λ (x : Bool). pick x [] (byte ∷ before_code (stream_after t byte) (drop (there + 1) bytes))) e

    -- where it completes none
    pub reaches_byte : {s : Stream} {at : ℕ} {picture left next_left : List ℕ} {next : Stream} → completed ≡ false → Reaches bytes s at picture t there left
        → next ≡ stream_after t byte → next_left ≡ kept_after t byte left → Reaches bytes s at picture next (there + 1) next_left
    reaches_byte {s} {at} {picture} {left} {next_left} {next} e h a b =
        let on = by_code ∙ ap (λ (x : Bool). pick x [] (byte ∷ before_code (stream_after t byte) (drop (there + 1) bytes))) e in
        record {
          state = h.state ∙ ap (λ (xs : List ℕ). ran_from t xs) on ∙ sym (ap (λ (u : Stream). ran_from u (before_code u (drop (there + 1) bytes))) a);
          place =
              h.place ∙ ap (λ (xs : List ℕ). there + length xs) on ∙ one_on (length (before_code (stream_after t byte) (drop (there + 1) bytes)))
              ∙ sym (ap (λ (u : Stream). there + 1 + length (before_code u (drop (there + 1) bytes))) a);
          kept =
              h.kept ∙ ap (λ (xs : List ℕ). kept_from t xs left) on
              ∙ sym (λ i. kept_from (a i) (before_code (a i) (drop (there + 1) bytes)) (b i));
          long = ap length b ∙ kept_long t byte left ∙ h.long;
        }
      where
        one_on : (n : ℕ) → there + suc n ≡ there + 1 + n
        one_on n = omega arith
