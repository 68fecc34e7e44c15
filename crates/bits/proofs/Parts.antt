-- Bits that a loop writes part by part. Assumes nothing.
use mathlib.Core.Path.{◌≡◌, refl, sym, ap, ◌∙◌}
use mathlib.Core.List.{List, [], ◌++◌, append_assoc, append-nil}
use Prim.Native.Nat.{ℕ, zero, suc, ◌+◌, ◌-◌, ◌≤◌, ◌<◌}
use native.Mathlib.Omega.{arith}
use Rattle.bits.specs.Bits.{Bit}
use Rattle.bits.specs.Appended.{WroteBits, CountablePlace}
use Rattle.bits.proofs.Appended.{wrote_none, wrote_as, wrote_then, next_countable}

-- parts b, b + 1 and so on: so many of them
abbrev pub parts_from : (ℕ → List Bit) → ℕ → ℕ → List Bit
parts_from part b zero = []
parts_from part b (suc left) = part b ++ parts_from part (b + 1) left

parts_none : (part : ℕ → List Bit) (b left : ℕ) → left ≡ 0 → parts_from part b left ≡ []
parts_none part b zero e = refl
parts_none part b (suc left) e = absurd (omega arith)

-- ---- b of them are behind
pub record PartsSoFar (part : ℕ → List Bit) (count : ℕ) (s : List ℕ) (at : ℕ) (t : List ℕ) (place b : ℕ) : Type 0 where
  pub left : ℕ
  pub counted : b + left ≡ count
  pub bits : List Bit
  pub wrote : WroteBits bits s at t place
  pub same : parts_from part 0 count ≡ bits ++ parts_from part b left

pub parts_begin : (part : ℕ → List Bit) (count : ℕ) (s : List ℕ) (at : ℕ) → PartsSoFar part count s at s at 0
parts_begin part count s at = record { left = count; counted = omega arith; bits = []; wrote = wrote_none s at; same = refl }

module _ {part : ℕ → List Bit} {count : ℕ} {s : List ℕ} {at : ℕ} {t : List ℕ} {place b : ℕ} (h : PartsSoFar part count s at t place b) where
  pub parts_done : count ≤ b → WroteBits (parts_from part 0 count) s at t place
  parts_done l = wrote_as h.wrote (sym (h.same ∙ ap (λ (x : List Bit). h.bits ++ x) (parts_none part b h.left (omega (arith, h.counted))) ∙ append-nil h.bits))

  module _ (l : b < count) where
    abbrev rest : List Bit
    rest = parts_from part (b + 1) (count - suc b)

    parts_on : parts_from part 0 count ≡ h.bits ++ (part b ++ rest)
    parts_on = let e : h.left ≡ suc (count - suc b) = omega (arith, h.counted) in h.same ∙ ap (λ (n : ℕ). h.bits ++ parts_from part b n) e

    pub parts_next : CountablePlace at (parts_from part 0 count) → CountablePlace place (part b)
    parts_next c = next_countable h.wrote (part b) rest parts_on c

    pub parts_more : {u : List ℕ} {q : ℕ} → WroteBits (part b) t place u q → PartsSoFar part count s at u q (b + 1)
    parts_more g = record {
      left = count - suc b;
      counted = omega arith;
      bits = h.bits ++ part b;
      wrote = wrote_then h.wrote g;
      same = parts_on ∙ sym (append_assoc h.bits (part b) rest);
    }
