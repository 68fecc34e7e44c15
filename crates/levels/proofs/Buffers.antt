-- Buffers: zeros stored over one, zeros lent, one copied over another. Assumes nothing.
use mathlib.Core.Path.{◌≡◌, refl, ap, ◌∙◌}
use mathlib.Core.List.{List, ◌∷◌, ◌++◌, append-nil}
use Prim.Native.Nat.{ℕ, zero, suc, ◌+◌, ◌*◌, ◌≤◌}
use native.Mathlib.Nat.{le_of_suc-le-suc, not-suc-le-zero}
use native.Mathlib.Omega.{arith}
use lib.ListN.{length, replicate, take, drop, length-replicate, drop_of_length-le}
use lib.Seq.{take-length}
use Rattle.layout.specs.Flat.{Shape, Flat, flat, zeros}
use Rattle.layout.specs.Valid.{Lengths}

-- ---- zeros lent
pub zeros_long : (l : List ℕ) (k : ℕ) → l ≡ replicate k 0 → length l ≡ k
zeros_long l k e = ap length e ∙ length-replicate k 0

-- the first n of m zeros
zeros_first : (m n : ℕ) → n ≤ m → take {A = ℕ} n (replicate m 0) ≡ replicate n 0
zeros_first m zero h = refl
zeros_first zero (suc n) h = absurd (not-suc-le-zero h)
zeros_first (suc m) (suc n) h = ap (λ (l : List ℕ). 0 ∷ l) (zeros_first m n (le_of_suc-le-suc h))

pub zeros_part : (m : ℕ) {n k : ℕ} → n ≤ m → n ≡ k → take {A = ℕ} n (replicate m 0) ≡ replicate k 0
zeros_part m {n} h e = zeros_first m n h ∙ ap (λ (j : ℕ). replicate j 0) e

-- ---- a description's three slices, all zeros
zeros_as : (m k : ℕ) (x : List ℕ) → x ≡ replicate m 0 → m ≡ k → x ≡ replicate k 0
zeros_as m k x e d = e ∙ ap (λ (j : ℕ). replicate j 0) d

pub zeros-flat : (s : Shape) {a b c : List ℕ} {h m l : ℕ} → a ≡ replicate h 0 → h ≡ s.fixed + s.groups → b ≡ replicate m 0 → m ≡ s.groups * (s.each * 4) → c ≡ replicate l 0 → l ≡ s.groups * (s.each * 384)
    → flat a b c ≡ zeros s
zeros-flat s {a} {b} {c} {h} {m} {l} ea eh eb em ec el = λ i. flat (zeros_as h _ a ea eh i) (zeros_as m _ b eb em i) (zeros_as l _ c ec el i)

pub zeros_lengths : (s : Shape) {d : Flat} → d ≡ zeros s → Lengths s d
zeros_lengths s {d} e = record {
  head_length = zeros_long d.head _ (ap (λ (x : Flat). x.head) e);
  macroblocks_length = zeros_long d.macroblocks _ (ap (λ (x : Flat). x.macroblocks) e);
  levels_length = zeros_long d.levels _ (ap (λ (x : Flat). x.levels) e);
}

-- ---- a whole slice copied over another of its length
pub copied : (from to out : List ℕ) → length from ≡ length to → out ≡ take (length from) from ++ drop (length from) to → out ≡ from
copied from to out e c =
    let short : length to ≤ length from = omega arith in
    c ∙ rw (take-length, drop_of_length-le to short, append-nil)
