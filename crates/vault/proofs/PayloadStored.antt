-- What the loop of write_payload has done. Assumes nothing.
use native.Mathlib.Omega.{arith}
use mathlib.Core.Path.{◌≡◌, sym, ap, ◌∙◌}
use Prim.Native.Nat.{ℕ, ◌+◌, ◌≤◌, ◌<◌}
use native.Mathlib.Numerals.{add-one}
use mathlib.Core.List.{List}
use lib.ListN.{length, get_or, set, length-set}
use lib.Seq.{paste, paste-zero, paste-suc}

-- the first j bytes of a payload, stored
pub record Stored (block₀ payload : List ℕ) (block : List ℕ) (j : ℕ) : Type 0 where
  pub room : length block₀ ≡ 512
  pub is : block ≡ paste block₀ 8 payload j
  pub long : length block ≡ 512
  pub within : j ≤ 500

pub none : (block₀ payload : List ℕ) → length block₀ ≡ 512 → Stored block₀ payload block₀ 0
none block₀ payload e = record { room = e; is = paste-zero block₀ 8 payload; long = e; within = omega arith }

pub one_more : {block₀ payload block : List ℕ} {j : ℕ} (v : ℕ) → length payload ≡ 500
    → Stored block₀ payload block j → j < 500 → v ≡ get_or payload j 0 → Stored block₀ payload (set block (8 + j) v) (j + 1)
one_more {block₀} {payload} {block} {j} v p h l k = record {
  room = h.room;
  is =
      (λ i. set (h.is i) (8 + j) (k i)) ∙ paste-suc block₀ 8 payload j 0 (omega arith) (omega arith)
      ∙ ap (paste block₀ 8 payload) (sym (add-one j));
  long = length-set block (8 + j) v ∙ h.long;
  within = omega arith;
}

pub full : {block₀ payload block : List ℕ} (j : ℕ) → Stored block₀ payload block j → 500 ≤ j → j ≡ 500
full j h l = omega (arith, h.within)
