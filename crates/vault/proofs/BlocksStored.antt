-- What the loop of blocks has done. Assumes nothing.
use native.Mathlib.Omega.{arith}
use mathlib.Core.Path.{◌≡◌, refl, ap, ◌∙◌}
use Prim.Native.Nat.{ℕ, ◌+◌, ◌-◌, ◌*◌, ◌≤◌, ◌<◌}
use mathlib.Core.Bool.{Bool}
use mathlib.Core.List.{List, ◌++◌}
use lib.ListN.{length, take, drop, length-append, length-take, length-drop}
use borrow.Rule.Slice.PartMut.{put_mid}
use Rattle.vault.specs.declared.Standard.{Standard}
use Rattle.vault.specs.declared.Header.{Header}
use Rattle.vault.specs.Block.{block_for}
use Rattle.vault.specs.Parts.{part_count, payload_at, header_at, block_at, first_blocks}
use Rattle.vault.proofs.Cut.{first-length, one_more}

module _ (standard : Standard) (clip picture : ℕ) (refresh : Bool) (bytes : List ℕ) (count : ℕ) (out₀ : List ℕ) where
  -- the blocks of the first n parts, stored
  pub record Stored (out : List ℕ) (n : ℕ) : Type 0 where
    pub is : out ≡ first_blocks standard clip picture refresh bytes count n ++ drop (512 * n) out₀
    pub long : length out ≡ length out₀
    pub within : n ≤ part_count count

  pub none : Stored out₀ 0
  unfolding first_blocks
  none = record { is = refl; long = refl; within = omega arith }

  pub more : {out : List ℕ} (n : ℕ) (header : Header) (block : List ℕ) → Stored out n → n < part_count count → 512 * part_count count ≤ length out₀
      → header ≡ header_at standard clip picture refresh count n → block ≡ block_for header (payload_at bytes count header.part)
      → Stored (put_mid (512 * n) (512 * n + 512 - 512 * n) out block) (n + 1)
  unfolding block_at
  more {out} n header block h l r e f = record {
    is = is;
    long =
        ap length is
        ∙ omega (
          arith,
          length-append (first_blocks standard clip picture refresh bytes count (n + 1)) (drop (512 * (n + 1)) out₀),
          first-length standard clip picture refresh bytes count (n + 1),
          length-drop (512 * (n + 1)) out₀,
        );
    within = omega arith;
  }
    where
      part : block ≡ block_at standard clip picture refresh bytes count n
      part = f ∙ ap (λ (h : Header). block_for h (payload_at bytes count h.part)) e

      size : 512 * n + 512 - 512 * n ≡ 512
      size = omega arith

      is : put_mid (512 * n) (512 * n + 512 - 512 * n) out block ≡ first_blocks standard clip picture refresh bytes count (n + 1) ++ drop (512 * (n + 1)) out₀
      is = (λ i. put_mid (512 * n) (size i) out (part i)) ∙ one_more standard clip picture refresh bytes count n out₀ out h.is

-- the part that is lent
pub lent : (out : List ℕ) (n : ℕ) → 512 * n + 512 ≤ length out → length (take (512 * n + 512 - 512 * n) (drop (512 * n) out)) ≡ 512
lent out n l = omega (arith, length-take (512 * n + 512 - 512 * n) (drop (512 * n) out), length-drop (512 * n) out)
