-- The walk through a tree, one bit on: what each outcome of the code's tests makes of it. Assumes nothing.
use mathlib.Core.Path.{◌≡◌, sym, ap, ◌∙◌}
use mathlib.Core.List.{List}
use Prim.Native.Nat.{ℕ, suc, ◌+◌, ◌-◌, ◌*◌, ◌/◌, ◌%◌, ◌^◌, ◌<◌, ◌≤◌}
use native.Mathlib.Omega.{arith}
use borrow.Author.Tests.{lt-ltb, le-ltb, eq-eqb, ne_eqb}
use lib.Dec.{eqb, ltb}
use lib.ListN.{get_or}
use Rattle.laws.specs.Choice.{pick}
use Rattle.refusals.specs.declared.Reason.TheVariants.{BitsEnd, NoCodeword}
use Rattle.refusals.specs.declared.Table.{Table}
use Rattle.bits.specs.Bits.{bit_num, value, bits_left}
use Rattle.bits.specs.Read.{got, bad}
use Rattle.bits.specs.Tree.{walk_of}
use Rattle.bits.proofs.Value.{num_bit, value_one, value_within, left_none, left_more}

-- bit k of a window
pub window_bit : (s : List ℕ) (at w k : ℕ) → w ≡ value s at 24 → k < 24 → w / 2 ^ (23 - k) % 2 ≡ bit_num s (at + k)
window_bit s at w k e h =
    let t : 24 ≡ k + 1 + (23 - k) = omega arith in
    ap (λ (x : ℕ). x / 2 ^ (23 - k) % 2) (e ∙ ap (value s at) t) ∙ value_within s at k 1 (23 - k) ∙ value_one s (at + k)

-- the walk has come to node q, k bits on
pub record Here (name : Table) (t s : List ℕ) (n root at q k : ℕ) : Type 0 where
  pub so : walk_of name 16 t root (bits_left s n at) at at ≡ walk_of name (16 - k) t q (bits_left s n (at + k)) at (at + k)

pub here_first : (name : Table) (t s : List ℕ) (n root at : ℕ) → Here name t s n root at root 0
here_first name t s n root at = let z : at + 0 ≡ at = omega arith in record { so = rw z }

-- the child of node q that bit k of a window leads to
abbrev pub child : List ℕ → ℕ → ℕ → ℕ → ℕ
child t q k w = get_or t (q * 2 + w / 2 ^ (23 - k) % 2) 0

f_more : {k : ℕ} → k < 16 → 16 - k ≡ suc (16 - (k + 1))
f_more l = omega arith

module _ {name : Table} {t s : List ℕ} {n root at q k : ℕ} (h : Here name t s n root at q k) where
  pub walk_deep : 16 ≤ k → bad (NoCodeword name) at ≡ walk_of name 16 t root (bits_left s n at) at at
  unfolding walk_of
  walk_deep l = let z : 16 - k ≡ 0 = omega arith in sym (h.so ∙ rw z)

  module _ (l : k < 16) where
    pub walk_end : n - at ≤ k → bad BitsEnd at ≡ walk_of name 16 t root (bits_left s n at) at at
    unfolding walk_of
    walk_end e = sym (h.so ∙ rw (f_more l, left_none s n (at + k) (omega arith)))

    module _ {w : ℕ} (m : k < n - at) (e : w ≡ value s at 24) where
      step : walk_of name (16 - k) t q (bits_left s n (at + k)) at (at + k)
          ≡ pick (eqb (child t q k w) 0) (bad (NoCodeword name) at)
          (pick (ltb (child t q k w) 256) (walk_of name (16 - (k + 1)) t (child t q k w) (bits_left s n (at + k + 1)) at (at + k + 1))
          (got (child t q k w - 256) (bits_left s n (at + k + 1)) (at + k + 1)))
      unfolding walk_of
      step = rw (f_more l, left_more s n (at + k) (omega arith), num_bit s (at + k), ← window_bit s at w k e (omega arith))

      pub walk_none : child t q k w ≡ 0 → bad (NoCodeword name) at ≡ walk_of name 16 t root (bits_left s n at) at at
      walk_none z = sym (h.so ∙ step ∙ rw (eq-eqb _ _ z))

      pub walk_leaf : (child t q k w ≡ 0 → ⊥) → 256 ≤ child t q k w
          → got (child t q k w - 256) (bits_left s n (at + k + 1)) (at + k + 1) ≡ walk_of name 16 t root (bits_left s n at) at at
      walk_leaf z g = sym (h.so ∙ step ∙ rw (ne_eqb _ _ z, le-ltb _ _ g))

      pub walk_down : (child t q k w ≡ 0 → ⊥) → child t q k w < 256 → Here name t s n root at (child t q k w) (k + 1)
      walk_down z g = let on : at + k + 1 ≡ at + (k + 1) = omega arith in record { so = h.so ∙ step ∙ rw (ne_eqb _ _ z, lt-ltb _ _ g, on) }
