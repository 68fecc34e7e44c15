-- Stores right after a known beginning of a list. Assumes nothing.
use mathlib.Core.Path.{◌≡◌, sym, ap, ◌∙◌}
use mathlib.Core.List.{List, ◌++◌}
use Prim.Native.Nat.{ℕ, ◌+◌, ◌≤◌}
use native.Mathlib.Omega.{arith}
use lib.ListN.{length, get_or, drop, length-append}
use lib.Seq.{sets, paste, sets-eq, take_at, drop-append-add, get_or-append-add, take_all}

module _ {A : Type 0} where
  -- what lies k places after a beginning of n places
  pub drop_past : (xs r : List A) (n k : ℕ) → length xs ≡ n → drop (n + k) (xs ++ r) ≡ drop k r
  drop_past xs r n k e = ap (λ (m : ℕ). drop (m + k) (xs ++ r)) (sym e) ∙ drop-append-add xs r k

  pub get_d_past : (xs r : List A) (n k : ℕ) (d : A) → length xs ≡ n → get_or (xs ++ r) (n + k) d ≡ get_or r k d
  get_d_past xs r n k d e = ap (λ (m : ℕ). get_or (xs ++ r) (m + k) d) (sym e) ∙ get_or-append-add xs r k d

  pub sets_after : (xs vs r : List A) (n : ℕ) → length xs ≡ n → length vs ≤ length r → sets (xs ++ r) n vs ≡ xs ++ vs ++ drop (length vs) r
  sets_after xs vs r n e l =
      sets-eq vs (xs ++ r) n (omega (arith, length-append xs r))
      ∙ (λ i. take_at xs r n e i ++ vs ++ drop_past xs r n (length vs) e i)

  pub paste_after : (xs p r : List A) (n m : ℕ) → length xs ≡ n → length p ≡ m → paste (xs ++ r) n p m ≡ xs ++ p ++ drop m r
  paste_after xs p r n m e f = λ i. take_at xs r n e i ++ take_all m p (omega (arith, f)) i ++ drop_past xs r n m e i
