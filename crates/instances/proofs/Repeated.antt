-- One list so many times, and a test of every macroblock where all are alike. Assumes nothing.
use Prim.Native.Nat.{ℕ, zero, suc, ◌+◌, ◌*◌}
use mathlib.Core.Path.{◌≡◌, refl, sym, ap, subst, ◌∙◌}
use mathlib.Core.Bool.{Bool}
use mathlib.Core.List.{List, [], ◌∷◌, ◌++◌, append_assoc}
use native.Mathlib.Nat.{zero-add, suc-add, zero-mul, suc-mul, add_comm}
use lib.Dec.{T}
use lib.ListN.{length, take, drop, length-append}
use lib.Seq.{take_at, drop_at}
use Rattle.laws.specs.Choice.{both}
use Rattle.laws.proofs.Choice.{both_make}
use Rattle.layout.specs.Valid.{every_macroblock, every_group}
use Rattle.instances.specs.Uniform.{repeated}

pub repeated-length : (n : ℕ) (l : List ℕ) → length (repeated n l) ≡ n * length l
unfolding repeated
repeated-length zero l = sym (zero-mul (length l))
repeated-length (suc n) l =
    length-append l (repeated n l) ∙ ap (λ (k : ℕ). length l + k) (repeated-length n l) ∙ add_comm (length l) (n * length l) ∙ sym (suc-mul n (length l))

pub repeated_long : (n width : ℕ) (l : List ℕ) → length l ≡ width → length (repeated n l) ≡ n * width
repeated_long n width l e = repeated-length n l ∙ ap (λ (k : ℕ). n * k) e

pub repeated-add : (m n : ℕ) (l : List ℕ) → repeated (m + n) l ≡ repeated m l ++ repeated n l
unfolding repeated
repeated-add zero n l = ap (λ (k : ℕ). repeated k l) (zero-add n)
repeated-add (suc m) n l =
    ap (λ (k : ℕ). repeated k l) (suc-add m n) ∙ ap (λ (r : List ℕ). l ++ r) (repeated-add m n l) ∙ sym (append_assoc l (repeated m l) (repeated n l))

-- the first of them, and the others
pub unrolled : (k : ℕ) (l more : List ℕ) → repeated (suc k) l ++ more ≡ l ++ (repeated k l ++ more)
unfolding repeated
unrolled k l more = append_assoc l (repeated k l) more

taken : (k width : ℕ) (l more : List ℕ) → length l ≡ width → take width (repeated (suc k) l ++ more) ≡ l
taken k width l more e = ap (take width) (unrolled k l more) ∙ take_at l (repeated k l ++ more) width e

dropped : (k width : ℕ) (l more : List ℕ) → length l ≡ width → drop width (repeated (suc k) l ++ more) ≡ repeated k l ++ more
dropped k width l more e = ap (drop width) (unrolled k l more) ∙ drop_at l (repeated k l ++ more) width e

-- ---- a group of them, and the other groups
module _ (each n m : ℕ) (l : List ℕ) (e : n ≡ each + m) where
  pub grouped : repeated n l ≡ repeated each l ++ repeated m l
  grouped = ap (λ (k : ℕ). repeated k l) e ∙ repeated-add each m l

  pub ungrouped : (width : ℕ) → length l ≡ width → drop (each * width) (repeated n l) ≡ repeated m l
  ungrouped width w = ap (drop (each * width)) grouped ∙ drop_at (repeated each l) (repeated m l) (each * width) (repeated_long each width l w)

pub others : (each n k : ℕ) → n ≡ suc k * each → n ≡ each + k * each
others each n k e = e ∙ suc-mul k each ∙ add_comm (k * each) each

-- ---- a test that one macroblock passes, wherever it stands
module _ (fields levels : List ℕ) (four : length fields ≡ 4) (six : length levels ≡ 384) where
  every_macroblock_lem : (good : ℕ → List ℕ → List ℕ → Bool) → ((address : ℕ) → T (good address fields levels)) → (k address : ℕ) (more rest : List ℕ)
      → T (every_macroblock good k address (repeated k fields ++ more) (repeated k levels ++ rest))
  unfolding every_macroblock
  every_macroblock_lem good h zero address more rest = tt
  every_macroblock_lem good h (suc k) address more rest =
      subst T
      (sym (λ i. both (good address (taken k 4 fields more four i) (taken k 384 levels rest six i)) (every_macroblock good k (address + 1) (dropped k 4 fields more four i) (dropped k 384 levels rest six i))))
      (both_make (good address fields levels) _ (h address) (every_macroblock_lem good h k (address + 1) more rest))

  pub every_group_lem : (each : ℕ) (good : ℕ → ℕ → List ℕ → List ℕ → Bool) → ((number address : ℕ) → T (good number address fields levels)) → (numbers : List ℕ) (n : ℕ) → n ≡ length numbers * each
      → T (every_group each good numbers (repeated n fields) (repeated n levels))
  unfolding every_group
  every_group_lem each good h [] n e = tt
  every_group_lem each good h (number ∷ numbers) n e =
      let m : ℕ = length numbers * each in
      let q : n ≡ each + m = others each n (length numbers) e in
      both_make (every_macroblock (good number) each 1 (repeated n fields) (repeated n levels)) _
      (subst T (sym (λ i. every_macroblock (good number) each 1 (grouped each n m fields q i) (grouped each n m levels q i))) (every_macroblock_lem (good number) (h number) each 1 (repeated m fields) (repeated m levels)))
      (subst T (sym (λ i. every_group each good numbers (ungrouped each n m fields q 4 four i) (ungrouped each n m levels q 384 six i))) (every_group_lem each good h numbers m refl))
