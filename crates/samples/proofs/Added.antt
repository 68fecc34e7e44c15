-- A block that is put is the sum of what was predicted and what is added to it; where nothing is added, the prediction stays. Assumes nothing.
use mathlib.Core.Path.{◌≡◌, refl, sym, ap, subst, ◌∙◌}
use mathlib.Core.Bool.{false}
use mathlib.Core.List.{List}
use Prim.Native.Nat.{ℕ, ◌+◌, ◌*◌, ◌≤◌, ◌<◌, zero-le}
use native.Mathlib.Omega.{arith}
use borrow.Author.Tests.{le-ltb}
use lib.IntN.{ℤ, pos, nat_abs, +ℤ_idl, +ℤ_idr}
use lib.ListN.{get_or}
use Rattle.laws.specs.Rows.{Put}
use Rattle.laws.proofs.Rows.{rows_less, put_as}
use Rattle.laws.specs.Block.{Is, cell}
use Rattle.quantiser.specs.Cut.{cut, at_least, at_most}
use Rattle.quantiser.specs.Lines.{Line, entry}
use Rattle.quantiser.specs.Sample.{Sample, sample_of}
use Rattle.quantiser.proofs.SampleLaws.{byte_sample}
use Rattle.samples.specs.Content.{difference_of}
use Rattle.samples.specs.Ready.{Fits}
use Rattle.samples.specs.Wrote.{block_from, rows_of}
use Rattle.samples.proofs.Zero.{difference_zero}

-- the transform's output is what is added
pub put_output : {to w : ℕ} (g : ℕ → ℕ → ℤ) {e : ℕ → ℕ → ℤ} {d : List (List ℤ)} {t u : List ℕ} → Is (pos 0) e d
    → Put 8 8 to w (λ i j. sample_of (g i j) (cell (pos 0) d i j)) t u → Put 8 8 to w (λ i j. sample_of (g i j) (e i j)) t u
put_output g n r = put_as (λ i j l m z. sample_of (g i j) (n.cells i j l m z)) r

cut_whole : (n : ℕ) → n ≤ 255 → cut (pos 0) (pos 255) (pos n) ≡ pos n
unfolding cut at_least at_most
cut_whole n l = simp (le-ltb n 0 zero-le, le-ltb 255 n l)

-- nothing is added
sample_whole : (n : ℕ) → n ≤ 255 → n ≡ sample_of (pos n) (pos 0)
unfolding sample_of
sample_whole n l = sym (ap nat_abs (ap (cut (pos 0) (pos 255)) (+ℤ_idr (pos n)) ∙ cut_whole n l))

-- the prediction stays as it is, where every level is 0
pub put_nothing : (s : List ℕ) (bytes : ℕ → ℕ) (q : ℕ) {to w : ℕ} → ((n : ℕ) → get_or s n 0 ≤ 255) → ((n : ℕ) → n < 64 → bytes n ≡ 0)
    → Put 8 8 to w (λ i j. sample_of (block_from s to w i j) (difference_of bytes false q i j)) s s
put_nothing s bytes q {to} {w} h n = record {
  size = refl;
  inside = λ i j l m. sample_whole (rows_of s to w i j) (h (to + i * w + j)) ∙ ap (sample_of (block_from s to w i j)) (sym (difference_zero bytes q i j n));
  outside = λ k o. refl;
}

-- a sample put by itself
pub sample_alone : {z : ℤ} → Sample z → pos (sample_of (pos 0) z) ≡ z
unfolding sample_of
sample_alone {z} s = ap (λ (z : ℤ). pos (nat_abs (cut (pos 0) (pos 255) z))) (+ℤ_idl z ∙ s.is) ∙ ap (λ (z : ℤ). pos (nat_abs z)) (cut_whole s.value s.most) ∙ sym s.is

-- a store that had room has it still
pub fits_still : {k to w n m : ℕ} → m ≡ n → Fits k to w n → Fits k to w m
fits_still {k} {to} {w} e h = subst (λ (n : ℕ). Fits k to w n) (sym e) h

-- what is put over a prediction that was put
pub put_over : {to w : ℕ} {g : ℕ → ℕ → ℕ} (f : ℕ → ℕ → ℕ → ℕ) {s t u : List ℕ} → Put 8 8 to w g s t → Put 8 8 to w (λ i j. f i j (rows_of t to w i j)) t u → Put 8 8 to w (λ i j. f i j (g i j)) s u
put_over f p q = record {
  size = q.size ∙ p.size;
  inside = λ i j l m. q.inside i j l m ∙ ap (f i j) (p.inside i j l m);
  outside = λ k o. q.outside k o ∙ p.outside k o;
}

-- ---- row by row
-- the row after those that are put is as it was
pub put_next : {h w start stride : ℕ} {g : ℕ → ℕ → ℕ} {s t : List ℕ} → w ≤ stride → Put h w start stride g s t → (j : ℕ) → get_or t (start + h * stride + j) 0 ≡ get_or s (start + h * stride + j) 0
put_next {h} {w} {start} {stride} f p j = p.outside (start + h * stride + j) (λ i k l m e. earlier i k l m e)
  where
    earlier : (i k : ℕ) → i < h → k < w → start + h * stride + j ≡ start + i * stride + k → ⊥
    earlier i k l m e = omega (arith, rows_less stride l)

-- a row of samples
pub sampled : {g : ℕ → ℕ} {r : List ℤ} → Line (λ j. pos (g j)) r → ((j : ℕ) → g j ≤ 255) → (j : ℕ) → j < 8 → Sample (entry r j)
sampled {g} h m j l = subst Sample (sym (h.entries j l)) (byte_sample (g j) (m j))
