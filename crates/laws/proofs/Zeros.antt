-- Runs of zeros, and stores into one. Assumes nothing.
use Prim.Native.Nat.{ℕ, zero, suc, ◌+◌}
use mathlib.Core.Path.{◌≡◌, refl, sym, ap, ◌∙◌}
use mathlib.Core.List.{List, [], ◌∷◌, ◌++◌, append_assoc}
use native.Mathlib.Nat.{zero-add, suc-add}
use native.Mathlib.Omega.{arith}
use lib.ListN.{length, set, replicate, length-append}
use lib.Seq.{append_snoc, set_at, sets}

-- n zeros; shut, so that a long run stays short
unfoldable pub zeros : ℕ → List ℕ
zeros zero = []
zeros (suc n) = 0 ∷ zeros n

pub zeros-replicate : (n : ℕ) → replicate n 0 ≡ zeros n
unfolding zeros
zeros-replicate zero = refl
zeros-replicate (suc n) = ap (λ (l : List ℕ). 0 ∷ l) (zeros-replicate n)

pub length-zeros : (n : ℕ) → length (zeros n) ≡ n
unfolding zeros
length-zeros zero = refl
length-zeros (suc n) = ap suc (length-zeros n)

pub zeros-add : (m n : ℕ) → zeros (m + n) ≡ zeros m ++ zeros n
unfolding zeros
zeros-add zero n = ap zeros (zero-add n)
zeros-add (suc m) n = ap zeros (suc-add m n) ∙ ap (λ (l : List ℕ). 0 ∷ l) (zeros-add m n)

-- a run of zeros that is followed by others, split
pub zeros_split : (m n k : ℕ) (rest : List ℕ) → k ≡ m + n → zeros k ++ rest ≡ zeros m ++ (zeros n ++ rest)
zeros_split m n k rest e = ap (λ (x : ℕ). zeros x ++ rest) e ∙ ap (λ (l : List ℕ). l ++ rest) (zeros-add m n) ∙ append_assoc (zeros m) (zeros n) rest

-- one store into a run
pub zeros-set : (before : List ℕ) (run left : ℕ) (rest : List ℕ) (code at room : ℕ) → length before + run ≡ at → room ≡ run + suc left
    → set (before ++ (zeros room ++ rest)) at code ≡ before ++ (zeros run ++ (code ∷ (zeros left ++ rest)))
unfolding zeros
zeros-set before run left rest code at room e r =
    ap (λ (l : List ℕ). set (before ++ l) at code) (zeros_split run (suc left) room rest r)
    ∙ ap (λ (l : List ℕ). set l at code) (sym (append_assoc before (zeros run) (0 ∷ (zeros left ++ rest))))
    ∙ set_at (before ++ zeros run) 0 (zeros left ++ rest) code at (length-append before (zeros run) ∙ ap (λ (n : ℕ). length before + n) (length-zeros run) ∙ e)
    ∙ append_assoc before (zeros run) (code ∷ (zeros left ++ rest))

-- elements that are wholly stored over
pub sets_over : (before old new rest : List ℕ) (at : ℕ) → length before ≡ at → length old ≡ length new → sets (before ++ (old ++ rest)) at new ≡ before ++ (new ++ rest)
sets_over before [] [] rest at e n = refl
sets_over before [] (v ∷ new) rest at e n = absurd (omega arith)
sets_over before (o ∷ old) [] rest at e n = absurd (omega arith)
sets_over before (o ∷ old) (v ∷ new) rest at e n =
    ap (λ (l : List ℕ). sets l (suc at) new) (set_at before o (old ++ rest) v at e ∙ sym (append_snoc before v (old ++ rest)))
    ∙ sets_over (before ++ (v ∷ [])) old new rest (suc at) (omega (arith, length-append before (v ∷ []))) (omega arith)
    ∙ append_snoc before v (new ++ rest)
