-- Codewords are read back, each table's by its law (Back.antt of words), and an event has a bit at least. Assumes nothing.
use mathlib.Core.Path.{◌≡◌, sym, subst}
use mathlib.Core.Bool.{Bool, true, false}
use mathlib.Core.List.{List, [], ◌∷◌, ◌++◌}
use Prim.Native.Nat.{ℕ, ◌≤◌}
use native.Mathlib.Omega.{arith}
use lib.Dec.{T, eqb, eqb→eq, ltb}
use lib.ListN.{length, length-append}
use Rattle.laws.specs.Choice.{pick, both, either, one_of}
use Rattle.laws.proofs.Choice.{both_left, both_right}
use Rattle.bits.specs.Bits.{Bit, bits_of}
use Rattle.bits.specs.Code.{word, word_of, has}
use Rattle.bits.proofs.Fields.{length-bits_of}
use Rattle.bits.proofs.ReadBack.{Back}
use Rattle.layout.specs.Value.{Coefficient}
use Rattle.layout.specs.Numbers.{all, code_sign, code_size}
use Rattle.layout.specs.Sendable.{Sendable}
use Rattle.h263_words.specs.Tables.{mcbpc_of, cbpy, mvd, tcoef, event, escape}
use Rattle.h263_words.specs.Words.{event_read, tcoef_of}
use Rattle.h263_words.proofs.Back.{mcbpc_back, cbpy_back, mvd_back, event_back}

-- ---- what is one of a list passes a test that all of them pass
pub one_of_lem : (p : ℕ → Bool) (xs : List ℕ) (n : ℕ) → T (all p xs) → T (one_of xs n) → T (p n)
one_of_lem p [] n t h = absurd h
one_of_lem p (x ∷ xs) n t h = go (eqb n x) (eqb→eq n x) h (one_of_lem p xs n (both_right (p x) (all p xs) t))
  where
    go : (b : Bool) → (T b → n ≡ x) → T (either b (one_of xs n)) → (T (one_of xs n) → T (p n)) → T (p n)
    go true e h on = subst (λ (k : ℕ). T (p k)) (sym (e tt)) (both_left (p x) (all p xs) t)
    go false e h on = on h

-- ---- each table
module _ (m : ℕ) (rest : List Bit) where
  pub back_mcbpc : (intra : Bool) → T (has (mcbpc_of intra) m) → Back (word (mcbpc_of intra)) (word_of (mcbpc_of intra) m) rest m
  back_mcbpc intra h = record { reads = λ at. mcbpc_back intra m rest at h }

  pub back_cbpy : m ≤ 15 → Back (word cbpy) (word_of cbpy m) rest m
  back_cbpy h = record { reads = λ at. cbpy_back m rest at h }

  pub back_mvd : m ≤ 63 → Back (word mvd) (word_of mvd m) rest m
  back_mvd h = record { reads = λ at. mvd_back m rest at h }

pub back_event : (last : ℕ) (c : Coefficient) (rest : List Bit) → last ≤ 1 → Sendable c → Back event_read (tcoef_of last c) rest (record { last = last; sent = c })
back_event last c rest one g = record { reads = λ at. event_back last one c g rest at }

-- ---- lengths
pub length-event : (last : ℕ) (c : Coefficient) → 1 ≤ length (tcoef_of last c)
unfolding tcoef_of
length-event last c = go (both (ltb (code_size c.code) 16) (has tcoef meant))
  where
    meant : ℕ
    meant = event last c.run (code_size c.code)

    go : (b : Bool)
        → 1 ≤ length (pick b (word_of tcoef meant ++ bits_of 1 (code_sign c.code)) (word_of tcoef escape ++ (bits_of 1 last ++ (bits_of 6 c.run ++ bits_of 8 c.code))))
    go true = omega (arith, length-append (word_of tcoef meant) (bits_of 1 (code_sign c.code)), length-bits_of 1 (code_sign c.code))
    go false =
        omega (arith, length-append (word_of tcoef escape) (bits_of 1 last ++ (bits_of 6 c.run ++ bits_of 8 c.code)), length-append (bits_of 1 last) (bits_of 6 c.run ++ bits_of 8 c.code), length-bits_of 1 last)
