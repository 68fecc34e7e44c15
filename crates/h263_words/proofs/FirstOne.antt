-- A codeword of MCBPC has a 1 among its first nine bits, so that no start code begins it; written or read. Assumes nothing.
use mathlib.Core.Path.{◌≡◌, refl, sym, ◌∙◌}
use mathlib.Core.Bool.{Bool, true, false}
use mathlib.Core.List.{List, [], ◌∷◌, ◌++◌}
use Prim.Native.Nat.{ℕ, zero, suc}
use native.Mathlib.Omega.{arith}
use lib.Dec.{T, eqb}
use Rattle.laws.specs.Choice.{pick, both, either}
use Rattle.laws.proofs.Choice.{both_left, both_right, true-T}
use Rattle.refusals.specs.declared.Refusal.{Refusal}
use Rattle.bits.specs.Bits.{Bit, bit0, bit1}
use Rattle.bits.specs.Places.{plain}
use Rattle.bits.specs.Read.{Read, got, refused}
use Rattle.bits.specs.Code.{Entry, entry, CodeTable, starts, lookup, word, word_in, word_of, has_in, has}
use Rattle.bits.proofs.Tree.{miss}
use Rattle.h263_words.specs.Tables.{mcbpc_intra, mcbpc_inter, mcbpc_of}

-- a 1 is among the first n bits
abbrev pub one_within : ℕ → List Bit → Bool
one_within zero bs = false
one_within (suc n) [] = false
one_within (suc n) (bit0 ∷ bs) = one_within n bs
one_within (suc n) (bit1 ∷ bs) = true

-- whatever follows
pub one_append : (n : ℕ) (w rest : List Bit) → T (one_within n w) → T (one_within n (w ++ rest))
one_append zero w rest h = absurd h
one_append (suc n) [] rest h = absurd h
one_append (suc n) (bit0 ∷ w) rest h = one_append n w rest h
one_append (suc n) (bit1 ∷ w) rest h = tt

one_starts : (n : ℕ) (w bs : List Bit) → T (starts w bs) → T (one_within n w) → T (one_within n bs)
one_starts zero w bs s h = absurd h
one_starts (suc n) [] bs s h = absurd h
one_starts (suc n) (x ∷ w) [] s h = absurd s
one_starts (suc n) (bit0 ∷ w) (bit0 ∷ bs) s h = one_starts n w bs s h
one_starts (suc n) (bit0 ∷ w) (bit1 ∷ bs) s h = tt
one_starts (suc n) (bit1 ∷ w) (bit0 ∷ bs) s h = absurd s
one_starts (suc n) (bit1 ∷ w) (bit1 ∷ bs) s h = tt

-- in each codeword of a table
abbrev one_in_each : ℕ → List Entry → Bool
one_in_each n [] = true
one_in_each n (entry w m ∷ table) = both (one_within n w) (one_in_each n table)

one_written : (n : ℕ) (table : List Entry) (m : ℕ) → T (one_in_each n table) → T (has_in table m) → T (one_within n (word_in table m))
unfolding has_in word_in
one_written n [] m t h = absurd h
one_written n (entry w m' ∷ table) m t h = go (eqb m' m) (one_written n table m (both_right (one_within n w) (one_in_each n table) t)) h
  where
    go : (b : Bool) → (T (has_in table m) → T (one_within n (word_in table m))) → T (either b (has_in table m)) → T (one_within n (pick b w (word_in table m)))
    go true k u = both_left (one_within n w) (one_in_each n table) t
    go false k u = k u

one_found : (n : ℕ) (table : List Entry) (bs : List Bit) (at : ℕ) (o : Read ℕ) (m : ℕ) (cs : List Bit) (p : ℕ) → T (one_in_each n table)
    → (o ≡ got m cs p → ⊥) → lookup table bs at o ≡ got m cs p → T (one_within n bs)
unfolding lookup
one_found n [] bs at o m cs p t none g = absurd (none g)
one_found n (entry w m' ∷ table) bs at o m cs p t none g =
    go (starts w bs) refl (one_found n table bs at o m cs p (both_right (one_within n w) (one_in_each n table) t) none)
  where
    go : (b : Bool) → starts w bs ≡ b → (lookup table bs at o ≡ got m cs p → T (one_within n bs)) → T (one_within n bs)
    go true s k = one_starts n w bs (true-T (starts w bs) s) (both_left (one_within n w) (one_in_each n table) t)
    go false s k = k (sym (miss w m' table bs at o s) ∙ g)

never : (r : Refusal) (m : ℕ) (cs : List Bit) (p : ℕ) → ◌≡◌ {A = Read ℕ} (refused r) (got m cs p) → ⊥
never r m cs p q = let z : ◌≡◌ {A = ℕ} 0 1 = cc in omega arith

one_read : (n : ℕ) (table : CodeTable) (bs : List Bit) (at m : ℕ) (cs : List Bit) (p : ℕ) → T (one_in_each n table.entries) → word {P = plain} table bs at ≡ got m cs p → T (one_within n bs)
unfolding word
one_read n table bs at m cs p t g = one_found n table.entries bs at _ m cs p t (never _ m cs p) g

-- ---- MCBPC
ones : (intra : Bool) → T (one_in_each 9 (mcbpc_of intra).entries)
unfolding mcbpc_intra mcbpc_inter
ones true = tt
ones false = tt

pub mcbpc_one : (intra : Bool) (m : ℕ) → T (has (mcbpc_of intra) m) → T (one_within 9 (word_of (mcbpc_of intra) m))
mcbpc_one intra m h = one_written 9 (mcbpc_of intra).entries m (ones intra) h

-- bits at which one is read
pub mcbpc_one_read : (intra : Bool) (bs : List Bit) (at m : ℕ) (cs : List Bit) (p : ℕ) → word {P = plain} (mcbpc_of intra) bs at ≡ got m cs p → T (one_within 9 bs)
mcbpc_one_read intra bs at m cs p g = one_read 9 (mcbpc_of intra) bs at m cs p (ones intra) g
