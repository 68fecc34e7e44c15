-- The codeword of a meaning, from the entry that spells it; a codeword and a bit more; a codeword appended; which meanings have one. Assumes nothing.
use mathlib.Core.Path.{◌≡◌, refl, sym, ap, ◌∙◌}
use mathlib.Core.Bool.{Bool, true, false}
use mathlib.Core.List.{List, [], ◌∷◌, ◌++◌}
use Prim.Native.Nat.{ℕ, suc, ◌+◌, ◌*◌, ◌/◌, ◌%◌, ◌^◌, ◌<◌, ◌≤◌}
use native.Mathlib.Nat.{zero-add, lt_of_lt_of_le, pow-suc, pow-le-pow_right}
use native.Mathlib.Omega.{arith}
use borrow.Author.Tests.{le-ltb}
use lib.Dec.{T, lit<, eqb, ltb, leb, eqb→eq, leb→le}
use lib.ListN.{length, get_or}
use Rattle.laws.specs.Choice.{pick, either}
use Rattle.laws.proofs.Choice.{both_left, both_right, either_right, T_true, true-false}
use Rattle.laws.specs.Table.{all_b}
use Rattle.laws.proofs.Table.{all_at}
use Rattle.bits.specs.Bits.{Bit, bit0, bit1, bits_of}
use Rattle.bits.specs.Code.{Entry, CodeTable, word_in, word_of, has_in, has}
use Rattle.bits.specs.Appended.{FieldFits, WroteBits, CountablePlace}
use Rattle.bits.specs.Codewords.{codeword_of, Writes, same_bits, codeword_in, spells, spelt}
use Rattle.bits.specs.declared.codeword.Codeword.{Codeword}
use Rattle.bits.proofs.Part.{part_at}
use Rattle.bits.proofs.Numbers.{bits_of-append}
use Rattle.bits.proofs.Codes.{each, free, word_got, word_back}
use Rattle.bits.proofs.Appended.{wrote_as}

pub writes : (w : List Bit) (k x : ℕ) → bits_of k x ≡ w → 1 ≤ k → k ≤ 24 → x < 2 ^ k → Writes w (codeword_of k x)
writes w k x e a b c = record { is = e; fits = record { some = a; short = b; small = c } }

twice : (x k n : ℕ) → x < 2 ^ k → n < 2 ^ 1 → x * 2 + n < 2 ^ (k + 1)
twice x k n h l = let e : k + 1 ≡ suc k = omega arith in rw e (omega (arith, pow-suc 2 k))

-- a codeword and a bit more: its sign
pub writes_bit : (w : List Bit) (k x n : ℕ) → bits_of k x ≡ w → k ≤ 23 → x < 2 ^ k → n < 2 ^ 1 → Writes (w ++ bits_of 1 n) (codeword_of (k + 1) (x * 2 + n))
writes_bit w k x n e a b l =
    writes (w ++ bits_of 1 n) (k + 1) (x * 2 + n) (sym (bits_of-append k 1 x n l) ∙ ap (λ (v : List Bit). v ++ bits_of 1 n) e) (omega arith) (omega arith) (twice x k n b l)

same_bits_lem : (w v : List Bit) → T (same_bits w v) → w ≡ v
same_bits_lem [] [] h = refl
same_bits_lem [] (y ∷ v) h = absurd h
same_bits_lem (x ∷ w) [] h = absurd h
same_bits_lem (bit0 ∷ w) (bit0 ∷ v) h = ap (λ (l : List Bit). bit0 ∷ l) (same_bits_lem w v h)
same_bits_lem (bit0 ∷ w) (bit1 ∷ v) h = absurd h
same_bits_lem (bit1 ∷ w) (bit0 ∷ v) h = absurd h
same_bits_lem (bit1 ∷ w) (bit1 ∷ v) h = ap (λ (l : List Bit). bit1 ∷ l) (same_bits_lem w v h)

-- ---- an entry that spells
pub record Spells (table : List Entry) (m e : ℕ) : Type 0 where
  pub is : bits_of (e % 32) (e / 32) ≡ word_in table m
  pub small : e / 32 < 2 ^ (e % 32)
  pub short : e % 32 ≤ 16
  pub some : has_in table m ≡ true → 1 ≤ e % 32
  pub none : has_in table m ≡ false → e ≡ 0

spells_is : (table : List Entry) (m e : ℕ) → T (spells table m e) → Spells table m e
unfolding spells
spells_is table m e t =
    let h = pick (has_in table m) (ltb 0 (e % 32)) (eqb e 0) in
    let t1 = both_right h _ t in
    let t2 = both_right (ltb (e / 32) (2 ^ (e % 32))) _ t1 in
    record {
      is = same_bits_lem _ _ (both_right (leb (e % 32) 16) _ t2);
      small = leb→le _ _ (both_left (ltb (e / 32) (2 ^ (e % 32))) _ t1);
      short = leb→le _ _ (both_left (leb (e % 32) 16) _ t2);
      some = λ y. leb→le _ _ (yes (has_in table m) y (both_left h _ t));
      none = λ y. eqb→eq _ _ (no (has_in table m) y (both_left h _ t));
    }
  where
    yes : (b : Bool) → b ≡ true → T (pick b (ltb 0 (e % 32)) (eqb e 0)) → T (ltb 0 (e % 32))
    yes true y u = u
    yes false y u = absurd (true-false (sym y))

    no : (b : Bool) → b ≡ false → T (pick b (ltb 0 (e % 32)) (eqb e 0)) → T (eqb e 0)
    no true y u = absurd (true-false y)
    no false y u = u

pub spelt_at : (t : List ℕ) (from n : ℕ) (table : List Entry) → T (spelt t from n table) → (m : ℕ) → m < n → Spells table m (get_or t (from + m) 0)
spelt_at t from n table ok m l = spells_is table m (get_or t (from + m) 0) (rw (zero-add m) at (part_at (spells table) t from 0 n ok m l))

-- the entry's codeword
pub entry_writes : (t : List ℕ) (from n : ℕ) (table : List Entry) → T (spelt t from n table) → (m : ℕ) → m < n → T (has_in table m)
    → {c : Codeword} → c ≡ codeword_in (get_or t (from + m) 0) → Writes (word_in table m) c
entry_writes t from n table ok m l h r =
    let s = spelt_at t from n table ok m l in
    let a = s.some (T_true (has_in table m) h) in
    let b = s.short in
    let e = get_or t (from + m) 0 in
    rw r (writes (word_in table m) (e % 32) (e / 32) s.is a (omega arith) s.small)

-- an entry has a length exactly where the table has a codeword
module _ {table : List Entry} {m e : ℕ} (s : Spells table m e) where
  pub with_word : (e % 32 ≡ 0 → ⊥) → has_in table m ≡ true
  with_word n = go (has_in table m) refl
    where
      go : (b : Bool) → has_in table m ≡ b → b ≡ true
      go true y = refl
      go false y = absurd (n (ap (λ (i : ℕ). i % 32) (s.none y)))

  pub without_word : e % 32 ≡ 0 → has_in table m ≡ false
  without_word z = go (has_in table m) refl
    where
      go : (b : Bool) → has_in table m ≡ b → b ≡ false
      go true y = absurd (let l = s.some y in omega arith)
      go false y = refl

  pub word_small : e / 32 < 65536
  word_small = lt_of_lt_of_le s.small (pow-le-pow_right (lit< tt) s.short)

-- its length and its number, as the code takes them from it
module _ {c : Codeword} (e : ℕ) (r : c ≡ codeword_in e) where
  pub width_in : c.width ≡ e % 32
  width_in = ap (λ (i : Codeword). i.width) r

  pub bits_in : c.bits ≡ e / 32
  bits_in = ap (λ (i : Codeword). i.bits) r

-- ---- each meaning from `from` to `to` has a codeword
abbrev pub has_all : List Entry → ℕ → ℕ → Bool
has_all table from to = all_b (suc to) (λ m. either (ltb m from) (has_in table m))

pub has-each : (table : List Entry) (from to : ℕ) → T (has_all table from to) → (m : ℕ) → from ≤ m → m ≤ to → T (has_in table m)
has-each table from to t m l h =
    either_right (ltb m from) (has_in table m) (le-ltb m from l) (all_at (suc to) (λ i. either (ltb i from) (has_in table i)) t m (omega arith))

-- what each meaning of a table passes, a meaning with a codeword passes
pub has_meant : (p : ℕ → Bool) (table : CodeTable) → T (each p table.entries) → T (free table.entries) → (m : ℕ) → T (has table m) → T (p m)
has_meant p table t a m h = (word_got p table (word_of table m ++ []) 0 m [] (0 + length (word_of table m)) t (word_back table m [] 0 a h)).meant

-- ---- a codeword appended
module _ {w : List Bit} {c : Codeword} (h : Writes w c) {at : ℕ} where
  pub word_ready : CountablePlace at w → FieldFits c.width c.bits × CountablePlace at (bits_of c.width c.bits)
  word_ready n = (h.fits, rw h.is n)

  pub word_wrote : {s t : List ℕ} {r : ℕ} → WroteBits (bits_of c.width c.bits) s at t r → WroteBits w s at t r
  word_wrote g = wrote_as g h.is
