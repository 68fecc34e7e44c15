-- What one turned bit of a byte does to a frame's word. Assumes nothing.
use mathlib.Core.Path.{◌≡◌, refl, sym, ap, ap₂, subst, ◌∙◌}
use mathlib.Core.Bool.{Bool}
use mathlib.Core.Logic.{◌≢◌}
use mathlib.Core.List.{List, [], ◌∷◌}
use Prim.Native.Nat.{ℕ, zero, suc, ◌+◌, ◌-◌, ◌/◌, ◌%◌, ◌^◌, ◌≤◌, ◌<◌}
use native.Mathlib.Decide.{ℕ_discrete}
use native.Mathlib.Omega.{arith}
use borrow.Author.Tests.{eq-eqb, ne_eqb}
use lib.Dec.{eqb, eqb→eq}
use lib.Bits.{xor_shr, xor_mod, xor_zero_r}
use lib.ListN.{length, get_or, set}
use lib.Seq.{get_or-set_same, get_or-set_other}
use Rattle.laws.specs.Choice.{pick}
use Rattle.laws.specs.Table.{all_b}
use Rattle.laws.proofs.Table.{all_at}
use Rattle.laws.specs.Xor.{◌⊕◌}
use Rattle.bits.specs.Bits.{Bit, bit_of, bit_num, bit_at, bits_from}
use Rattle.bits.proofs.Value.{bit_num-lt, length_bits}
use Rattle.bch.specs.Word.{turned, changed, changes}
use Rattle.bch.specs.Frame.{word, Changed}

-- bit e of the byte that has bit b alone, both counted from the most significant
lone : ℕ → ℕ → Bool
lone b e = eqb (128 / 2 ^ b / 2 ^ (7 - e) % 2) (pick (eqb b e) 1 0)

lone_at : (b e : ℕ) → b < 8 → e < 8 → 128 / 2 ^ b / 2 ^ (7 - e) % 2 ≡ pick (eqb b e) 1 0
unfolding lone
lone_at b e p q = eqb→eq _ _ (all_at 8 (lone b) (all_at 8 (λ b. all_b 8 (lone b)) tt b p) e q)

-- the frame with bit k turned
abbrev pub turned_at : List ℕ → ℕ → List ℕ
turned_at s k = set s (k / 8) (get_or s (k / 8) 0 ⊕ 128 / 2 ^ (k % 8))

module _ (s : List ℕ) (k : ℕ) (l : k / 8 < length s) where
  bit_same : (i : ℕ) → i / 8 ≡ k / 8 → bit_num (turned_at s k) i ≡ bit_num s i ⊕ pick (eqb (k % 8) (i % 8)) 1 0
  unfolding bit_num
  bit_same i e =
      ap (λ (n : ℕ). get_or (turned_at s k) n 0 / 2 ^ (7 - i % 8) % 2) e
      ∙ ap (λ (n : ℕ). n / 2 ^ (7 - i % 8) % 2) (get_or-set_same s (k / 8) _ 0 l)
      ∙ ap (λ (n : ℕ). n % 2) (xor_shr (get_or s (k / 8) 0) (128 / 2 ^ (k % 8)) (7 - i % 8))
      ∙ xor_mod (get_or s (k / 8) 0 / 2 ^ (7 - i % 8)) (128 / 2 ^ (k % 8) / 2 ^ (7 - i % 8)) 1
      ∙ ap₂ ◌⊕◌ (ap (λ (n : ℕ). get_or s n 0 / 2 ^ (7 - i % 8) % 2) (sym e)) (lone_at (k % 8) (i % 8) (omega arith) (omega arith))

  at_turned : bit_at (turned_at s k) k ≡ turned (bit_at s k)
  unfolding bit_at
  at_turned =
      ap bit_of (bit_same k refl ∙ ap (λ (b : Bool). bit_num s k ⊕ pick b 1 0) (eq-eqb (k % 8) (k % 8) refl)) ∙ go (bit_num s k) (bit_num-lt s k)
    where
      go : (n : ℕ) → n < 2 → bit_of (n ⊕ 1) ≡ turned (bit_of n)
      go zero h = refl
      go (suc zero) h = refl
      go (suc (suc n)) h = absurd (omega arith)

  others : (i : ℕ) → i ≢ k → bit_at (turned_at s k) i ≡ bit_at s i
  unfolding bit_at bit_num
  others i n = ap bit_of (go (ℕ_discrete (i / 8) (k / 8)))
    where
      go : Dec (i / 8 ≡ k / 8) → bit_num (turned_at s k) i ≡ bit_num s i
      go (yes e) = bit_same i e ∙ ap (λ (b : Bool). bit_num s i ⊕ pick b 1 0) (ne_eqb (k % 8) (i % 8) (λ f. n (omega arith))) ∙ xor_zero_r (bit_num s i)
      go (no f) = ap (λ (n : ℕ). n / 2 ^ (7 - i % 8) % 2) (get_or-set_other s (k / 8) (i / 8) _ 0 f)

  word_after : (a m : ℕ) → k < a → bits_from (turned_at s k) a m ≡ bits_from s a m
  unfolding bits_from
  word_after a zero h = refl
  word_after a (suc m) h = ap₂ (λ (b : Bit) (bs : List Bit). b ∷ bs) (others a (λ e. omega arith)) (word_after (a + 1) m (omega arith))

  -- place n of the m bits from a on is bit k
  word-turned : (a m n : ℕ) → n < m → a + m ≡ k + suc n → bits_from (turned_at s k) a m ≡ changed n (bits_from s a m)
  unfolding bits_from changed
  word-turned a zero n h e = absurd (omega arith)
  word-turned a (suc m) n h e = go (ℕ_discrete n m) (λ o. word-turned (a + 1) m n (omega arith) (omega arith))
    where
      Goal : Bool → Type 0
      Goal b =
          bit_at (turned_at s k) a ∷ bits_from (turned_at s k) (a + 1) m
          ≡ pick b (turned (bit_at s a) ∷ bits_from s (a + 1) m) (bit_at s a ∷ changed n (bits_from s (a + 1) m))

      go : Dec (n ≡ m) → ((n ≡ m → ⊥) → bits_from (turned_at s k) (a + 1) m ≡ changed n (bits_from s (a + 1) m)) → Goal (eqb n (length (bits_from s (a + 1) m)))
      go (yes o) more =
          let i : a ≡ k = omega arith in
          subst Goal (sym (eq-eqb n (length (bits_from s (a + 1) m)) (o ∙ sym (length_bits s (a + 1) m))))
          (ap₂ (λ (b : Bit) (bs : List Bit). b ∷ bs)
          (ap (bit_at (turned_at s k)) i ∙ at_turned ∙ ap (λ (j : ℕ). turned (bit_at s j)) (sym i))
          (word_after (a + 1) m (omega arith)))
      go (no o) more =
          subst Goal (sym (ne_eqb n (length (bits_from s (a + 1) m)) (λ f. o (f ∙ length_bits s (a + 1) m))))
          (ap₂ (λ (b : Bit) (bs : List Bit). b ∷ bs) (others a (λ i. o (omega arith))) (more o))

-- a place past the word
changed-none : (n : ℕ) (f : List Bit) → length f ≤ n → changed n f ≡ f
unfolding changed
changed-none n [] l = refl
changed-none n (x ∷ f) l = rw (ne_eqb n (length f) (λ e. omega arith), changed-none n f (omega arith))

pub turned_none : (s : List ℕ) (n : ℕ) → 511 ≤ n → Changed (n ∷ []) s s
unfolding changes
turned_none s n l = record { framing = refl; changed = sym (changed-none n (word s) (omega (arith, length_bits s 1 511))) }

pub turned_one : (s : List ℕ) (n : ℕ) → length s ≡ 64 → n < 511 → Changed (n ∷ []) s (turned_at s (511 - n))
unfolding changes
turned_one s n e l =
    record {
      framing = others s (511 - n) inside 0 (λ z. omega arith);
      changed = word-turned s (511 - n) inside 1 511 n l (omega arith);
    }
  where
    inside : (511 - n) / 8 < length s
    inside = omega arith

pub turned_two : (m n : ℕ) (s t u : List ℕ) → Changed (m ∷ []) s t → Changed (n ∷ []) t u → Changed (m ∷ n ∷ []) s u
unfolding changes
turned_two m n s t u a b = record { framing = b.framing ∙ a.framing; changed = b.changed ∙ ap (changed n) a.changed }

pub as_it_is : (s : List ℕ) → Changed [] s s
unfolding changes
as_it_is s = record { framing = refl; changed = refl }
