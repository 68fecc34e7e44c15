-- A codeword read by its entry is the one that its table has: an entry is what its bits decide, and where so many are left they are the picture's.
-- Assumes nothing.
use mathlib.Core.Path.{◌≡◌, refl, sym, ap, subst, ◌∙◌}
use mathlib.Core.List.{List, [], ◌∷◌}
use mathlib.Core.Bool.{Bool, true, false}
use Prim.Native.Nat.{ℕ, zero, suc, ◌+◌, ◌-◌, ◌/◌, ◌%◌, ◌^◌, ◌<◌, ◌≤◌}
use native.Mathlib.Nat.{add-zero, zero-add, not-suc-le-zero, le_of_suc-le-suc}
use native.Mathlib.Omega.{arith}
use borrow.Author.Tests.{ltb-false, le-leb, eq-eqb, ne_eqb}
use lib.Dec.{T, ltb}
use lib.ListN.{length, get_or, drop}
use lib.Seq.{get_or-take, get_or-drop}
use Rattle.laws.specs.Choice.{pick}
use Rattle.laws.proofs.Choice.{both_left, both_right}
use Rattle.laws.proofs.Lists.{alike_equal}
use Rattle.refusals.specs.declared.Reason.TheVariants.{NoCodeword}
use Rattle.bits.specs.Bits.{Bit, bits_of, value, bits_from, bits_left}
use Rattle.bits.specs.Places.{plain}
use Rattle.bits.specs.Read.{got, bad}
use Rattle.bits.specs.Code.{Entry, entry, CodeTable, word}
use Rattle.bits.specs.Tree.{step, no_empty, some, right, walk_of}
use Rattle.bits.specs.Windows.{Decided, undecided, dead, ended, judge, decide}
use Rattle.bits.specs.Entries.{entry_of, entries_from, entries_of, entries_at, entries_right, entry_read, without_entry}
use Rattle.bits.proofs.Value.{value-lt, length_bits}
use Rattle.bits.proofs.Numbers.{bits_value}
use Rattle.bits.proofs.Tree.{walk_right}
use Rattle.bits.proofs.Windows.{said, decided_word}

-- ---- after how many bits it is decided: more than were taken before, and no more than there are
abbrev pub Reached : ℕ → ℕ → Decided → Type 0
Reached c j undecided = Unit {0}
Reached c j (dead k) = k ≤ c + j
Reached c j (ended k m) = (c < k) × (k ≤ c + j)

reached_on : (c j : ℕ) (d : Decided) → Reached (suc c) j d → Reached c (suc j) d
reached_on c j undecided r = tt
reached_on c j (dead k) r = omega arith
reached_on c j (ended k m) r = (omega arith, omega arith)

reached-judge : (c j : ℕ) (d : List Entry) (next : Decided) → Reached c (suc j) next → Reached c (suc j) (judge d (suc c) next)
reached-judge c j [] next r = omega arith
reached-judge c j (entry [] m ∷ []) next r = (omega arith, omega arith)
reached-judge c j (entry [] m ∷ e ∷ tab) next r = tt
reached-judge c j (entry (x ∷ w) m ∷ tab) next r = go (no_empty tab)
  where
    go : (y : Bool) → Reached c (suc j) (pick y next undecided)
    go true = r
    go false = tt

reached : (tab : List Entry) (bs : List Bit) (c : ℕ) → Reached c (length bs) (decide tab bs c)
reached tab [] c = tt
reached tab (b ∷ bs) c =
    reached-judge c (length bs) (step b tab) (decide (step b tab) bs (suc c)) (reached_on c (length bs) (decide (step b tab) bs (suc c)) (reached (step b tab) bs (suc c)))

-- ---- the entry of a number
entry_from : (width : ℕ) (table : List Entry) (i n k : ℕ) → k < n → get_or (entries_from width table i n) k 0 ≡ entry_of (decide table (bits_of width (i + k)) 0)
unfolding entries_from
entry_from width table i zero k l = absurd (not-suc-le-zero l)
entry_from width table i (suc n) zero l = ap (λ (x : ℕ). entry_of (decide table (bits_of width x) 0)) (sym (add-zero i))
entry_from width table i (suc n) (suc k) l =
    let e : suc i + k ≡ i + suc k = omega arith in
    entry_from width table (suc i) n k (le_of_suc-le-suc l) ∙ ap (λ (x : ℕ). entry_of (decide table (bits_of width x) 0)) e

pub entries_are : (t : List ℕ) (from width : ℕ) (table : List Entry) → T (entries_right t from width table) → entries_at t from width ≡ entries_of width table
entries_are t from width table ok = alike_equal (entries_at t from width) (entries_of width table) ok

pub entry_of_lem : (t : List ℕ) (from width : ℕ) (table : List Entry) → T (entries_right t from width table) → (i : ℕ) → i < 2 ^ width
    → get_or t (from + i) 0 ≡ entry_of (decide table (bits_of width i) 0)
entry_of_lem t from width table ok i l =
    sym (get_or-drop from t i 0) ∙ sym (get_or-take (2 ^ width) (drop from t) i 0 l) ∙ ap (λ (es : List ℕ). get_or es i 0) (entries_are t from width table ok)
    ∙ entry_from width table 0 (2 ^ width) i l ∙ ap (λ (x : ℕ). entry_of (decide table (bits_of width x) 0)) (zero-add i)

-- ---- a read by the entry
-- what the bits at a place decide
abbrev shown : CodeTable → List ℕ → ℕ → ℕ → Decided
shown table s at width = decide table.entries (bits_from s at width) 0

-- an entry with a length
pub record WithLength (table : CodeTable) (s : List ℕ) (n at e : ℕ) : Type 0 where
  pub room : at + e % 32 ≤ n
  pub word_is : got (e / 32) (bits_left s n (at + e % 32)) (at + e % 32) ≡ word {P = plain} table (bits_left s n at) at

-- what an entry makes of the codeword at its bits
pub record EntryReads (t : List ℕ) (root : ℕ) (table : CodeTable) (s : List ℕ) (n at e : ℕ) : Type 0 where
  pub found : (e % 32 ≡ 0 → ⊥) → WithLength table s n at e
  pub without : e % 32 ≡ 0 → without_entry table.name t root e (bits_left s n at) at ≡ word table (bits_left s n at) at

-- a tree and entries that are right for a table, and the entry that is read
module _ (t : List ℕ) (root from width : ℕ) (table : CodeTable) (tree : T (right 16 t root table.entries)) (ok : T (entries_right t from width table.entries))
    (small : width ≤ 24) (s : List ℕ) (n at e : ℕ) (inside : at ≤ n) (is : e ≡ entry_read t from width s n at) where
  full : T (no_empty table.entries)
  full = both_left (no_empty table.entries) _ tree

  many : T (some table.entries)
  many = both_left (some table.entries) _ (both_right (no_empty table.entries) _ tree)

  -- where too few bits are left, the entry decides nothing
  said_short : ltb (n - at) width ≡ true → e ≡ 32
  said_short f = is ∙ rw f

  -- else it says what they decide
  said-shown : ltb (n - at) width ≡ false → e ≡ entry_of (shown table s at width)
  said-shown f =
      is ∙ rw f (entry_of_lem t from width table.entries ok (value s at width) (value-lt s at width) ∙ ap (λ (bs : List Bit). entry_of (decide table.entries bs 0)) (sym (bits_value s at width)))

  reach : Reached 0 width (shown table s at width)
  reach = subst (λ (j : ℕ). Reached 0 j (shown table s at width)) (length_bits s at width) (reached table.entries (bits_from s at width) 0)

  word-dead : (k : ℕ) → shown table s at width ≡ dead k → at + k ≤ n → word table (bits_left s n at) at ≡ bad (NoCodeword table.name) at
  word-dead k f l = decided_word table width s n at full many (rw f tt) ∙ ap (said table.name s n at) f ∙ rw (le-leb (at + k) n l)

  word-ended : (k m : ℕ) → shown table s at width ≡ ended k m → at + k ≤ n → word {P = plain} table (bits_left s n at) at ≡ got m (bits_left s n (at + k)) (at + k)
  word-ended k m f l = decided_word table width s n at full many (rw f tt) ∙ ap (said table.name s n at) f ∙ rw (le-leb (at + k) n l)

  walked : walk_of table.name 16 t root (bits_left s n at) at at ≡ word table (bits_left s n at) at
  walked = walk_right 16 t root table (bits_left s n at) at tree

  -- ---- an entry with a length is the codeword, and its bits are left
  with_length : (e % 32 ≡ 0 → ⊥) → WithLength table s n at e
  with_length some-length = by_left (ltb (n - at) width) refl
    where
      by_shown : width ≤ n - at → (d : Decided) → shown table s at width ≡ d → e ≡ entry_of d → Reached 0 width d → WithLength table s n at e
      by_shown l undecided f q r = absurd (some-length (ap (λ (x : ℕ). x % 32) q))
      by_shown l (dead k) f q r = absurd (some-length (ap (λ (x : ℕ). x % 32) q))
      by_shown l (ended k m) f q r =
          let short : k ≤ 24 = omega (arith, r.1) in
          let meaning : e / 32 ≡ m = omega arith in
          let size : e % 32 ≡ k = omega arith in
          let room : at + k ≤ n = omega (arith, r.1) in
          record {
            room = rw size room;
            word_is = (λ i. got (meaning i) (bits_left s n (at + size i)) (at + size i)) ∙ sym (word-ended k m f room);
          }

      by_left : (b : Bool) → ltb (n - at) width ≡ b → WithLength table s n at e
      by_left true f = absurd (some-length (ap (λ (x : ℕ). x % 32) (said_short f)))
      by_left false f = by_shown (ltb-false (n - at) width f) (shown table s at width) refl (said-shown f) reach

  -- ---- without one it is as the definition says
  without_length : e % 32 ≡ 0 → without_entry table.name t root e (bits_left s n at) at ≡ word table (bits_left s n at) at
  without_length no_length = by_left (ltb (n - at) width) refl
    where
      by_tree : e ≡ 32 → without_entry table.name t root e (bits_left s n at) at ≡ word table (bits_left s n at) at
      by_tree q = let z : e ≡ 0 → ⊥ = λ y. omega arith in rw (ne_eqb e 0 z) walked

      by_shown : width ≤ n - at → (d : Decided) → shown table s at width ≡ d → e ≡ entry_of d → Reached 0 width d
          → without_entry table.name t root e (bits_left s n at) at ≡ word table (bits_left s n at) at
      by_shown l undecided f q r = by_tree q
      by_shown l (dead k) f q r = let room : at + k ≤ n = omega arith in rw (eq-eqb e 0 q) (sym (word-dead k f room))
      by_shown l (ended k m) f q r = absurd (omega (arith, r.0, r.1))

      by_left : (b : Bool) → ltb (n - at) width ≡ b → without_entry table.name t root e (bits_left s n at) at ≡ word table (bits_left s n at) at
      by_left true f = by_tree (said_short f)
      by_left false f = by_shown (ltb-false (n - at) width f) (shown table s at width) refl (said-shown f) reach

  pub entry_reads : EntryReads t root table s n at e
  entry_reads = record { found = with_length; without = without_length }
