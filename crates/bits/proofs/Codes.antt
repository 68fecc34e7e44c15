-- Laws of a table of codewords: where a read codeword ends and what it can mean, and that a codeword that was written is read back, where no
-- codeword of the table is a beginning of another. Each rests on a test over the table, which antt computes. Assumes nothing.
use mathlib.Core.Path.{◌≡◌, refl, sym, ap, ◌∙◌}
use mathlib.Core.List.{List, [], ◌∷◌, ◌++◌}
use mathlib.Core.Bool.{Bool, true, false, not}
use Prim.Native.Nat.{ℕ, ◌+◌, ◌-◌, ◌<◌, ◌≤◌}
use native.Mathlib.Omega.{arith}
use lib.Dec.{T, eqb, eqb→eq}
use lib.ListN.{length, drop, length-drop}
use lib.Seq.{drop-append_seam}
use Rattle.laws.specs.Choice.{pick, both, either}
use Rattle.laws.proofs.Choice.{both_left, both_right}
use Rattle.refusals.specs.declared.Refusal.{Refusal}
use Rattle.bits.specs.Bits.{Bit, bit0, bit1, same}
use Rattle.bits.specs.Places.{plain}
use Rattle.bits.specs.Read.{Read, got, refused}
use Rattle.bits.specs.Code.{Entry, entry, CodeTable, starts, lookup, word, word_in, word_of, has_in, has}
use Rattle.bits.proofs.Tree.{hit, miss}

-- ---- where a codeword ended, and what it means
-- each codeword of the table has a bit, and each meaning passes a test
abbrev pub each : (ℕ → Bool) → List Entry → Bool
each p [] = true
each p (entry [] m ∷ tab) = false
each p (entry (x ∷ w) m ∷ tab) = both (p m) (each p tab)

pub starts-length : (w bs : List Bit) → T (starts w bs) → length w ≤ length bs
starts-length [] bs h = omega arith
starts-length (x ∷ w) [] h = absurd h
starts-length (bit0 ∷ w) (bit0 ∷ bs) h = omega (arith, starts-length w bs h)
starts-length (bit0 ∷ w) (bit1 ∷ bs) h = absurd h
starts-length (bit1 ∷ w) (bit0 ∷ bs) h = absurd h
starts-length (bit1 ∷ w) (bit1 ∷ bs) h = omega (arith, starts-length w bs h)

-- of the bits bs from `at`, the meaning m was read: cs are left, from place p
pub record WordGot (p : ℕ → Bool) (bs : List Bit) (at m : ℕ) (cs : List Bit) (e : ℕ) : Type 0 where
  pub meant : T (p m)
  pub after : at < e
  pub shrinks : length cs < length bs
  pub taken : e + length cs ≡ at + length bs

found-got : (p : ℕ → Bool) (tab : List Entry) (bs : List Bit) (at : ℕ) (o : Read ℕ) (m : ℕ) (cs : List Bit) (e : ℕ) → T (each p tab)
    → (o ≡ got m cs e → ⊥) → lookup tab bs at o ≡ got m cs e → WordGot p bs at m cs e
unfolding lookup
found-got p [] bs at o m cs e t n g = absurd (n g)
found-got p (entry [] m' ∷ tab) bs at o m cs e t n g = absurd t
found-got p (entry (x ∷ w) m' ∷ tab) bs at o m cs e t n g =
    go (starts (x ∷ w) bs) refl (λ k. found-got p tab bs at o m cs e (both_right (p m') (each p tab) t) n k)
  where
    go : (b : Bool) → starts (x ∷ w) bs ≡ b → (lookup tab bs at o ≡ got m cs e → WordGot p bs at m cs e) → WordGot p bs at m cs e
    go true s k =
        let f = hit (x ∷ w) m' tab bs at o s in
        let i : m' ≡ m = cc in
        let q : at + length (x ∷ w) ≡ e = cc in
        let d : length cs ≡ length bs - length (x ∷ w) = let c : cs ≡ drop (length (x ∷ w)) bs = cc in ap length c ∙ length-drop (length (x ∷ w)) bs in
        let l : length (x ∷ w) ≤ length bs = starts-length (x ∷ w) bs (rw s tt) in
        record { meant = rw i at (both_left (p m') (each p tab) t); after = omega arith; shrinks = omega arith; taken = omega arith }
    go false s k = k (sym (miss (x ∷ w) m' tab bs at o s) ∙ g)

never : (r : Refusal) (m : ℕ) (cs : List Bit) (e : ℕ) → ◌≡◌ {A = Read ℕ} (refused r) (got m cs e) → ⊥
never r m cs e q = let z : ◌≡◌ {A = ℕ} 0 1 = cc in omega arith

pub word_got : (p : ℕ → Bool) (table : CodeTable) (bs : List Bit) (at m : ℕ) (cs : List Bit) (e : ℕ) → T (each p table.entries) → word {P = plain} table bs at ≡ got m cs e
    → WordGot p bs at m cs e
unfolding word
word_got p table bs at m cs e t g = found-got p table.entries bs at _ m cs e t (never _ m cs e) g

-- ---- read back
-- neither is a beginning of the other
abbrev differ : List Bit → List Bit → Bool
differ [] v = false
differ (x ∷ w) [] = false
differ (x ∷ w) (y ∷ v) = either (not (same x y)) (differ w v)

abbrev apart : List Bit → List Entry → Bool
apart w [] = true
apart w (entry v m ∷ tab) = both (differ w v) (apart w tab)

-- no codeword of the table is a beginning of another
abbrev pub free : List Entry → Bool
free [] = true
free (entry w m ∷ tab) = both (apart w tab) (free tab)

starts_self : (w r : List Bit) → starts w (w ++ r) ≡ true
starts_self [] r = refl
starts_self (bit0 ∷ w) r = starts_self w r
starts_self (bit1 ∷ w) r = starts_self w r

starts_other : (w v r : List Bit) → T (differ w v) → starts w (v ++ r) ≡ false
starts_other [] v r h = absurd h
starts_other (x ∷ w) [] r h = absurd h
starts_other (bit0 ∷ w) (bit0 ∷ v) r h = starts_other w v r h
starts_other (bit0 ∷ w) (bit1 ∷ v) r h = refl
starts_other (bit1 ∷ w) (bit0 ∷ v) r h = refl
starts_other (bit1 ∷ w) (bit1 ∷ v) r h = starts_other w v r h

apart_case : (e : Bool) (w v u : List Bit) (a h : Bool) → (T a → T h → T (differ w u)) → T (both (differ w v) a) → T (either e h) → T (differ w (pick e v u))
apart_case true w v u a h f t k = both_left (differ w v) a t
apart_case false w v u a h f t k = f (both_right (differ w v) a t) k

apart-word : (w : List Bit) (tab : List Entry) (m : ℕ) → T (apart w tab) → T (has_in tab m) → T (differ w (word_in tab m))
unfolding has_in word_in
apart-word w [] m a h = absurd h
apart-word w (entry v m' ∷ tab) m a h = apart_case (eqb m' m) w v (word_in tab m) (apart w tab) (has_in tab m) (apart-word w tab m) a h

back_case : (e : Bool) (w u r : List Bit) (m m' : ℕ) (tab : List Entry) (at : ℕ) (o : Read ℕ) (h : Bool) → (T e → m' ≡ m) → (T h → T (differ w u))
    → (T h → lookup tab (u ++ r) at o ≡ got m r (at + length u))
    → T (either e h)
    → lookup (entry w m' ∷ tab) (pick e w u ++ r) at o ≡ got m r (at + length (pick e w u))
back_case true w u r m m' tab at o h f g k t = hit w m' tab (w ++ r) at o (starts_self w r) ∙ rw (drop-append_seam w r, f tt)
back_case false w u r m m' tab at o h f g k t = miss w m' tab (u ++ r) at o (starts_other w u r (g t)) ∙ k t

found : (tab : List Entry) (m : ℕ) (r : List Bit) (at : ℕ) (o : Read ℕ) → T (free tab) → T (has_in tab m)
    → lookup tab (word_in tab m ++ r) at o ≡ got m r (at + length (word_in tab m))
unfolding has_in word_in
found [] m r at o a h = absurd h
found (entry w m' ∷ tab) m r at o a h =
    back_case (eqb m' m) w (word_in tab m) r m m' tab at o (has_in tab m) (eqb→eq m' m)
    (apart-word w tab m (both_left (apart w tab) (free tab) a))
    (found tab m r at o (both_right (apart w tab) (free tab) a))
    h

-- the codeword of m is read as m, whatever follows
pub word_back : (table : CodeTable) (m : ℕ) (rest : List Bit) (at : ℕ) → T (free table.entries) → T (has table m)
    → word {P = plain} table (word_of table m ++ rest) at ≡ got m rest (at + length (word_of table m))
unfolding word
word_back table m rest at a h = found table.entries m rest at _ a h
