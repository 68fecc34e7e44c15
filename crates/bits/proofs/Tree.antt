-- Walking a tree of codewords reads its table: one computed test for each table says that it does. Assumes nothing.
use mathlib.Core.Path.{◌≡◌, refl, sym, ap, ◌∙◌}
use mathlib.Core.List.{List, [], ◌∷◌}
use mathlib.Core.Bool.{Bool, true, false}
use Prim.Native.Nat.{ℕ, zero, suc, ◌+◌, ◌-◌, ◌*◌}
use native.Mathlib.Nat.{add-zero}
use native.Mathlib.Omega.{arith}
use lib.Dec.{T, eqb, ltb, eqb→eq}
use lib.ListN.{length, get_or, drop}
use Rattle.laws.specs.Choice.{pick, both, either}
use Rattle.laws.proofs.Choice.{both_left, both_right}
use Rattle.refusals.specs.declared.Reason.TheVariants.{BitsEnd, NoCodeword}
use Rattle.refusals.specs.declared.Table.{Table}
use Rattle.bits.specs.Bits.{Bit, bit0, bit1, same}
use Rattle.bits.specs.Read.{Read, got, bad}
use Rattle.bits.specs.Code.{Entry, entry, CodeTable, starts, longer, lookup, word}
use Rattle.bits.specs.Tree.{side, no_empty, right, is_leaf, none, some, walk_of, step, agree}

-- ---- one entry of the definition
pub hit : (w : List Bit) (m : ℕ) (tab : List Entry) (bs : List Bit) (at : ℕ) (o : Read ℕ) → starts w bs ≡ true → lookup (entry w m ∷ tab) bs at o ≡ got m (drop (length w) bs) (at + length w)
unfolding lookup
hit w m tab bs at o e = rw (e, lookup)

pub miss : (w : List Bit) (m : ℕ) (tab : List Entry) (bs : List Bit) (at : ℕ) (o : Read ℕ) → starts w bs ≡ false → lookup (entry w m ∷ tab) bs at o ≡ lookup tab bs at o
unfolding lookup
miss w m tab bs at o e = rw (e, lookup)

-- one bit on
same_bit : (b : Bit) (w : List Bit) (m : ℕ) (tab tab' : List Entry) (bs : List Bit) (p : ℕ) (o : Read ℕ) → ((x : Bool) → both (same b b) x ≡ x)
    → lookup tab (b ∷ bs) p o ≡ lookup tab' bs (p + 1) o
    → lookup (entry (b ∷ w) m ∷ tab) (b ∷ bs) p o ≡ lookup (entry w m ∷ tab') bs (p + 1) o
same_bit b w m tab tab' bs p o s k = go (starts w bs) refl
  where
    go : (t : Bool) → starts w bs ≡ t → lookup (entry (b ∷ w) m ∷ tab) (b ∷ bs) p o ≡ lookup (entry w m ∷ tab') bs (p + 1) o
    go true e =
        let q : p + length (b ∷ w) ≡ p + 1 + length w = omega arith in
        hit (b ∷ w) m tab (b ∷ bs) p o (s (starts w bs) ∙ e) ∙ ap (got m (drop (length w) bs)) q ∙ sym (hit w m tab' bs (p + 1) o e)
    go false e = miss (b ∷ w) m tab (b ∷ bs) p o (s (starts w bs) ∙ e) ∙ k ∙ sym (miss w m tab' bs (p + 1) o e)

lookup-none : (bs : List Bit) (p : ℕ) (o : Read ℕ) → lookup [] bs p o ≡ o
unfolding lookup
lookup-none bs p o = refl

lookup-step : (b : Bit) (tab : List Entry) (bs : List Bit) (p : ℕ) (o : Read ℕ) → T (no_empty tab) → lookup tab (b ∷ bs) p o ≡ lookup (step b tab) bs (p + 1) o
lookup-step b [] bs p o h = lookup-none (b ∷ bs) p o ∙ sym (lookup-none bs (p + 1) o)
lookup-step b (entry [] m ∷ tab) bs p o h = absurd h
lookup-step bit0 (entry (bit0 ∷ w) m ∷ tab) bs p o h = same_bit bit0 w m tab (step bit0 tab) bs p o (λ x. refl) (lookup-step bit0 tab bs p o h)
lookup-step bit0 (entry (bit1 ∷ w) m ∷ tab) bs p o h = miss (bit1 ∷ w) m tab (bit0 ∷ bs) p o refl ∙ lookup-step bit0 tab bs p o h
lookup-step bit1 (entry (bit0 ∷ w) m ∷ tab) bs p o h = miss (bit0 ∷ w) m tab (bit1 ∷ bs) p o refl ∙ lookup-step bit1 tab bs p o h
lookup-step bit1 (entry (bit1 ∷ w) m ∷ tab) bs p o h = same_bit bit1 w m tab (step bit1 tab) bs p o (λ x. refl) (lookup-step bit1 tab bs p o h)

longer-step : (b : Bit) (tab : List Entry) (bs : List Bit) → longer tab (b ∷ bs) ≡ longer (step b tab) bs
unfolding longer
longer-step b [] bs = refl
longer-step b (entry [] m ∷ tab) bs = longer-step b tab bs
longer-step bit0 (entry (bit0 ∷ w) m ∷ tab) bs = ap (either (starts bs w)) (longer-step bit0 tab bs)
longer-step bit0 (entry (bit1 ∷ w) m ∷ tab) bs = longer-step bit0 tab bs
longer-step bit1 (entry (bit0 ∷ w) m ∷ tab) bs = longer-step bit1 tab bs
longer-step bit1 (entry (bit1 ∷ w) m ∷ tab) bs = ap (either (starts bs w)) (longer-step bit1 tab bs)

-- where no bit is left
lookup_end : (tab : List Entry) (p : ℕ) (o : Read ℕ) → T (no_empty tab) → lookup tab [] p o ≡ o
unfolding lookup
lookup_end [] p o h = refl
lookup_end (entry [] m ∷ tab) p o h = absurd h
lookup_end (entry (x ∷ w) m ∷ tab) p o h = lookup_end tab p o h

longer_end : (tab : List Entry) → T (some tab) → longer tab [] ≡ true
unfolding longer
longer_end [] h = absurd h
longer_end (entry w m ∷ tab) h = refl

-- ---- what a table of this name says from place p on, of a codeword that began at `at`
abbrev pub coded : Table → List Entry → List Bit → ℕ → ℕ → Read ℕ
coded name tab bs at p = lookup tab bs p (bad (pick (longer tab bs) BitsEnd (NoCodeword name)) at)

module _ (name : Table) where
  pub coded-step : (b : Bit) (tab : List Entry) (bs : List Bit) (at p : ℕ) → T (no_empty tab) → coded name tab (b ∷ bs) at p ≡ coded name (step b tab) bs at (p + 1)
  coded-step b tab bs at p h =
      rw (longer-step b tab bs, lookup-step b tab bs p (bad (pick (longer (step b tab) bs) BitsEnd (NoCodeword name)) at) h)

  pub coded_end : (tab : List Entry) (at p : ℕ) → T (no_empty tab) → T (some tab) → bad BitsEnd at ≡ coded name tab [] at p
  coded_end tab at p h k = rw (longer_end tab k, lookup_end tab p (bad BitsEnd at) h)

  pub coded_none : (d : List Entry) (bs : List Bit) (at p : ℕ) → T (none d) → bad (NoCodeword name) at ≡ coded name d bs at p
  unfolding lookup longer
  coded_none [] bs at p h = refl
  coded_none (e ∷ d) bs at p h = absurd h

  pub coded_leaf : (d : List Entry) (m : ℕ) (bs : List Bit) (at p : ℕ) → T (is_leaf d m) → got m bs p ≡ coded name d bs at p
  coded_leaf [] m bs at p h = absurd h
  coded_leaf (entry (x ∷ w) m' ∷ tab) m bs at p h = absurd h
  coded_leaf (entry [] m' ∷ []) m bs at p h =
      (λ i. got (sym (eqb→eq m' m h) i) bs (sym (add-zero p) i)) ∙ sym (hit [] m' [] bs p (bad (pick (longer (entry [] m' ∷ []) bs) BitsEnd (NoCodeword name)) at) refl)
  coded_leaf (entry [] m' ∷ e ∷ tab) m bs at p h = absurd h

  -- ---- the walk
  -- one step, by cases on the two tests of the child's number
  turn : (x y : Bool) (d : List Entry) (v : ℕ) (bs : List Bit) (at p : ℕ) (next : Read ℕ) (go : Bool)
      → (T (no_empty d) → T (some d) → T go → next ≡ coded name d bs at p)
      → T (pick x (none d) (pick y (both (no_empty d) (both (some d) go)) (is_leaf d (v - 256))))
      → pick x (bad (NoCodeword name) at) (pick y next (got (v - 256) bs p)) ≡ coded name d bs at p
  turn true y d v bs at p next go k h = coded_none d bs at p h
  turn false true d v bs at p next go k h =
      k (both_left (no_empty d) _ h) (both_left (some d) _ (both_right (no_empty d) _ h)) (both_right (some d) go (both_right (no_empty d) _ h))
  turn false false d v bs at p next go k h = coded_leaf d (v - 256) bs at p h

  walk_coded : (f : ℕ) (t : List ℕ) (q : ℕ) (tab : List Entry) (bs : List Bit) (at p : ℕ) → T (no_empty tab) → T (some tab) → T (agree f t tab q)
      → walk_of name f t q bs at p ≡ coded name tab bs at p
  unfolding walk_of
  walk_coded zero t q tab bs at p h k a = absurd a
  walk_coded (suc f) t q tab [] at p h k a = coded_end tab at p h k
  walk_coded (suc f) t q tab (bit0 ∷ bs) at p h k a =
      let v = get_or t (q * 2 + 0) 0 in
      turn (eqb v 0) (ltb v 256) (step bit0 tab) v bs at (p + 1) (walk_of name f t v bs at (p + 1)) (agree f t (step bit0 tab) v)
      (λ h' k' a'. walk_coded f t v (step bit0 tab) bs at (p + 1) h' k' a') (both_left (side (agree f t) (step bit0 tab) v) (side (agree f t) (step bit1 tab) (get_or t (q * 2 + 1) 0)) a)
      ∙ sym (coded-step bit0 tab bs at p h)
  walk_coded (suc f) t q tab (bit1 ∷ bs) at p h k a =
      let v = get_or t (q * 2 + 1) 0 in
      turn (eqb v 0) (ltb v 256) (step bit1 tab) v bs at (p + 1) (walk_of name f t v bs at (p + 1)) (agree f t (step bit1 tab) v)
      (λ h' k' a'. walk_coded f t v (step bit1 tab) bs at (p + 1) h' k' a') (both_right (side (agree f t) (step bit0 tab) (get_or t (q * 2 + 0) 0)) (side (agree f t) (step bit1 tab) v) a)
      ∙ sym (coded-step bit1 tab bs at p h)

-- a tree that passes the test reads just what the table says
pub walk_right : (f : ℕ) (t : List ℕ) (q : ℕ) (table : CodeTable) (bs : List Bit) (at : ℕ) → T (right f t q table.entries) → walk_of table.name f t q bs at at ≡ word table bs at
unfolding word
walk_right f t q table bs at h =
    let tab = table.entries in
    walk_coded table.name f t q tab bs at at (both_left (no_empty tab) _ h) (both_left (some tab) _ (both_right (no_empty tab) _ h))
    (both_right (some tab) _ (both_right (no_empty tab) _ h))
