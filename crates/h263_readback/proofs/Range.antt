-- 12 is given for a vector that points out of the picture alone: from a predictor in range every word of MVD leads to a component in range. Assumes nothing.
use Prim.Native.Nat.{ℕ, suc, ◌<◌}
use mathlib.Core.Path.{◌≡◌, refl, sym, ap, ◌∙◌}
use mathlib.Core.Bool.{Bool, true, false}
use mathlib.Core.List.{List, [], ◌∷◌}
use native.Mathlib.Omega.{arith}
use native.Mathlib.Nat.{le_refl}
use lib.Dec.{T}
use lib.IntN.{ℤ, ◌+ℤ◌}
use lib.ListN.{length}
use Rattle.laws.specs.Choice.{pick, either}
use Rattle.refusals.specs.declared.Reason.TheVariants.{BitsEnd, NoCodeword, VectorOut}
use Rattle.refusals.specs.declared.Refusal.{Refusal}
use Rattle.refusals.specs.Number.{number}
use Rattle.bits.specs.Bits.{Bit}
use Rattle.bits.specs.Places.{plain}
use Rattle.bits.specs.Read.{Read, got, refused, endless, next, Judged, fine, against, settle, done}
use Rattle.bits.specs.Code.{Entry, entry, CodeTable, starts, longer, lookup, word}
use Rattle.bits.proofs.Tree.{hit, miss}
use Rattle.bits.proofs.Logic.{Gives, gives}
use Rattle.layout.specs.Value.{Vector}
use Rattle.h263_words.specs.Tables.{mvd}
use Rattle.h263_words.proofs.WordReads.{mvd_reads}
use Rattle.h263_description.specs.Vector.{in_range, in_picture}
use Rattle.h263_description.specs.Landing.{component_of, away_of}
use Rattle.h263_description.proofs.Landing.{one_lands}
use Rattle.h263_layers.specs.Vector.{pair_of, component, component_read, components_read, pointing, vector_read}
use Rattle.h263_readback.specs.Verdict.{RangeNeverRefuses, PointsOut, OnlyPointing}

-- ---- a codeword is refused by 3 or 8
lookup-refused : (tab : List Entry) (bs : List Bit) (at : ℕ) (o : Read ℕ) (why : Refusal) → lookup tab bs at o ≡ refused why → o ≡ refused why
unfolding lookup
lookup-refused [] bs at o why e = e
lookup-refused (entry w m ∷ tab) bs at o why e = go (starts w bs) refl (λ k. lookup-refused tab bs at o why k)
  where
    go : (b : Bool) → starts w bs ≡ b → (lookup tab bs at o ≡ refused why → o ≡ refused why) → o ≡ refused why
    go true s f = let found = hit w m tab bs at o s in absurd (let z : ◌≡◌ {A = ℕ} 0 1 = cc in omega arith)
    go false s f = f (sym (miss w m tab bs at o s) ∙ e)

word-refused : (table : CodeTable) (bs : List Bit) (at : ℕ) (why : Refusal) → word {P = plain} table bs at ≡ refused why → why.reason ≡ VectorOut → ⊥
unfolding word number
word-refused table bs at why e v =
    let o = lookup-refused table.entries bs at _ why e in
    let is : pick (longer table.entries bs) BitsEnd (NoCodeword table.name) ≡ VectorOut = (let r : pick (longer table.entries bs) BitsEnd (NoCodeword table.name) ≡ why.reason = cc in r) ∙ v in
    go (longer table.entries bs) (ap number is)
  where
    go : (b : Bool) → number (pick b BitsEnd (NoCodeword table.name)) ≡ 12 → ⊥
    go true e = omega arith
    go false e = omega arith

-- ---- one component
lands : (predicted : ℤ) (n : ℕ) → T (in_range predicted) → n < 64 → (z : ℤ) × (component predicted (pair_of n) ≡ fine z)
lands predicted n t l = go (in_range (predicted +ℤ component_of n)) (in_range (predicted +ℤ away_of n)) (one_lands predicted n t l).0
  where
    go : (a b : Bool) → T (either a b)
        → (z : ℤ) × (pick a (fine (predicted +ℤ component_of n)) (pick b (fine (predicted +ℤ away_of n)) (against VectorOut)) ≡ fine z)
    go true b h = (predicted +ℤ component_of n, refl)
    go false true h = (predicted +ℤ away_of n, refl)
    go false false h = absurd h

pub range_never_refuses : RangeNeverRefuses
unfolding component_read
range_never_refuses predicted t bs at why e v = go (word mvd bs at) refl (gives mvd_reads bs at (le_refl (suc (length bs)))) e
  where
    go : (x : Read ℕ) → word {P = plain} mvd bs at ≡ x → Gives 1 (λ m left. m < 64) bs at x → next x (λ n. settle at (component predicted (pair_of n))) ≡ refused why → ⊥
    go (got n left p) i g e =
        let h = lands predicted n t g.1 in
        let z : got h.0 left p ≡ refused why = ap (λ (j : Judged ℤ). settle at j left p) (sym h.1) ∙ e in
        let zz : ◌≡◌ {A = ℕ} 0 1 = cc in omega arith
    go (refused r) i g e = let same : r ≡ why = cc in word-refused mvd bs at why (i ∙ ap (λ (r : Refusal). refused r) same) v
    go endless i g e = g

-- ---- both
components_never : (predicted : Vector) → T (in_range predicted.horizontal) → T (in_range predicted.vertical) → (bs : List Bit) (at : ℕ) (why : Refusal)
    → components_read {P = plain} predicted bs at ≡ refused why → why.reason ≡ VectorOut → ⊥
unfolding components_read
components_never predicted t u bs at why e v = first (component_read predicted.horizontal bs at) refl e
  where
    second : (h : ℤ) (left : List Bit) (p : ℕ) (y : Read ℤ) → component_read {P = plain} predicted.vertical left p ≡ y → ◌≡◌ {A = Read Vector} (next y (λ v. done (record { horizontal = h; vertical = v }))) (refused why) → ⊥
    second h left p (got w rest q) i e = let z : ◌≡◌ {A = ℕ} 0 1 = cc in omega arith
    second h left p (refused r) i e = let same : r ≡ why = cc in range_never_refuses predicted.vertical u left p why (i ∙ ap (λ (r : Refusal). refused r) same) v
    second h left p endless i e = let z : ◌≡◌ {A = ℕ} 0 1 = cc in omega arith

    first : (x : Read ℤ) → component_read {P = plain} predicted.horizontal bs at ≡ x
        → ◌≡◌ {A = Read Vector} (next x (λ h left p. next (component_read predicted.vertical left p) (λ v. done (record { horizontal = h; vertical = v })))) (refused why) → ⊥
    first (got h left p) i e = second h left p (component_read predicted.vertical left p) refl e
    first (refused r) i e = let same : r ≡ why = cc in range_never_refuses predicted.horizontal t bs at why (i ∙ ap (λ (r : Refusal). refused r) same) v
    first endless i e = let z : ◌≡◌ {A = ℕ} 0 1 = cc in omega arith

pub only_pointing : OnlyPointing
unfolding vector_read
only_pointing size number address predicted t u bs at why e v = go (components_read predicted bs at) refl e
  where
    judged : (x : Vector) (left : List Bit) (p : ℕ) → components_read {P = plain} predicted bs at ≡ got x left p → (b : Bool) → in_picture size number address x ≡ b
        → settle {P = plain} at (pick b (fine x) (against VectorOut)) left p ≡ refused why → PointsOut size number address predicted bs at why
    judged x left p i true f e = let z : ◌≡◌ {A = ℕ} 0 1 = cc in absurd (omega arith)
    judged x left p i false f e = let placed : why.place ≡ at = cc in record { vector = x; left = left; after = p; read = i; out = f; placed = placed }

    go : (x : Read Vector) → components_read {P = plain} predicted bs at ≡ x → next x (λ v. settle at (pointing size number address v)) ≡ refused why → PointsOut size number address predicted bs at why
    go (got x left p) i e = judged x left p i (in_picture size number address x) refl e
    go (refused r) i e = let same : r ≡ why = cc in absurd (components_never predicted t u bs at why (i ∙ ap (λ (r : Refusal). refused r) same) v)
    go endless i e = let z : ◌≡◌ {A = ℕ} 0 1 = cc in absurd (omega arith)
