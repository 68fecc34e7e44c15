-- A codeword of a table, read beside the same bits with more after them. Each law rests on a test over the table, which antt computes. Assumes nothing.
use Prim.Native.Nat.{ℕ, suc, ◌+◌, ◌≤◌}
use mathlib.Core.Path.{◌≡◌, refl, sym, ap, subst, ◌∙◌}
use mathlib.Core.Bool.{Bool, true, false}
use mathlib.Core.List.{List, [], ◌∷◌, ◌++◌}
use mathlib.Core.Logic.{inl}
use native.Mathlib.Omega.{arith}
use native.Mathlib.Nat.{le_refl}
use lib.Dec.{T, leb, leb→le}
use lib.ListN.{length}
use lib.Seq.{drop-append-le}
use Rattle.laws.specs.Choice.{pick, both, either, opposite}
use Rattle.laws.proofs.Choice.{both_left, both_right, T_true, true-T}
use Rattle.refusals.specs.declared.Reason.{Reason}
use Rattle.refusals.specs.declared.Reason.TheVariants.{BitsEnd, NoCodeword}
use Rattle.refusals.specs.declared.Table.{Table}
use Rattle.refusals.specs.declared.Refusal.{Refusal}
use Rattle.refusals.specs.Number.{number}
use Rattle.bits.specs.Bits.{Bit, bit0, bit1}
use Rattle.bits.specs.Places.{plain}
use Rattle.bits.specs.Read.{Read, got, refused, endless, bad}
use Rattle.bits.specs.Code.{Entry, entry, CodeTable, starts, longer, lookup, word}
use Rattle.bits.proofs.Tree.{hit, miss}
use Rattle.bits.proofs.Codes.{each}
use Rattle.bits.proofs.Logic.{Gives, gives, reads_word}
use Rattle.order.specs.Order.{bits_end}
use Rattle.order.proofs.Logic.{Moved, From, Grown, Moves, Steady, Near}

-- ---- tests
-- no codeword of the table is a beginning of one before it, so that the first that fits is the only one
abbrev clear : List Bit → List Entry → Bool
clear w [] = true
clear w (entry v m ∷ tab) = both (opposite (starts v w)) (clear w tab)

abbrev pub ordered : List Entry → Bool
ordered [] = true
ordered (entry w m ∷ tab) = both (clear w tab) (ordered tab)

-- the table has a codeword
abbrev pub some : List Entry → Bool
some [] = false
some (x ∷ tab) = true

-- each has n bits at most
abbrev pub short : ℕ → List Entry → Bool
short n [] = true
short n (entry w m ∷ tab) = both (leb (length w) n) (short n tab)

-- ---- beginnings
starts_on : (w bs more : List Bit) → T (starts w bs) → T (starts w (bs ++ more))
starts_on [] bs more h = tt
starts_on (x ∷ w) [] more h = absurd h
starts_on (bit0 ∷ w) (bit0 ∷ bs) more h = starts_on w bs more h
starts_on (bit0 ∷ w) (bit1 ∷ bs) more h = absurd h
starts_on (bit1 ∷ w) (bit0 ∷ bs) more h = absurd h
starts_on (bit1 ∷ w) (bit1 ∷ bs) more h = starts_on w bs more h

starts_less : (bs more w : List Bit) → T (starts (bs ++ more) w) → T (starts bs w)
starts_less [] more w h = tt
starts_less (x ∷ bs) more [] h = absurd h
starts_less (bit0 ∷ bs) more (bit0 ∷ w) h = starts_less bs more w h
starts_less (bit0 ∷ bs) more (bit1 ∷ w) h = absurd h
starts_less (bit1 ∷ bs) more (bit0 ∷ w) h = absurd h
starts_less (bit1 ∷ bs) more (bit1 ∷ w) h = starts_less bs more w h

starts_through : (v bs w : List Bit) → T (starts v bs) → T (starts bs w) → T (starts v w)
starts_through [] bs w h k = tt
starts_through (x ∷ v) [] w h k = absurd h
starts_through (x ∷ v) (b ∷ bs) [] h k = absurd k
starts_through (bit0 ∷ v) (bit0 ∷ bs) (bit0 ∷ w) h k = starts_through v bs w h k
starts_through (bit0 ∷ v) (bit0 ∷ bs) (bit1 ∷ w) h k = absurd k
starts_through (bit0 ∷ v) (bit1 ∷ bs) (y ∷ w) h k = absurd h
starts_through (bit1 ∷ v) (bit0 ∷ bs) (y ∷ w) h k = absurd h
starts_through (bit1 ∷ v) (bit1 ∷ bs) (bit0 ∷ w) h k = absurd k
starts_through (bit1 ∷ v) (bit1 ∷ bs) (bit1 ∷ w) h k = starts_through v bs w h k

-- a codeword that fits once more bits follow goes on past the bits
begins : (w bs more : List Bit) → T (starts w (bs ++ more)) → (T (starts w bs) → ⊥) → T (starts bs w)
begins [] bs more h n = absurd (n tt)
begins (x ∷ w) [] more h n = tt
begins (bit0 ∷ w) (bit0 ∷ bs) more h n = begins w bs more h n
begins (bit0 ∷ w) (bit1 ∷ bs) more h n = absurd h
begins (bit1 ∷ w) (bit0 ∷ bs) more h n = absurd h
begins (bit1 ∷ w) (bit1 ∷ bs) more h n = begins w bs more h n

starts-length : (w bs : List Bit) → T (starts w bs) → length w ≤ length bs
starts-length [] bs h = omega arith
starts-length (x ∷ w) [] h = absurd h
starts-length (bit0 ∷ w) (bit0 ∷ bs) h = omega (arith, starts-length w bs h)
starts-length (bit0 ∷ w) (bit1 ∷ bs) h = absurd h
starts-length (bit1 ∷ w) (bit0 ∷ bs) h = absurd h
starts-length (bit1 ∷ w) (bit1 ∷ bs) h = omega (arith, starts-length w bs h)

never : (b : Bool) → b ≡ false → T b → ⊥
never true e t = let z : ◌≡◌ {A = Bool} true false = e in subst (λ (b : Bool). T b) z tt
never false e t = t

not-both : (b : Bool) → T (opposite b) → T b → ⊥
not-both true n t = n
not-both false n t = t

first : (a b : Bool) → T a → T (either a b)
first true b t = tt
first false b t = absurd t

second : (a b : Bool) → T b → T (either a b)
second true b t = tt
second false b t = t

mapped : (a b c d : Bool) → (T a → T c) → (T b → T d) → T (either a b) → T (either c d)
mapped true b c d f g h = first c d (f tt)
mapped false b c d f g h = second c d (g h)

longer_less : (tab : List Entry) (bs more : List Bit) → T (longer tab (bs ++ more)) → T (longer tab bs)
unfolding longer
longer_less [] bs more h = h
longer_less (entry w m ∷ tab) bs more h =
    mapped (starts (bs ++ more) w) (longer tab (bs ++ more)) (starts bs w) (longer tab bs) (starts_less bs more w) (longer_less tab bs more) h

-- ---- where no codeword of the rest is a beginning of w, bits that w goes on from find none there
missed : (tab : List Entry) (w bs : List Bit) (at : ℕ) (o : Read ℕ) → T (clear w tab) → T (starts bs w) → lookup tab bs at o ≡ o
unfolding lookup
missed [] w bs at o t h = refl
missed (entry v m ∷ tab) w bs at o t h = go (starts v bs) refl (missed tab w bs at o (both_right (opposite (starts v w)) (clear w tab) t) h)
  where
    go : (b : Bool) → starts v bs ≡ b → lookup tab bs at o ≡ o → lookup (entry v m ∷ tab) bs at o ≡ o
    go true e k = absurd (not-both (starts v w) (both_left (opposite (starts v w)) (clear w tab) t) (starts_through v bs w (true-T (starts v bs) e) h))
    go false e k = miss v m tab bs at o e ∙ k

module _ (name : Table) (back : Reason → ℕ) (bs more : List Bit) (at : ℕ) where
  abbrev none : Bool → Read ℕ
  none b = bad (pick b BitsEnd (NoCodeword name)) at

  grown_none : (b b' : Bool) → (T b' → T b) → Grown back false more (none b) (none b')
  unfolding bits_end number
  grown_none true b' f = omega arith
  grown_none false true f = absurd (f tt)
  grown_none false false f = refl

  cut_short : (b : Bool) (y : Read ℕ) → T b → From back at y → Grown back false more (none b) y
  unfolding bits_end number
  cut_short true y t g = g
  cut_short false y t g = absurd t

  grown_lookup : (tab : List Entry) (b b' : Bool) → (T b' → T b) → T (ordered tab) → (T (longer tab bs) → T b)
      → Grown back false more (lookup tab bs at (none b)) (lookup tab (bs ++ more) at (none b'))
  unfolding lookup longer
  grown_lookup [] b b' f o g = grown_none b b' f
  grown_lookup (entry w m ∷ tab) b b' f o g =
      go (starts w bs) refl (starts w (bs ++ more)) refl (grown_lookup tab b b' f (both_right (clear w tab) (ordered tab) o) (λ l. g (second (starts bs w) (longer tab bs) l)))
    where
      go : (s : Bool) → starts w bs ≡ s → (s' : Bool) → starts w (bs ++ more) ≡ s' → Grown back false more (lookup tab bs at (none b)) (lookup tab (bs ++ more) at (none b'))
          → Grown back false more (lookup (entry w m ∷ tab) bs at (none b)) (lookup (entry w m ∷ tab) (bs ++ more) at (none b'))
      go true e s' e' k =
          let t : T (starts w bs) = true-T (starts w bs) e in
          let long : length w ≤ length bs = starts-length w bs t in
          subst (λ (x : Read ℕ). Grown back false more x (lookup (entry w m ∷ tab) (bs ++ more) at (none b'))) (sym (hit w m tab bs at (none b) e))
          (inl (hit w m tab (bs ++ more) at (none b') (T_true (starts w (bs ++ more)) (starts_on w bs more t)) ∙ ap (λ (l : List Bit). got m l (at + length w)) (drop-append-le (length w) bs more long)))
      go false e true e' k =
          let goes_on : T (starts bs w) = begins w bs more (true-T (starts w (bs ++ more)) e') (never (starts w bs) e) in
          subst (λ (x : Read ℕ). Grown back false more x (lookup (entry w m ∷ tab) (bs ++ more) at (none b')))
          (sym (miss w m tab bs at (none b) e ∙ missed tab w bs at (none b) (both_left (clear w tab) (ordered tab) o) goes_on))
          (cut_short b (lookup (entry w m ∷ tab) (bs ++ more) at (none b')) (g (first (starts bs w) (longer tab bs) goes_on))
          (subst (λ (y : Read ℕ). From back at y) (sym (hit w m tab (bs ++ more) at (none b') e')) (omega arith)))
      go false e false e' k =
          subst (λ (x : Read ℕ). Grown back false more x (lookup (entry w m ∷ tab) (bs ++ more) at (none b'))) (sym (miss w m tab bs at (none b) e))
          (subst (λ (y : Read ℕ). Grown back false more (lookup tab bs at (none b)) y) (sym (miss w m tab (bs ++ more) at (none b') e'))
          k)

-- ---- what is refused is placed at the codeword's first bit
pub lookup-refused : (tab : List Entry) (bs : List Bit) (at : ℕ) (o : Read ℕ) (why : Refusal) → lookup tab bs at o ≡ refused why → o ≡ refused why
unfolding lookup
lookup-refused [] bs at o why e = e
lookup-refused (entry w m ∷ tab) bs at o why e = go (starts w bs) refl (λ k. lookup-refused tab bs at o why k)
  where
    go : (b : Bool) → starts w bs ≡ b → (lookup tab bs at o ≡ refused why → o ≡ refused why) → o ≡ refused why
    go true s f = let found = hit w m tab bs at o s in absurd (let z : ◌≡◌ {A = ℕ} 0 1 = cc in omega arith)
    go false s f = f (sym (miss w m tab bs at o s) ∙ e)

has_bits : (tab : List Entry) (bs : List Bit) → T (some tab) → longer tab bs ≡ false → 1 ≤ length bs
unfolding longer
has_bits [] bs t e = absurd t
has_bits (entry w m ∷ tab) [] t e = absurd (never true e tt)
has_bits (entry w m ∷ tab) (b ∷ bs) t e = omega arith

none_moved : (name : Table) (bs : List Bit) (at : ℕ) (b : Bool) → (b ≡ false → 1 ≤ length bs) → Moved {A = ℕ} 1 bs at (bad (pick b BitsEnd (NoCodeword name)) at)
unfolding bits_end number
none_moved name bs at true f = (omega arith, omega arith)
none_moved name bs at false f = (omega arith, omega (arith, f refl))

module _ (p : ℕ → Bool) (table : CodeTable) (t : T (each p table.entries)) (s : T (some table.entries)) where
  word_moves : {bound : ℕ} → Moves bound 1 (word table)
  unfolding word
  word_moves = record { moves = λ bs at b. from bs at (word table bs at) refl (gives (reads_word p table t) bs at (le_refl (suc (length bs)))) }
    where
      from : (bs : List Bit) (at : ℕ) (x : Read ℕ) → word table bs at ≡ x → Gives 1 (λ m left. T (p m)) bs at x → Moved 1 bs at x
      from bs at (got m left q) e h = h.0
      from bs at (refused why) e h =
          subst (λ (x : Read ℕ). Moved 1 bs at x) (lookup-refused table.entries bs at _ why e)
          (none_moved table.name bs at (longer table.entries bs) (has_bits table.entries bs s))
      from bs at endless e h = absurd h

  pub steady_word : {back : Reason → ℕ} {bound bound' : ℕ} → T (ordered table.entries) → Steady back false bound bound' 1 (word table) (word table)
  unfolding word
  steady_word {back} o = record {
    here = word_moves;
    there = word_moves;
    grows =
        λ bs more at l l'.
        grown_lookup table.name back bs more at table.entries (longer table.entries bs) (longer table.entries (bs ++ more)) (longer_less table.entries bs more) o (λ g. g);
  }

pub word_near : (table : CodeTable) → Near 0 (word table)
unfolding word
word_near table = record { near = λ bs at why e. let is = lookup-refused table.entries bs at _ why e in let q : at ≡ why.place = cc in omega arith }

-- ---- a codeword's length
lookup-short : (n : ℕ) (tab : List Entry) (bs : List Bit) (at : ℕ) (o : Read ℕ) (m : ℕ) (left : List Bit) (p : ℕ) → T (short n tab) → (o ≡ got m left p → ⊥)
    → lookup tab bs at o ≡ got m left p → p ≤ at + n
unfolding lookup
lookup-short n [] bs at o m left p t f e = absurd (f e)
lookup-short n (entry w k ∷ tab) bs at o m left p t f e =
    go (starts w bs) refl (λ e. lookup-short n tab bs at o m left p (both_right (leb (length w) n) (short n tab) t) f e)
  where
    go : (b : Bool) → starts w bs ≡ b → (lookup tab bs at o ≡ got m left p → p ≤ at + n) → p ≤ at + n
    go true s g =
        let found = hit w k tab bs at o s in
        let q : at + length w ≡ p = cc in
        omega (arith, leb→le (length w) n (both_left (leb (length w) n) (short n tab) t))
    go false s g = g (sym (miss w k tab bs at o s) ∙ e)

pub word-short : (n : ℕ) (table : CodeTable) (bs : List Bit) (at m : ℕ) (left : List Bit) (p : ℕ) → T (short n table.entries) → word {P = plain} table bs at ≡ got m left p → p ≤ at + n
unfolding word
word-short n table bs at m left p t e = lookup-short n table.entries bs at _ m left p t (λ f. let z : ◌≡◌ {A = ℕ} 0 1 = cc in omega arith) e
