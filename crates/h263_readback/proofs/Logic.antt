-- A logic of reads beside the same reads with more bits after them: a rule for each way to read. Assumes nothing.
-- `Stays r s`: what r refuses, it refuses for a reason of reading bits. And of the same bits with more after them s gives the meaning that r gives and leaves those bits too, or refuses alike, unless r lacked bits.
-- s is r, but for a loop, which has more turns where there are more bits. Of a read that doesn't end nothing is said.
use Prim.Native.Nat.{ℕ, zero, suc, ◌+◌, ◌*◌, ◌≤◌}
use mathlib.Core.Path.{◌≡◌, refl, sym, ap, subst, ◌∙◌}
use mathlib.Core.Bool.{Bool, true, false}
use mathlib.Core.List.{List, [], ◌∷◌, ◌++◌}
use native.Mathlib.Omega.{arith}
use native.Mathlib.Nat.{le_refl}
use lib.Dec.{T, eqb}
use lib.ListN.{length, drop, length-append}
use lib.Seq.{drop-append-le}
use Rattle.laws.specs.Choice.{pick, both, either, opposite}
use Rattle.laws.proofs.Choice.{both_left, both_right, T_true, true-T, true-false}
use Rattle.refusals.specs.declared.Reason.{Reason}
use Rattle.refusals.specs.declared.Reason.TheVariants.{BitsEnd, NoCodeword}
use Rattle.refusals.specs.declared.Table.{Table}
use Rattle.refusals.specs.declared.Refusal.{Refusal}
use Rattle.refusals.specs.Number.{number}
use Rattle.bits.specs.Bits.{Bit, bit0, bit1, num}
use Rattle.bits.specs.Read.{Read, got, refused, endless, bad, Reader, next, ◌>>=◌, done, field_from, field, Judged, fine, against, settle, judged_read, moved_read, whole, loop, never}
use Rattle.bits.specs.Code.{Entry, entry, CodeTable, starts, longer, lookup, word}
use Rattle.bits.proofs.Tree.{hit, miss}
use Rattle.layout.specs.Proper.{If}
use Rattle.fields.specs.Rules.{optional}
use Rattle.h263_readback.specs.Verdict.{from_to, bits_end}

-- ---- one read
-- the reasons that reading bits gives: 3 to 8, 10 to 12 and 14. 13 is given for bits that are left
abbrev pub of_bits : Reason → Bool
of_bits reason = both (from_to 3 14 reason) (opposite (eqb (number reason) 13))

abbrev pub Refusing : {A : Type 0} → Read A → Type 0
Refusing (got a left p) = Unit {0}
Refusing (refused why) = T (of_bits why.reason)
Refusing endless = Unit {0}

-- what is given, beside what is given once more bits follow
abbrev pub Grown : {A : Type 0} → List Bit → Read A → Read A → Type 0
Grown more (got a left p) y = y ≡ got a (left ++ more) p
Grown more (refused why) y = If (bits_end why.reason) (Unit {0}) (y ≡ refused why)
Grown more endless y = Unit {0}

pub record Stays {A : Type 0} (r s : Reader A) : Type 0 where
  pub refuses : (bs : List Bit) (at : ℕ) → Refusing (r bs at)
  pub grows : (bs more : List Bit) (at : ℕ) → Grown more (r bs at) (s (bs ++ more) at)

-- refused alike
pub grown_alike : {A : Type 0} (more : List Bit) (why : Refusal) (y : Read A) → y ≡ refused why → Grown more (refused why) y
grown_alike more why y e = go (bits_end why.reason)
  where
    go : (b : Bool) → If b (Unit {0}) (y ≡ refused why)
    go true = tt
    go false = e

-- ---- one read after another
module _ {A B : Type 0} (k l : A → Reader B) where
  pub refusing_after : (x : Read A) → Refusing x → ((a : A) (left : List Bit) (place : ℕ) → Refusing (k a left place)) → Refusing (next x k)
  refusing_after (got a left p) h f = f a left p
  refusing_after (refused why) h f = h
  refusing_after endless h f = tt

  pub grown_after : (more : List Bit) (x y : Read A) → Grown more x y
      → ((a : A) (left : List Bit) (place : ℕ) → Grown more (k a left place) (l a (left ++ more) place)) → Grown more (next x k) (next y l)
  grown_after more (got a left p) y e f = subst (λ (z : Read A). Grown more (k a left p) (next z l)) (sym e) (f a left p)
  grown_after more (refused why) y e f = go (bits_end why.reason) e
    where
      go : (b : Bool) → If b (Unit {0}) (y ≡ refused why) → If b (Unit {0}) (next y l ≡ refused why)
      go true e = tt
      go false e = ap (λ (z : Read A). next z l) e
  grown_after more endless y e f = tt

-- ---- the rules
module _ {A : Type 0} where
  pub stays_done : {a : A} → Stays (done a) (done a)
  stays_done = record { refuses = λ bs at. tt; grows = λ bs more at. refl }

  pub stays_never : {s : Reader A} → Stays never s
  stays_never = record { refuses = λ bs at. tt; grows = λ bs more at. tt }

  -- a loop has a turn more than there are bits
  pub stays_loop : {turn : ℕ → Reader A} → ((n m : ℕ) → n ≤ m → Stays (turn n) (turn m)) → Stays (loop turn) (loop turn)
  stays_loop h = record {
    refuses = λ bs at. (h (suc (length bs)) (suc (length bs)) (le_refl (suc (length bs)))).refuses bs at;
    grows = λ bs more at. (h (suc (length bs)) (suc (length (bs ++ more))) (omega (arith, length-append bs more))).grows bs more at;
  }

  -- several fields that are one codeword
  pub stays_whole : {r s : Reader A} → Stays r s → Stays (whole r) (whole s)
  stays_whole {r} {s} h = record {
    refuses = λ bs at. moved at (r bs at) (h.refuses bs at);
    grows = λ bs more at. beside at more (r bs at) (s (bs ++ more) at) (h.grows bs more at);
  }
    where
      moved : (at : ℕ) (x : Read A) → Refusing x → Refusing (moved_read at x)
      moved at (got a left p) g = tt
      moved at (refused why) g = g
      moved at endless g = tt

      beside : (at : ℕ) (more : List Bit) (x y : Read A) → Grown more x y → Grown more (moved_read at x) (moved_read at y)
      beside at more (got a left p) y e = ap (moved_read at) e
      beside at more (refused why) y e = go (bits_end why.reason) e
        where
          go : (b : Bool) → If b (Unit {0}) (y ≡ refused why) → If b (Unit {0}) (moved_read at y ≡ bad why.reason at)
          go true e = tt
          go false e = ap (moved_read at) e
      beside at more endless y e = tt

  -- a read that the type may leave out
  pub stays_optional : {r s : Reader A} (t : Bool) (a : A) → Stays r s → Stays (optional t a r) (optional t a s)
  stays_optional true a h = h
  stays_optional false a h = stays_done

  pub stays_pick : {r s u v : Reader A} (t : Bool) → Stays r s → Stays u v → Stays (pick t r u) (pick t s v)
  stays_pick true h g = h
  stays_pick false h g = g

pub stays_then : {A B : Type 0} {r s : Reader A} {k l : A → Reader B} → Stays r s → ((a : A) → Stays (k a) (l a)) → Stays (r >>= k) (s >>= l)
stays_then {r = r} {s} {k} {l} h f = record {
  refuses = λ bs at. refusing_after k l (r bs at) (h.refuses bs at) (λ a left p. (f a).refuses left p);
  grows = λ bs more at. grown_after k l more (r bs at) (s (bs ++ more) at) (h.grows bs more at) (λ a left p. (f a).grows left more p);
}

-- what is made of what was read
pub stays_map : {A B : Type 0} {r s : Reader A} (f : A → B) → Stays r s → Stays (r >>= λ a. done (f a)) (s >>= λ a. done (f a))
stays_map f h = stays_then h (λ a. stays_done)

-- ---- a rule's judgement
abbrev pub Judging : {A : Type 0} → Judged A → Type 0
Judging (fine a) = Unit {0}
Judging (against reason) = T (of_bits reason)

pub record Judges {A : Type 0} (j : Judged A) : Type 0 where
  pub judges : Judging j

pub judges_fine : {A : Type 0} (a : A) → Judges (fine a)
judges_fine a = record { judges = tt }

pub judges_against : {A : Type 0} (reason : Reason) → T (of_bits reason) → Judges {A = A} (against reason)
judges_against reason t = record { judges = t }

pub judges_pick : {A : Type 0} {x y : Judged A} (t : Bool) → Judges x → Judges y → Judges (pick t x y)
judges_pick true f g = f
judges_pick false f g = g

-- "The place is the first bit of the field or codeword"
pub stays_judged : {A B : Type 0} {r s : Reader A} {rule : A → Judged B} → Stays r s → ((a : A) → Judges (rule a)) → Stays (judged_read r rule) (judged_read s rule)
stays_judged {A} {B} {r} {s} {rule} h f = record {
  refuses = λ bs at. refusing_after (λ a. settle at (rule a)) (λ a. settle at (rule a)) (r bs at) (h.refuses bs at) (λ a left p. settled at (rule a) left p (f a).judges);
  grows = λ bs more at. grown_after (λ a. settle at (rule a)) (λ a. settle at (rule a)) more (r bs at) (s (bs ++ more) at) (h.grows bs more at) (λ a left p. beside at more (rule a) left p);
}
  where
    settled : (start : ℕ) (j : Judged B) (left : List Bit) (place : ℕ) → Judging j → Refusing (settle start j left place)
    settled start (fine b) left place h = tt
    settled start (against reason) left place h = h

    beside : (start : ℕ) (more : List Bit) (j : Judged B) (left : List Bit) (p : ℕ) → Grown more (settle start j left p) (settle start j (left ++ more) p)
    beside start more (fine b) left p = refl
    beside start more (against reason) left p = grown_alike more _ (bad reason start) refl

-- ---- a field
pub stays_field : (k : ℕ) → Stays (field k) (field k)
unfolding field_from number
stays_field k = record { refuses = λ bs at. ends k at 0 bs at; grows = λ bs more at. beside k at 0 bs at more }
  where
    ends : (k at v : ℕ) (bs : List Bit) (p : ℕ) → Refusing (field_from k at v bs p)
    ends zero at v bs p = tt
    ends (suc k) at v [] p = tt
    ends (suc k) at v (b ∷ bs) p = ends k at (v * 2 + num b) bs (p + 1)

    beside : (k at v : ℕ) (bs : List Bit) (p : ℕ) (more : List Bit) → Grown more (field_from k at v bs p) (field_from k at v (bs ++ more) p)
    beside zero at v bs p more = refl
    beside (suc k) at v [] p more = tt
    beside (suc k) at v (b ∷ bs) p more = beside k at (v * 2 + num b) bs (p + 1) more

-- ---- a codeword
-- of two beginnings
starts_on : (w bs more : List Bit) → T (starts w bs) → T (starts w (bs ++ more)) × (length w ≤ length bs)
starts_on [] bs more h = (tt, omega arith)
starts_on (x ∷ w) [] more h = absurd h
starts_on (bit0 ∷ w) (bit0 ∷ bs) more h = let g = starts_on w bs more h in (g.0, omega (arith, g.1))
starts_on (bit0 ∷ w) (bit1 ∷ bs) more h = absurd h
starts_on (bit1 ∷ w) (bit0 ∷ bs) more h = absurd h
starts_on (bit1 ∷ w) (bit1 ∷ bs) more h = let g = starts_on w bs more h in (g.0, omega (arith, g.1))

starts_less : (bs more w : List Bit) → T (starts (bs ++ more) w) → T (starts bs w)
starts_less [] more w h = tt
starts_less (x ∷ bs) more [] h = absurd h
starts_less (bit0 ∷ bs) more (bit0 ∷ w) h = starts_less bs more w h
starts_less (bit0 ∷ bs) more (bit1 ∷ w) h = absurd h
starts_less (bit1 ∷ bs) more (bit0 ∷ w) h = absurd h
starts_less (bit1 ∷ bs) more (bit1 ∷ w) h = starts_less bs more w h

starts_through : (v bs w : List Bit) → T (starts v bs) → T (starts bs w) → T (starts v w)
starts_through [] bs w h k = tt
starts_through (x ∷ v) [] w h k = absurd h
starts_through (x ∷ v) (b ∷ bs) [] h k = absurd k
starts_through (bit0 ∷ v) (bit0 ∷ bs) (bit0 ∷ w) h k = starts_through v bs w h k
starts_through (bit0 ∷ v) (bit0 ∷ bs) (bit1 ∷ w) h k = absurd k
starts_through (bit0 ∷ v) (bit1 ∷ bs) (y ∷ w) h k = absurd h
starts_through (bit1 ∷ v) (bit0 ∷ bs) (y ∷ w) h k = absurd h
starts_through (bit1 ∷ v) (bit1 ∷ bs) (bit0 ∷ w) h k = absurd k
starts_through (bit1 ∷ v) (bit1 ∷ bs) (bit1 ∷ w) h k = starts_through v bs w h k

-- a codeword that fits once more bits follow goes on past the bits
begins : (w bs more : List Bit) → T (starts w (bs ++ more)) → starts w bs ≡ false → T (starts bs w)
begins [] bs more h n = absurd (true-false n)
begins (x ∷ w) [] more h n = tt
begins (bit0 ∷ w) (bit0 ∷ bs) more h n = begins w bs more h n
begins (bit0 ∷ w) (bit1 ∷ bs) more h n = absurd h
begins (bit1 ∷ w) (bit0 ∷ bs) more h n = absurd h
begins (bit1 ∷ w) (bit1 ∷ bs) more h n = begins w bs more h n

either-map : (a b c d : Bool) → (T a → T c) → (T b → T d) → T (either a b) → T (either c d)
either-map true b true d f g h = tt
either-map true b false d f g h = absurd (f tt)
either-map false b true d f g h = tt
either-map false b false d f g h = g h

longer_less : (tab : List Entry) (bs more : List Bit) → T (longer tab (bs ++ more)) → T (longer tab bs)
unfolding longer
longer_less [] bs more h = h
longer_less (entry w m ∷ tab) bs more h =
    either-map (starts (bs ++ more) w) (longer tab (bs ++ more)) (starts bs w) (longer tab bs) (starts_less bs more w) (longer_less tab bs more) h

-- the test: no codeword of the table is a beginning of one before it, so that the first that fits is the only one
abbrev clear : List Bit → List Entry → Bool
clear w [] = true
clear w (entry v m ∷ tab) = both (opposite (starts v w)) (clear w tab)

abbrev pub ordered : List Entry → Bool
ordered [] = true
ordered (entry w m ∷ tab) = both (clear w tab) (ordered tab)

not-both : (b : Bool) → T (opposite b) → T b → ⊥
not-both true n t = n
not-both false n t = t

-- where no codeword of the rest is a beginning of w, bits that w goes on from find none there
missed : (tab : List Entry) (w bs : List Bit) (at : ℕ) (o : Read ℕ) → T (clear w tab) → T (starts bs w) → lookup tab bs at o ≡ o
unfolding lookup
missed [] w bs at o t h = refl
missed (entry v m ∷ tab) w bs at o t h = go (starts v bs) refl (missed tab w bs at o (both_right (opposite (starts v w)) (clear w tab) t) h)
  where
    go : (b : Bool) → starts v bs ≡ b → lookup tab bs at o ≡ o → lookup (entry v m ∷ tab) bs at o ≡ o
    go true e k = absurd (not-both (starts v w) (both_left (opposite (starts v w)) (clear w tab) t) (starts_through v bs w (true-T (starts v bs) e) h))
    go false e k = miss v m tab bs at o e ∙ k

module _ (name : Table) (bs more : List Bit) (at : ℕ) where
  abbrev none : Bool → Read ℕ
  none b = bad (pick b BitsEnd (NoCodeword name)) at

  beside_none : (b c : Bool) → (T c → T b) → Grown more (none b) (none c)
  unfolding number
  beside_none true c f = tt
  beside_none false true f = absurd (f tt)
  beside_none false false f = refl

  beside_cut : (b : Bool) (y : Read ℕ) → T b → Grown more (none b) y
  unfolding number
  beside_cut true y t = tt
  beside_cut false y t = absurd t

  beside_lookup : (tab : List Entry) (b c : Bool) → (T c → T b) → T (ordered tab) → (T (longer tab bs) → T b) → Grown more (lookup tab bs at (none b)) (lookup tab (bs ++ more) at (none c))
  unfolding lookup longer
  beside_lookup [] b c f o g = beside_none b c f
  beside_lookup (entry w m ∷ tab) b c f o g =
      go (starts w bs) refl (starts w (bs ++ more)) refl (beside_lookup tab b c f (both_right (clear w tab) (ordered tab) o) (λ l. g (either-map false (longer tab bs) (starts bs w) (longer tab bs) (λ z. absurd z) (λ z. z) l)))
    where
      go : (s : Bool) → starts w bs ≡ s → (t : Bool) → starts w (bs ++ more) ≡ t → Grown more (lookup tab bs at (none b)) (lookup tab (bs ++ more) at (none c))
          → Grown more (lookup (entry w m ∷ tab) bs at (none b)) (lookup (entry w m ∷ tab) (bs ++ more) at (none c))
      go true e t u k =
          let h = starts_on w bs more (true-T (starts w bs) e) in
          subst (λ (x : Read ℕ). Grown more x (lookup (entry w m ∷ tab) (bs ++ more) at (none c))) (sym (hit w m tab bs at (none b) e))
          (hit w m tab (bs ++ more) at (none c) (T_true (starts w (bs ++ more)) h.0) ∙ ap (λ (l : List Bit). got m l (at + length w)) (drop-append-le (length w) bs more h.1))
      go false e true u k =
          let goes_on : T (starts bs w) = begins w bs more (true-T (starts w (bs ++ more)) u) e in
          subst (λ (x : Read ℕ). Grown more x (lookup (entry w m ∷ tab) (bs ++ more) at (none c)))
          (sym (miss w m tab bs at (none b) e ∙ missed tab w bs at (none b) (both_left (clear w tab) (ordered tab) o) goes_on))
          (beside_cut b (lookup (entry w m ∷ tab) (bs ++ more) at (none c)) (g (either-map (starts bs w) false (starts bs w) (longer tab bs) (λ z. z) (λ z. absurd z) (first (starts bs w) goes_on))))
        where
          first : (a : Bool) → T a → T (either a false)
          first true t = tt
          first false t = t
      go false e false u k =
          subst (λ (x : Read ℕ). Grown more x (lookup (entry w m ∷ tab) (bs ++ more) at (none c))) (sym (miss w m tab bs at (none b) e))
          (subst (λ (y : Read ℕ). Grown more (lookup tab bs at (none b)) y) (sym (miss w m tab (bs ++ more) at (none c) u)) k)

  none_refusing : (b : Bool) → Refusing (none b)
  unfolding number
  none_refusing true = tt
  none_refusing false = tt

lookup_refusing : (tab : List Entry) (bs : List Bit) (at : ℕ) (other : Read ℕ) → Refusing other → Refusing (lookup tab bs at other)
unfolding lookup
lookup_refusing [] bs at other h = h
lookup_refusing (entry w m ∷ tab) bs at other h = go (starts w bs) (lookup_refusing tab bs at other h)
  where
    go : (s : Bool) → Refusing (lookup tab bs at other) → Refusing {A = ℕ} (elim s [ true ↦ got m (drop (length w) bs) (at + length w) | false ↦ lookup tab bs at other ])
    go true h = tt
    go false h = h

pub stays_word : (table : CodeTable) → T (ordered table.entries) → Stays (word table) (word table)
unfolding word
stays_word table o = record {
  refuses = λ bs at. lookup_refusing table.entries bs at _ (none_refusing table.name bs [] at (longer table.entries bs));
  grows = λ bs more at. beside_lookup table.name bs more at table.entries (longer table.entries bs) (longer table.entries (bs ++ more)) (longer_less table.entries bs more) o (λ g. g);
}
