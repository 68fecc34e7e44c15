-- A codeword read by an entry that settles it is the one that its table has; where more bits are one with it, they are read with it. Assumes nothing.
use mathlib.Core.Path.{◌≡◌, refl, sym, ap, ◌∙◌}
use mathlib.Core.Bool.{Bool, true, false}
use mathlib.Core.List.{List}
use Prim.Native.Nat.{ℕ, suc, ◌+◌, ◌-◌, ◌/◌, ◌%◌, ◌^◌, ◌<◌, ◌≤◌}
use native.Mathlib.Nat.{add-zero, add_assoc, not-suc-le-zero}
use native.Mathlib.Omega.{arith}
use borrow.Author.Tests.{lt-ltb, le-ltb, ltb-true, ltb-false, le-leb, lt-leb, leb-true, leb-false, eq-eqb, ne_eqb}
use lib.Dec.{T, eqb, ltb, leb, eqb→eq, leb→le}
use lib.ListN.{get_or}
use lib.Pow.{low, shr_mono}
use Rattle.laws.specs.Choice.{pick}
use Rattle.laws.proofs.Choice.{both_left, both_right}
use Rattle.refusals.specs.declared.Reason.{Reason}
use Rattle.refusals.specs.declared.Reason.TheVariants.{BitsEnd, NoCodeword}
use Rattle.bits.specs.Bits.{Bit, bits_of, value, bits_from, bits_left}
use Rattle.bits.specs.Places.{plain}
use Rattle.bits.specs.Read.{Read, got, bad, Reader, next, ◌>>=◌, done, field, Judged, settle, judged_read, moved_read, whole}
use Rattle.bits.specs.Code.{CodeTable, word}
use Rattle.bits.specs.Answer.{as_field}
use Rattle.bits.specs.Tree.{no_empty, some}
use Rattle.bits.specs.Windows.{Decided, undecided, dead, ended, decide, settled}
use Rattle.bits.specs.Settled.{whole_size, meaning_or_none, no_tail, settles, settle_all, TwoParts, settle_parts, part_place, settled_field}
use Rattle.bits.proofs.Value.{value-lt, value-add, value_first}
use Rattle.bits.proofs.Codes.{each, word_got}
use Rattle.bits.proofs.Part.{part_at}
use Rattle.bits.proofs.Numbers.{bits_value}
use Rattle.bits.proofs.Fields.{field_at, field-short}
use Rattle.refusals.specs.Number.{refusal}
use Rattle.refusals.specs.declared.Table.{Table}
use Rattle.bits.specs.declared.FieldRead.TheVariants.{Got, Refused}
use Rattle.bits.proofs.Windows.{said, decided_word}

-- ---- the entry e says what the bits at a place decided, d
pub record Says (tail : ℕ → ℕ) (table : CodeTable) (s : List ℕ) (n at e : ℕ) (d : Decided) : Type 0 where
  pub is : word table (bits_left s n at) at ≡ said table.name s n at d
  pub sure : T (settled d)
  pub size : e % 32 ≡ whole_size tail d
  pub meaning : e / 32 ≡ meaning_or_none d
  pub small : e % 32 ≤ 24

abbrev pub Known : (ℕ → ℕ) → CodeTable → List ℕ → ℕ → ℕ → ℕ → Type 0
Known tail table s n at e = (d : Decided) × Says tail table s n at e d

-- a table with a codeword, and none that is empty
module _ (tail : ℕ → ℕ) (table : CodeTable) (full : T (no_empty table.entries)) (many : T (some table.entries)) (t s : List ℕ) (n at : ℕ) where
  says : (j e : ℕ) → T (settles tail table.entries (bits_from s at j) e) → Known tail table s n at e
  unfolding settles
  says j e a =
      let d = decide table.entries (bits_from s at j) 0 in
      let a1 = both_right (settled d) _ a in
      let a2 = both_right (eqb (e % 32) (whole_size tail d)) _ a1 in
      let u = both_left (settled d) _ a in (
        d,
        record {
          is = decided_word table j s n at full many u;
          sure = u;
          size = eqb→eq _ _ (both_left (eqb (e % 32) (whole_size tail d)) _ a1);
          meaning = eqb→eq _ _ (both_left (eqb (e / 32) (meaning_or_none d)) _ a2);
          small = leb→le _ _ (both_right (eqb (e / 32) (meaning_or_none d)) _ a2);
        },
      )

  -- the entry for the bits at a place
  pub settled_at : (from width low high : ℕ) → T (settle_all tail table.entries t from width low high) → (x : ℕ) → x ≡ value s at width → low ≤ x → x < high
      → Known tail table s n at (get_or t (from + x) 0)
  settled_at from width low high ok x v l h =
      let a = part_at (λ i. settles tail table.entries (bits_of width i)) t (from + low) low (high - low) ok (x - low) (omega arith) in
      let i : low + (x - low) ≡ x = omega arith in
      let j : from + low + (x - low) ≡ from + x = omega arith in
      let w : bits_from s at width ≡ bits_of width x = bits_value s at width ∙ ap (bits_of width) (sym v) in
      says width (get_or t (from + x) 0) (rw w (rw (i, j) at a))

  pub settled_part : (p : TwoParts) → T (settle_parts tail table.entries t p) → (x : ℕ) → x ≡ value s at (p.narrow + p.further) → Known tail table s n at (get_or t (part_place p x) 0)
  settled_part p ok x v = go (ltb x p.small) refl
    where
      go : (b : Bool) → ltb x p.small ≡ b → Known tail table s n at (get_or t (pick b (p.small_at + x) (p.large_at + x / 2 ^ p.further)) 0)
      go true l =
          settled_at p.small_at (p.narrow + p.further) 0 p.small (both_left (settle_all tail table.entries t p.small_at (p.narrow + p.further) 0 p.small) _ ok) x v (omega arith)
          (ltb-true x p.small l)
      go false l =
          let y : x / 2 ^ p.further ≡ value s at p.narrow = ap (λ (i : ℕ). i / 2 ^ p.further) v ∙ value_first s at p.narrow p.further in
          settled_at p.large_at p.narrow (p.small / 2 ^ p.further) (2 ^ p.narrow)
          (both_right (settle_all tail table.entries t p.small_at (p.narrow + p.further) 0 p.small) _ ok) (x / 2 ^ p.further) y
          (shr_mono p.further (ltb-false x p.small l)) (rw y (value-lt s at p.narrow))

-- ---- what the entry's meaning is, where all of the codeword is left
word-ended : {tail : ℕ → ℕ} {table : CodeTable} {s : List ℕ} {n at e k m : ℕ} → Says tail table s n at e (ended k m) → at + k ≤ n
    → word {P = plain} table (bits_left s n at) at ≡ got m (bits_left s n (at + k)) (at + k)
word-ended {n = n} {at} {k = k} r l = r.is ∙ rw (le-leb (at + k) n l)

less_one : {x m : ℕ} → x ≡ suc m → x - 1 ≡ m
less_one q = omega arith

pub settled_meaning : {tail : ℕ → ℕ} {table : CodeTable} {s : List ℕ} {n at e : ℕ} (p : ℕ → Bool) → T (each p table.entries) → at ≤ n → Known tail table s n at e
    → e % 32 ≤ n - at → (e / 32 ≡ 0 → ⊥) → T (p (e / 32 - 1))
settled_meaning p t inside (undecided, r) l z = absurd r.sure
settled_meaning p t inside (dead k, r) l z = absurd (z r.meaning)
settled_meaning {table = table} {s} {n} {at} p t inside (ended k m, r) l z =
    rw (less_one r.meaning) (word_got p table (bits_left s n at) at m _ _ t (word-ended r (omega (arith, r.size)))).meant

-- ---- a table without tails
module _ (name : Table) (n at e : ℕ) where
  pub found_short : n - at < e % 32 → settled_field name e n at ≡ Refused (refusal BitsEnd at)
  found_short l = rw (lt-ltb (n - at) (e % 32) l)

  pub found_none : e % 32 ≤ n - at → e / 32 ≡ 0 → settled_field name e n at ≡ Refused (refusal (NoCodeword name) at)
  found_none l z = rw (le-ltb (n - at) (e % 32) l, eq-eqb (e / 32) 0 z)

  pub found_one : e % 32 ≤ n - at → (e / 32 ≡ 0 → ⊥) → settled_field name e n at ≡ Got (e / 32 - 1) (at + e % 32)
  found_one l z = rw (le-ltb (n - at) (e % 32) l, ne_eqb (e / 32) 0 z)

-- the bits end before the k after which it is decided
ends_short : (n at k : ℕ) {x : Read ℕ} (y : Read ℕ) → x ≡ pick (leb (at + k) n) y (bad BitsEnd at) → n < at + k → bad BitsEnd at ≡ x
ends_short n at k y q l = sym (q ∙ rw (lt-leb (at + k) n l))

module _ {table : CodeTable} {s : List ℕ} {n at e : ℕ} where
  pub settled-word : at ≤ n → Known no_tail table s n at e → as_field s n (settled_field table.name e n at) ≡ word table (bits_left s n at) at
  settled-word inside (d, r) = go (ltb (n - at) (e % 32)) refl d r
    where
      go : (b : Bool) → ltb (n - at) (e % 32) ≡ b → (d : Decided) → Says no_tail table s n at e d → as_field s n (settled_field table.name e n at) ≡ word table (bits_left s n at) at
      go b f undecided r = absurd r.sure
      go true f (dead k) r =
          let l = ltb-true (n - at) (e % 32) f in ap (as_field s n) (found_short table.name n at e l) ∙ ends_short n at k _ r.is (omega (arith, r.size))
      go true f (ended k m) r =
          let l = ltb-true (n - at) (e % 32) f in ap (as_field s n) (found_short table.name n at e l) ∙ ends_short n at k _ r.is (omega (arith, r.size))
      go false f (dead k) r =
          let l = ltb-false (n - at) (e % 32) f in
          let g : at + k ≤ n = omega (arith, r.size) in
          ap (as_field s n) (found_none table.name n at e l r.meaning) ∙ sym (r.is ∙ rw (le-leb (at + k) n g))
      go false f (ended k m) r =
          let l = ltb-false (n - at) (e % 32) f in
          let z : e / 32 ≡ 0 → ⊥ = λ y. omega (arith, r.meaning) in
          let q : e % 32 ≡ k = omega (arith, r.size) in
          let g : at + k ≤ n = omega arith in
          ap (as_field s n) (found_one table.name n at e l z) ∙ rw (less_one r.meaning, q) (sym (r.is ∙ rw (le-leb (at + k) n g)))

-- ---- a reader of just k bits, of whose number it makes what f says
pub record Takes {A : Type 0} (k : ℕ) (r : Reader A) (f : ℕ → A) : Type 0 where
  pub all : (s : List ℕ) (n at : ℕ) → k ≤ n - at → r (bits_left s n at) at ≡ got (f (value s at k)) (bits_left s n (at + k)) (at + k)
  pub short : (s : List ℕ) (n at : ℕ) → n - at < k → (p : ℕ) × (r (bits_left s n at) at ≡ bad BitsEnd p)

pub takes_none : {A : Type 0} (a : A) → Takes 0 (done a) (λ x. a)
takes_none a = record { all = λ s n at l. rw (add-zero at); short = λ s n at l. absurd (not-suc-le-zero l) }

-- a field of k bits, and what is made of it
pub takes_field : {A : Type 0} (k : ℕ) (f : ℕ → A) → Takes k (field k >>= λ x. done (f x)) f
takes_field k f =
    record {
      all = λ s n at l. rw (field_at s n at k l);
      short = λ s n at l. (at, rw (field-short s n at k l));
    }

value_last : (s : List ℕ) (a r k : ℕ) → value s a (r + k) % 2 ^ k ≡ value s (a + r) k
value_last s a r k = rw (value-add s a r k) (low (value s a r) k (value-lt s (a + r) k))

-- a field of k bits, and then a reader of j more
pub takes_then : {A : Type 0} (k j : ℕ) {after : ℕ → Reader A} {f : ℕ → ℕ → A} → ((x : ℕ) → Takes j (after x) (f x))
    → Takes (k + j) (field k >>= after) (λ x. f (x / 2 ^ j) (x % 2 ^ j))
takes_then {A} k j {after} {f} h = record { all = every; short = few }
  where
    every : (s : List ℕ) (n at : ℕ) → k + j ≤ n - at
        → (field k >>= after) (bits_left s n at) at ≡ got (f (value s at (k + j) / 2 ^ j) (value s at (k + j) % 2 ^ j)) (bits_left s n (at + (k + j))) (at + (k + j))
    every s n at l =
        rw (field_at s n at k (omega arith), value_first s at k j, value_last s at k j, ← add_assoc at k j) ((h (value s at k)).all s n (at + k) (omega arith))

    few : (s : List ℕ) (n at : ℕ) → n - at < k + j → (p : ℕ) × ((field k >>= after) (bits_left s n at) at ≡ bad BitsEnd p)
    few s n at l = go (leb k (n - at)) refl
      where
        go : (b : Bool) → leb k (n - at) ≡ b → (p : ℕ) × ((field k >>= after) (bits_left s n at) at ≡ bad BitsEnd p)
        go true f =
            let v = leb-true k (n - at) f in
            let g = (h (value s at k)).short s n (at + k) (omega arith) in
            (g.0, rw (field_at s n at k v) g.1)
        go false f = (at, rw (field-short s n at k (leb-false k (n - at) f)))

pub takes_pick : {A : Type 0} {k j : ℕ} {r q : Reader A} {f g : ℕ → A} (b : Bool) → Takes k r f → Takes j q g → Takes (pick b k j) (pick b r q) (λ x. pick b (f x) (g x))
takes_pick true h i = h
takes_pick false h i = i

-- ---- a codeword and its tail, which are one
abbrev pub tailed_read : {A B : Type 0} → CodeTable → (ℕ → Reader A) → (A → Judged B) → Reader B
tailed_read table after rule = judged_read (whole (word table >>= after)) rule

module _ {A B : Type 0} (table : CodeTable) (after : ℕ → Reader A) (rule : A → Judged B) (bs : List Bit) (at : ℕ) where
  tailed_refused : (r : Reason) → word table bs at ≡ bad r at → tailed_read table after rule bs at ≡ bad r at
  tailed_refused r e = rw e

  tailed_then : (m : ℕ) (cs : List Bit) (p : ℕ) → word {P = plain} table bs at ≡ got m cs p → (x : Read A) → after m cs p ≡ x
      → tailed_read table after rule bs at ≡ next (moved_read at x) (λ a. settle at (rule a))
  tailed_then m cs p e x f = rw (e, f)

-- by the entry
module _ {A B : Type 0} {tail : ℕ → ℕ} (table : CodeTable) {after : ℕ → Reader A} {make : ℕ → ℕ → A} (takes : (m : ℕ) → Takes (tail m) (after m) (make m)) (rule : A → Judged B)
    {s : List ℕ} {n at e : ℕ} (inside : at ≤ n) where
  pub tailed_short : Known tail table s n at e → n - at < e % 32 → bad BitsEnd at ≡ tailed_read table after rule (bits_left s n at) at
  tailed_short (undecided, r) l = absurd r.sure
  tailed_short (dead k, r) l =
      let f : n < at + k = omega (arith, r.size) in
      sym (tailed_refused table after rule (bits_left s n at) at BitsEnd (r.is ∙ rw (lt-leb (at + k) n f)))
  tailed_short (ended k m, r) l = go (leb (at + k) n) refl
    where
      go : (b : Bool) → leb (at + k) n ≡ b → bad BitsEnd at ≡ tailed_read table after rule (bits_left s n at) at
      go true f =
          let u = leb-true (at + k) n f in
          let g = (takes m).short s n (at + k) (omega (arith, r.size)) in
          sym (tailed_then table after rule (bits_left s n at) at m _ _ (word-ended r u) (bad BitsEnd g.0) g.1)
      go false f = sym (tailed_refused table after rule (bits_left s n at) at BitsEnd (r.is ∙ rw f))

  pub tailed_none : Known tail table s n at e → e % 32 ≤ n - at → e / 32 ≡ 0 → bad (NoCodeword table.name) at ≡ tailed_read table after rule (bits_left s n at) at
  tailed_none (undecided, r) l z = absurd r.sure
  tailed_none (dead k, r) l z =
      let f : at + k ≤ n = omega (arith, r.size) in
      sym (tailed_refused table after rule (bits_left s n at) at (NoCodeword table.name) (r.is ∙ rw (le-leb (at + k) n f)))
  tailed_none (ended k m, r) l z = absurd (omega (arith, r.meaning))

  -- the last bits of the whole codeword are its tail
  pub tailed_is : Known tail table s n at e → e % 32 ≤ n - at → (e / 32 ≡ 0 → ⊥)
      → tailed_read table after rule (bits_left s n at) at
      ≡ settle at (rule (make (e / 32 - 1) (value s at (e % 32) % 2 ^ tail (e / 32 - 1)))) (bits_left s n (at + e % 32)) (at + e % 32)
  tailed_is (undecided, r) l z = absurd r.sure
  tailed_is (dead k, r) l z = absurd (z r.meaning)
  tailed_is (ended k m, r) l z =
      let q : e % 32 ≡ k + tail m = r.size in
      let u : at + k ≤ n = omega arith in
      let v : tail m ≤ n - (at + k) = omega arith in
      rw (less_one r.meaning, q, value_last s at k (tail m), ← add_assoc at k (tail m))
      (tailed_then table after rule (bits_left s n at) at m _ _ (word-ended r u) _ ((takes m).all s n (at + k) v))
