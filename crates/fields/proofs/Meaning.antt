-- Laws of reads that are given another meaning. Assumes nothing.
use mathlib.Core.Path.{◌≡◌, refl, ap, subst}
use Prim.Native.Nat.{ℕ, zero, suc, ◌+◌, ◌-◌, ◌≤◌, ◌<◌}
use native.Mathlib.Nat.{le_refl}
use lib.ListN.{length}
use mathlib.Core.List.{List}
use native.Mathlib.Omega.{arith}
use Rattle.refusals.specs.declared.Reason.{Reason}
use Rattle.refusals.specs.Number.{refusal}
use Rattle.bits.specs.Bits.{Bit, bits_left}
use Rattle.bits.proofs.Value.{length_bits}
use Rattle.bits.specs.Places.{Places, counted, PlaceIn, RefusedIn, bit_in, stop_in}
use Rattle.bits.specs.declared.Place.{Place}
use Rattle.bits.specs.Read.{ReadIn, got, refused, endless, ReaderIn, AnyReader, next, done, Judged, fine, against, judged_read}
use Rattle.bits.proofs.Logic.{Reads, Counts, counts}
use Rattle.fields.specs.Answer.{map_read}

-- what follows a read and only adds to its meaning
pub map-done : {P : Places} {A B C : Type 0} (g : B → C) (h : A → B) (r : ReadIn P A) → map_read g (next r (λ a. done (h a))) ≡ map_read (λ a. g (h a)) r
map-done g h (got a bs at) = refl
map-done g h (refused r) = refl
map-done g h endless = refl

-- what a read that was given another meaning had found
pub was_got : {P : Places} {A B : Type 0} (g : A → B) (r : ReadIn P A) (b : B) (cs : List Bit) (q : PlaceIn P) → map_read g r ≡ got b cs q → (a : A) × (r ≡ got a cs q) × (g a ≡ b)
was_got {P} {B = B} g (got a bs at) b cs q e = (a, (λ i. got a (left e i) (place e i)), value e)
  where
    left : ◌≡◌ {A = ReadIn P B} (got (g a) bs at) (got b cs q) → bs ≡ cs
    left h = cc

    place : ◌≡◌ {A = ReadIn P B} (got (g a) bs at) (got b cs q) → at ≡ q
    place h = cc

    value : ◌≡◌ {A = ReadIn P B} (got (g a) bs at) (got b cs q) → g a ≡ b
    value h = cc
was_got g (refused r) b cs q e = let z : ◌≡◌ {A = ℕ} 0 1 = cc in absurd (omega arith)
was_got g endless b cs q e = let z : ◌≡◌ {A = ℕ} 0 1 = cc in absurd (omega arith)

pub was_refused : {P : Places} {A B : Type 0} (g : A → B) (r : ReadIn P A) (x : RefusedIn P) → map_read g r ≡ refused x → r ≡ refused x
was_refused g (got a bs at) x e = let z : ◌≡◌ {A = ℕ} 0 1 = cc in absurd (omega arith)
was_refused {P} g (refused r) x e = let h : r ≡ x = cc in ap (λ (r : RefusedIn P). refused r) h
was_refused g endless x e = let z : ◌≡◌ {A = ℕ} 0 1 = cc in absurd (omega arith)

-- ---- fuel
pub length_left : (s : List ℕ) (n p : ℕ) → length (bits_left s n p) ≡ n - p
length_left s n p = length_bits s p (n - p)

-- there is fuel for a turn
pub some : (m fuel : ℕ) → m < fuel → (rest : ℕ) × (fuel ≡ suc rest)
some m zero l = absurd (omega arith)
some m (suc rest) l = (rest, refl)

-- ---- what a rule makes of a read
module _ {P : Places} {A B : Type 0} (r : ReaderIn P A) (rule : A → Judged B) (bs : List Bit) (at : PlaceIn P) where
  pub judged_refused : (x : RefusedIn P) → r bs at ≡ refused x → judged_read r rule bs at ≡ refused x
  judged_refused x e = rw e

  module _ (a : A) (cs : List Bit) (q : PlaceIn P) (e : r bs at ≡ got a cs q) where
    pub judged_fine : (b : B) → rule a ≡ fine b → judged_read r rule bs at ≡ got b cs q
    judged_fine b h = rw (e, h)

    pub judged_against : (reason : Reason) → rule a ≡ against reason → judged_read r rule bs at ≡ refused (stop_in P (refusal reason (bit_in P at)) q)
    judged_against reason h = rw (e, h)

-- ---- where a read that was got ends, and what it gives: no more reads than bits
pub record Onward {A : Type 0} (least : ℕ) (Good : A → List Bit → Type 0) (n : ℕ) (p : Place) (a : A) (left : List Bit) (q : Place) : Type 0 where
  pub ahead : p.bit + least ≤ q.bit
  pub inside : q.bit ≤ n
  pub fewer : q.reads + (n - q.bit) ≤ p.reads + (n - p.bit)
  pub good : Good a left

pub onward : {A : Type 0} {least : ℕ} {Good : A → List Bit → Type 0} {r : AnyReader A} (s : List ℕ) (n : ℕ) (p : Place) (a : A) (q : Place)
    → Reads (suc (length (bits_left s n p.bit))) least Good r → p.bit ≤ n → r counted (bits_left s n p.bit) p ≡ got a (bits_left s n q.bit) q
    → Onward least Good n p a (bits_left s n q.bit) q
onward {least = least} {Good} {r} s n p a q h l e =
    let bs = bits_left s n p.bit in
    let g : Counts least Good bs p (got a (bits_left s n q.bit) q) = subst (λ x. Counts least Good bs p x) e (counts h bs p (le_refl (suc (length bs)))) in
    let t = g.0 in
    record {
      ahead = t.onward;
      inside = omega (arith, t.end, length_left s n p.bit, length_left s n q.bit);
      fewer = omega (arith, t.end, t.onward, g.1, length_left s n p.bit, length_left s n q.bit);
      good = g.2;
    }
