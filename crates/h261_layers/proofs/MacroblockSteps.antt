-- What stands at an MBA place, and what a type leaves out, on plain values. Assumes nothing.
use mathlib.Core.Path.{◌≡◌, refl, sym, ◌∙◌}
use mathlib.Core.Bool.{Bool, true, false}
use mathlib.Core.List.{List, [], ◌∷◌}
use Prim.Native.Nat.{ℕ, ◌+◌, ◌≤◌, ◌<◌}
use native.Mathlib.Omega.{arith}
use borrow.Author.Tests.{eq-eqb, ne_eqb, lt-ltb, le-ltb}
use lib.Dec.{T, leb, leb→le}
use Rattle.laws.specs.Choice.{pick, opposite}
use Rattle.laws.proofs.Choice.{both_left, both_right}
use Rattle.refusals.specs.declared.Reason.TheVariants.{AddressPast, AfterLast}
use Rattle.refusals.specs.Number.{refusal}
use Rattle.bits.specs.Bits.{Bit, bits_left}
use Rattle.bits.proofs.Value.{left_none, left_more}
use Rattle.bits.specs.Places.{counted, stop_in}
use Rattle.bits.specs.Read.{ReadIn, got, refused, ReaderIn, judged_read}
use Rattle.bits.specs.declared.Place.{Place}
use Rattle.bits.specs.declared.Stopped.{Stopped}
use Rattle.bits.specs.Code.{word}
use Rattle.h261_words.specs.Tables.{table1}
use Rattle.h261_words.specs.Words.{is_intra, has_cbp}
use Rattle.h261_groups.specs.declared.Format.{Format}
use Rattle.layout.specs.Value.{Vector, zero_vector}
use Rattle.h261_description.specs.Vector.{Before, restarts, preceding}
use Rattle.layout.specs.Numbers.{within}
use Rattle.h261_layers.specs.Vector.{vector_read}
use Rattle.h261_layers.proofs.Layers.{typed}
use Rattle.h261_layers.specs.Grammar.{Mba, step, stuffed, ended, mba_of, mba, pattern_read}
use Rattle.fields.specs.Rules.{optional}
use Rattle.fields.proofs.Meaning.{judged_refused, judged_fine, judged_against}

-- ---- MBA
module _ (last : Bool) (address : ℕ) (bs : List Bit) (at : Place) where
  pub mba-refused : (r : Stopped) → word {P = counted} table1 bs at ≡ refused r → refused r ≡ judged_read {P = counted} (word table1) (mba_of last address) bs at
  mba-refused r e = sym (judged_refused (word table1) (mba_of last address) bs at r e)

  module _ (m : ℕ) (cs : List Bit) (q : Place) (e : word {P = counted} table1 bs at ≡ got m cs q) where
    pub mba-stuffed : m ≡ 34 → got stuffed cs q ≡ judged_read {P = counted} (word table1) (mba_of last address) bs at
    mba-stuffed h = sym (judged_fine (word table1) (mba_of last address) bs at m cs q e stuffed (rw (eq-eqb m 34 h)))

    module _ (a : m ≡ 34 → ⊥) where
      pub mba_start_last : m ≡ 35 → last ≡ true → refused (stop_in counted (refusal AfterLast at.bit) q) ≡ judged_read {P = counted} (word table1) (mba_of last address) bs at
      mba_start_last h l = sym (judged_against (word table1) (mba_of last address) bs at m cs q e AfterLast (rw (ne_eqb m 34 a, eq-eqb m 35 h, l)))

      pub mba_start : m ≡ 35 → last ≡ false → got ended cs q ≡ judged_read {P = counted} (word table1) (mba_of last address) bs at
      mba_start h l = sym (judged_fine (word table1) (mba_of last address) bs at m cs q e ended (rw (ne_eqb m 34 a, eq-eqb m 35 h, l)))

      module _ (b : m ≡ 35 → ⊥) where
        pub mba_past : 33 < address + m → refused (stop_in counted (refusal AddressPast at.bit) q) ≡ judged_read {P = counted} (word table1) (mba_of last address) bs at
        mba_past h = sym (judged_against (word table1) (mba_of last address) bs at m cs q e AddressPast (rw (ne_eqb m 34 a, ne_eqb m 35 b, lt-ltb 33 (address + m) h)))

        pub mba-step : address + m ≤ 33 → got (step m) cs q ≡ judged_read {P = counted} (word table1) (mba_of last address) bs at
        mba-step h = sym (judged_fine (word table1) (mba_of last address) bs at m cs q e (step m) (rw (ne_eqb m 34 a, ne_eqb m 35 b, le-ltb 33 (address + m) h)))

-- in the last group
module _ (s : List ℕ) (n address : ℕ) (at : Place) where
  pub mba_end : n ≤ at.bit → got ended (bits_left s n at.bit) at ≡ mba {P = counted} true address (bits_left s n at.bit) at
  unfolding mba
  mba_end l = rw (left_none s n at.bit l)

  pub opened : at.bit < n → judged_read {P = counted} (word table1) (mba_of true address) (bits_left s n at.bit) at ≡ mba true address (bits_left s n at.bit) at
  unfolding mba
  opened l = some (bits_left s n at.bit) (left_more s n at.bit l)
    where
      some : (bs : List Bit) {b : Bit} {cs : List Bit} → bs ≡ b ∷ cs → judged_read {P = counted} (word table1) (mba_of true address) bs at ≡ mba true address bs at
      some [] e = let z : ◌≡◌ {A = ℕ} 0 1 = cc in absurd (omega arith)
      some (b ∷ bs) e = refl

  pub mba_on : (x : ReadIn counted Mba) → at.bit < n → x ≡ judged_read (word table1) (mba_of true address) (bits_left s n at.bit) at → x ≡ mba true address (bits_left s n at.bit) at
  mba_on x l h = h ∙ opened l

module _ (last : Bool) (address : ℕ) (bs : List Bit) (at : Place) (x : ReadIn counted Mba) where
  pub mba_last : last ≡ true → x ≡ mba true address bs at → x ≡ mba last address bs at
  mba_last e h = rw e h

  pub mba_other : last ≡ false → x ≡ judged_read (word table1) (mba_of false address) bs at → x ≡ mba last address bs at
  unfolding mba
  mba_other e h = rw e h

-- ---- a type of document 01's table
pub record Typed (type : ℕ) : Type 0 where
  pub low : 1 ≤ type
  pub high : type ≤ 10

pub typed_of : (t : ℕ) → T (typed t) → Typed t
typed_of t h =
    let w = both_left (within 1 10 t) (pick (is_intra t) (opposite (has_cbp t)) true) h in
    record { low = leb→le 1 t (both_left (leb 1 t) (leb t 10) w); high = leb→le t 10 (both_right (leb 1 t) (leb t 10) w) }

-- ---- what a type leaves out
module _ {A : Type 0} (has t : Bool) (a : A) (r : ReaderIn counted A) (bs : List Bit) (at : Place) (w : t ≡ has) where
  pub optional_there : (x : ReadIn counted A) → t ≡ true → x ≡ r bs at → x ≡ optional has a r bs at
  optional_there x e h = let z : has ≡ true = sym w ∙ e in rw z h

  pub optional-not : t ≡ false → got a bs at ≡ optional has a r bs at
  optional-not e = let z : has ≡ false = sym w ∙ e in rw z

module _ (type : ℕ) (c i : Bool) (bs : List Bit) (at : Place) (w : c ≡ has_cbp type) where
  pub pattern_none : (v : i ≡ is_intra type) → c ≡ false → i ≡ false → got 0 bs at ≡ pattern_read {P = counted} type bs at
  pattern_none v e d = let z : has_cbp type ≡ false = sym w ∙ e in let y : is_intra type ≡ false = sym v ∙ d in rw (z, y)

  pub pattern_all : (v : i ≡ is_intra type) → c ≡ false → i ≡ true → got 63 bs at ≡ pattern_read {P = counted} type bs at
  pattern_all v e d = let z : has_cbp type ≡ false = sym w ∙ e in let y : is_intra type ≡ true = sym v ∙ d in rw (z, y)

-- ---- the vector after what is behind
module _ (f : Format) (number : ℕ) (before : Before) (k : ℕ) (m t : Bool) (bs : List Bit) (at : Place) (is : Bool) (w : m ≡ is) (x : ReadIn counted Vector) where
  pub moved_anew : (v : t ≡ restarts before.address k) → m ≡ true → t ≡ true → x ≡ vector_read f number (before.address + k) zero_vector bs at
      → x ≡ optional is zero_vector (vector_read f number (before.address + k) (preceding before k)) bs at
  moved_anew v e d h =
      let z : is ≡ true = sym w ∙ e in
      let y : restarts before.address k ≡ true = sym v ∙ d in
      rw (z, y) h

  pub moved_on : (v : t ≡ restarts before.address k) → m ≡ true → t ≡ false → x ≡ vector_read f number (before.address + k) before.vector bs at
      → x ≡ optional is zero_vector (vector_read f number (before.address + k) (preceding before k)) bs at
  moved_on v e d h =
      let z : is ≡ true = sym w ∙ e in
      let y : restarts before.address k ≡ false = sym v ∙ d in
      rw (z, y) h
