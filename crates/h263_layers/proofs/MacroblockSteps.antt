-- What stands where a macroblock is to begin, and what its type leaves out, on plain values. Assumes nothing.
use mathlib.Core.Path.{◌≡◌, refl, sym, ap, ◌∙◌}
use mathlib.Core.Bool.{Bool, true, false}
use mathlib.Core.List.{List}
use Prim.Native.Nat.{ℕ, zero, suc, ◌+◌, ◌-◌, ◌*◌, ◌/◌, ◌%◌, ◌≤◌, ◌<◌}
use native.Mathlib.Omega.{arith}
use borrow.Author.Tests.{eq-eqb, ne_eqb, lt-ltb}
use lib.Dec.{ltb, eqb}
use Rattle.laws.specs.Choice.{both}
use Rattle.laws.proofs.Choice.{second_no}
use Rattle.refusals.specs.declared.Reason.TheVariants.{NoCodeword}
use Rattle.refusals.specs.declared.Table.TheVariants.{McbpcInter}
use Rattle.refusals.specs.Number.{refusal}
use Rattle.bits.specs.Bits.{Bit}
use Rattle.bits.specs.Places.{counted, stop_in}
use Rattle.bits.specs.Read.{ReadIn, got, refused, ReaderIn, field, judged_read}
use Rattle.bits.specs.declared.Place.{Place}
use Rattle.bits.specs.declared.Stopped.{Stopped}
use Rattle.bits.specs.Code.{word}
use Rattle.fields.specs.Rules.{optional}
use Rattle.fields.proofs.Meaning.{judged_refused, judged_fine, judged_against}
use Rattle.h263_words.specs.Tables.{mcbpc_of}
use Rattle.h263_words.specs.Words.{dquant_in, chroma_in, turned}
use Rattle.h263_layers.specs.Grammar.{unsent, coded, Found, stuffed, slot, found_of, found_read, may_stand, dquant_read}

-- ---- MCBPC
module _ (intra : Bool) (bs : List Bit) (at : Place) where
  pub kind_refused : (r : Stopped) → word {P = counted} (mcbpc_of intra) bs at ≡ refused r → refused r ≡ judged_read {P = counted} (word (mcbpc_of intra)) found_of bs at
  kind_refused r e = sym (judged_refused (word (mcbpc_of intra)) found_of bs at r e)

  module _ (m : ℕ) (cs : List Bit) (q : Place) (e : word {P = counted} (mcbpc_of intra) bs at ≡ got m cs q) where
    pub kind_stuffed : m ≡ 24 → got stuffed cs q ≡ judged_read {P = counted} (word (mcbpc_of intra)) found_of bs at
    kind_stuffed h = sym (judged_fine (word (mcbpc_of intra)) found_of bs at m cs q e stuffed (rw (eq-eqb m 24 h)))

    module _ (n : m ≡ 24 → ⊥) where
      pub kind_four : m / 4 ≡ 5 → refused (stop_in counted (refusal (NoCodeword McbpcInter) at.bit) q) ≡ judged_read {P = counted} (word (mcbpc_of intra)) found_of bs at
      kind_four h = sym (judged_against (word (mcbpc_of intra)) found_of bs at m cs q e (NoCodeword McbpcInter) (rw (ne_eqb m 24 n, eq-eqb (m / 4) 5 h)))

      pub kind_coded : (m / 4 ≡ 5 → ⊥) → got (slot (coded m)) cs q ≡ judged_read {P = counted} (word (mcbpc_of intra)) found_of bs at
      kind_coded h = sym (judged_fine (word (mcbpc_of intra)) found_of bs at m cs q e (slot (coded m)) (rw (ne_eqb m 24 n, ne_eqb (m / 4) 5 h)))

-- ---- COD, in an INTER picture
module _ (intra : Bool) (bs : List Bit) (at : Place) where
  pub found_intra : (x : ReadIn counted Found) → intra ≡ true → x ≡ judged_read (word (mcbpc_of true)) found_of bs at → x ≡ found_read intra bs at
  unfolding found_read
  found_intra x i h = rw i h

  module _ (i : intra ≡ false) where
    pub found_refused : (r : Stopped) → field {P = counted} 1 bs at ≡ refused r → refused r ≡ found_read {P = counted} intra bs at
    unfolding found_read
    found_refused r e = rw (i, e)

    module _ (v : ℕ) (cs : List Bit) (q : Place) (e : field {P = counted} 1 bs at ≡ got v cs q) where
      pub found_unsent : v ≡ 1 → got (slot unsent) cs q ≡ found_read {P = counted} intra bs at
      unfolding found_read
      found_unsent h = rw (i, e, h)

      pub found_sent : v < 2 → (v ≡ 1 → ⊥) → (x : ReadIn counted Found) → x ≡ judged_read (word (mcbpc_of false)) found_of cs q → x ≡ found_read intra bs at
      unfolding found_read
      found_sent l n x h = let z : v ≡ 0 = omega (arith, n) in rw (i, e, z) h

-- ---- whether a header may stand
module _ (number address gquant : ℕ) where
  pub first_group : number ≡ 0 → false ≡ may_stand number address gquant
  first_group e = rw e

  pub not_first : (address ≡ 1 → ⊥) → false ≡ may_stand number address gquant
  not_first n = sym (ap (λ (b : Bool). both b (eqb gquant 0)) (second_no (ltb 0 number) (eqb address 1) (ne_eqb address 1 n)))

  pub one_header : (number ≡ 0 → ⊥) → address ≡ 1 → eqb gquant 0 ≡ may_stand number address gquant
  one_header n e = let l : 0 < number = omega (arith, n) in rw (lt-ltb 0 number l, eq-eqb address 1 e)

-- ---- a read that may be left out: t is the test's answer
module _ {A : Type 0} (has t : Bool) (a : A) (r : ReaderIn counted A) (bs : List Bit) (at : Place) (w : t ≡ has) where
  pub optional_there : (x : ReadIn counted A) → t ≡ true → x ≡ r bs at → x ≡ optional has a r bs at
  optional_there x e h = let z : has ≡ true = sym w ∙ e in rw z h

  pub optional-not : t ≡ false → got a bs at ≡ optional has a r bs at
  optional-not e = let z : has ≡ false = sym w ∙ e in rw z

-- ---- DQUANT
module _ (bs : List Bit) (at : Place) where
  pub dquant_refused : (r : Stopped) → field {P = counted} 2 bs at ≡ refused r → refused r ≡ dquant_read {P = counted} bs at
  dquant_refused r e = rw e

  pub dquant_got : (v x : ℕ) (cs : List Bit) (q : Place) → field {P = counted} 2 bs at ≡ got v cs q → x ≡ dquant_in v → got x cs q ≡ dquant_read {P = counted} bs at
  dquant_got v x cs q e h = rw e (ap (λ (y : ℕ). got y cs q) h)

-- "00 is -1, 01 is -2, 10 is 1, 11 is 2"
pub dquant_down : (v : ℕ) → v < 2 → 256 - (v % 2 + 1) ≡ dquant_in v
dquant_down zero l = refl
dquant_down (suc zero) l = refl
dquant_down (suc (suc v)) l = absurd (omega arith)

pub dquant_up : (v : ℕ) → 2 ≤ v → v < 4 → v % 2 + 1 ≡ dquant_in v
dquant_up zero m l = absurd (omega arith)
dquant_up (suc zero) m l = absurd (omega arith)
dquant_up (suc (suc zero)) m l = refl
dquant_up (suc (suc (suc zero))) m l = refl
dquant_up (suc (suc (suc (suc v)))) m l = absurd (omega arith)

-- ---- the pattern
module _ (intra : Bool) (luminance kind : ℕ) where
  pub pattern_intra : intra ≡ true → luminance * 4 + chroma_in kind ≡ turned intra luminance * 4 + chroma_in kind
  pattern_intra e = rw e

  pub pattern_turned : intra ≡ false → (15 - luminance) * 4 + chroma_in kind ≡ turned intra luminance * 4 + chroma_in kind
  pattern_turned e = rw e
