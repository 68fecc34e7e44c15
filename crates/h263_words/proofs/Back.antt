-- Every codeword that is written for a meaning is read back as that meaning. Assumes nothing.
use mathlib.Core.Path.{◌≡◌, refl, ap, ◌∙◌}
use mathlib.Core.Bool.{Bool, true, false}
use mathlib.Core.List.{List, ◌++◌, append_assoc}
use Prim.Native.Nat.{ℕ, ◌+◌, ◌/◌, ◌%◌, ◌≤◌}
use native.Mathlib.Omega.{arith}
use borrow.Author.Tests.{ltb-true}
use lib.Dec.{T, ltb}
use lib.ListN.{length, length-append}
use Rattle.laws.specs.Choice.{pick, both}
use Rattle.laws.proofs.Choice.{both_left, both_right, true-T, T_true}
use Rattle.bits.specs.Bits.{Bit, bits_of}
use Rattle.bits.specs.Places.{plain}
use Rattle.bits.specs.Read.{got, settle}
use Rattle.bits.specs.Code.{word, word_of, has_in, has}
use Rattle.bits.proofs.Codes.{word_back}
use Rattle.bits.proofs.Codewords.{has-each}
use Rattle.bits.proofs.Fields.{field_back, length-bits_of}
use Rattle.layout.specs.Value.{Coefficient}
use Rattle.layout.specs.Numbers.{signed_code, code_sign, code_size}
use Rattle.layout.specs.Sendable.{Sendable}
use Rattle.layout.proofs.Codes.{size_some, sign_small, sign_back}
use Rattle.h263_words.specs.Tables.{kind, stuffing, mcbpc_intra, mcbpc_inter, mcbpc_of, cbpy, mvd, event, escape, tcoef}
use Rattle.h263_words.specs.Words.{event_of, allowed, event_read, tcoef_of}
use Rattle.h263_words.proofs.Meanings.{mcbpc_free, cbpy-free, mvd-free, tcoef-free}
use Rattle.h263_words.proofs.Events.{escape_read, tabled_read, settle-allowed}

-- ---- the meanings that have a codeword
pub has_intra : (type chroma : ℕ) → 1 ≤ type → type ≤ 2 → chroma ≤ 3 → T (has mcbpc_intra (kind type chroma))
unfolding mcbpc_intra has_in
has_intra type chroma l h c = has-each mcbpc_intra.entries 4 11 tt (kind type chroma) (omega arith) (omega arith)

pub has_inter : (type chroma : ℕ) → 1 ≤ type → type ≤ 4 → chroma ≤ 3 → T (has mcbpc_inter (kind type chroma))
unfolding mcbpc_inter has_in
has_inter type chroma l h c = has-each mcbpc_inter.entries 4 19 tt (kind type chroma) (omega arith) (omega arith)

pub has-stuffing : (intra : Bool) → T (has (mcbpc_of intra) stuffing)
unfolding mcbpc_intra mcbpc_inter has_in
has-stuffing true = tt
has-stuffing false = tt

pub has-cbpy : (m : ℕ) → m ≤ 15 → T (has cbpy m)
unfolding cbpy has_in
has-cbpy m h = has-each cbpy.entries 0 15 tt m (omega arith) h

pub has-mvd : (m : ℕ) → m ≤ 63 → T (has mvd m)
unfolding mvd has_in
has-mvd m h = has-each mvd.entries 0 63 tt m (omega arith) h

has-escape : T (has tcoef escape)
unfolding tcoef has_in
has-escape = tt

-- ---- MCBPC, CBPY, MVD
pub mcbpc_back : (intra : Bool) (m : ℕ) (rest : List Bit) (at : ℕ) → T (has (mcbpc_of intra) m)
    → word {P = plain} (mcbpc_of intra) (word_of (mcbpc_of intra) m ++ rest) at ≡ got m rest (at + length (word_of (mcbpc_of intra) m))
mcbpc_back intra m rest at h = word_back (mcbpc_of intra) m rest at (mcbpc_free intra) h

pub cbpy_back : (m : ℕ) (rest : List Bit) (at : ℕ) → m ≤ 15 → word {P = plain} cbpy (word_of cbpy m ++ rest) at ≡ got m rest (at + length (word_of cbpy m))
cbpy_back m rest at h = word_back cbpy m rest at cbpy-free (has-cbpy m h)

pub mvd_back : (m : ℕ) (rest : List Bit) (at : ℕ) → m ≤ 63 → word {P = plain} mvd (word_of mvd m ++ rest) at ≡ got m rest (at + length (word_of mvd m))
mvd_back m rest at h = word_back mvd m rest at mvd-free (has-mvd m h)

-- ---- TCOEF
module _ (last : ℕ) (one : last ≤ 1) (c : Coefficient) (g : Sendable c) (rest : List Bit) (at : ℕ) where
  m : ℕ
  m = event last c.run (code_size c.code)

  tabled_back : ltb (code_size c.code) 16 ≡ true → T (has tcoef m)
      → event_read {P = plain} ((word_of tcoef m ++ bits_of 1 (code_sign c.code)) ++ rest) at
      ≡ got (event_of last c.run c.code) rest (at + length (word_of tcoef m ++ bits_of 1 (code_sign c.code)))
  unfolding m
  tabled_back l h =
      let some = size_some c.code g.byte g.level in
      let less = ltb-true (code_size c.code) 16 l in
      let w = word_of tcoef m in
      let s = bits_of 1 (code_sign c.code) in
      let n : m ≡ escape → ⊥ = λ e. omega arith in
      let end : m / 1024 ≡ last = omega (arith, g.run) in
      let run : m / 16 % 64 ≡ c.run = omega (arith, g.run) in
      let lev : m % 16 ≡ code_size c.code = omega arith in
      let e = word_back tcoef m (s ++ rest) at tcoef-free h in
      let f = field_back 1 (code_sign c.code) rest (at + length w) (sign_small c.code) in
      let p : at + length w + 1 ≡ at + length (w ++ s) = omega (arith, length-append w s, length-bits_of 1 (code_sign c.code)) in
      let k : signed_code (code_sign c.code) (m % 16) ≡ c.code = ap (signed_code (code_sign c.code)) lev ∙ sign_back c.code g.byte in
      rw (append_assoc w s rest)
      (tabled_read (w ++ (s ++ rest)) at m (s ++ rest) (at + length w) e n (code_sign c.code) rest (at + length w + 1) f
      ∙ (λ i. settle at (allowed (event_of (end i) (run i) (k i))) rest (p i))
      ∙ settle-allowed at last c.run c.code rest (at + length (w ++ s)) g.level)

  escape_back : event_read {P = plain} ((word_of tcoef escape ++ (bits_of 1 last ++ (bits_of 6 c.run ++ bits_of 8 c.code))) ++ rest) at
      ≡ got (event_of last c.run c.code) rest (at + length (word_of tcoef escape ++ (bits_of 1 last ++ (bits_of 6 c.run ++ bits_of 8 c.code))))
  escape_back =
      let w = word_of tcoef escape in
      let t = bits_of 1 last in
      let r = bits_of 6 c.run in
      let l = bits_of 8 c.code in
      let e = word_back tcoef escape (t ++ (r ++ (l ++ rest))) at tcoef-free has-escape in
      let d = field_back 1 last (r ++ (l ++ rest)) (at + length w) (omega arith) in
      let f = field_back 6 c.run (l ++ rest) (at + length w + 1) (omega (arith, g.run)) in
      let h = field_back 8 c.code rest (at + length w + 1 + 6) g.byte in
      let p : at + length w + 1 + 6 + 8 ≡ at + length (w ++ (t ++ (r ++ l))) =
      omega (arith, length-append w (t ++ (r ++ l)), length-append t (r ++ l), length-append r l, length-bits_of 1 last, length-bits_of 6 c.run, length-bits_of 8 c.code) in
      rw (append_assoc w (t ++ (r ++ l)) rest, append_assoc t (r ++ l) rest, append_assoc r l rest)
      (escape_read (w ++ (t ++ (r ++ (l ++ rest)))) at escape _ _ e refl last _ _ c.run _ _ c.code rest (at + length w + 1 + 6 + 8) d f h
      ∙ ap (settle at (allowed (event_of last c.run c.code)) rest) p
      ∙ settle-allowed at last c.run c.code rest (at + length (w ++ (t ++ (r ++ l)))) g.level)

  pub event_back : event_read {P = plain} (tcoef_of last c ++ rest) at ≡ got (event_of last c.run c.code) rest (at + length (tcoef_of last c))
  unfolding tcoef_of m
  event_back = go (both (ltb (code_size c.code) 16) (has tcoef m)) refl
    where
      A : List Bit
      A = word_of tcoef m ++ bits_of 1 (code_sign c.code)

      B : List Bit
      B = word_of tcoef escape ++ (bits_of 1 last ++ (bits_of 6 c.run ++ bits_of 8 c.code))

      go : (b : Bool) → both (ltb (code_size c.code) 16) (has tcoef m) ≡ b → event_read {P = plain} (pick b A B ++ rest) at ≡ got (event_of last c.run c.code) rest (at + length (pick b A B))
      go true e =
          let t = true-T (both (ltb (code_size c.code) 16) (has tcoef m)) e in
          tabled_back (T_true _ (both_left (ltb (code_size c.code) 16) (has tcoef m) t)) (both_right (ltb (code_size c.code) 16) (has tcoef m) t)
      go false e = escape_back
