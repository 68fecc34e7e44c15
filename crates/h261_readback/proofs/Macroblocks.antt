-- The macroblocks of a group are read back, up to and with what ends the group. Assumes nothing.
use mathlib.Core.Path.{◌≡◌, refl, ap, ◌∙◌}
use mathlib.Core.List.{List, [], ◌∷◌, ◌++◌, append_assoc}
use mathlib.Core.Bool.{Bool, true, false}
use Prim.Native.Nat.{ℕ, zero, suc, ◌+◌, ◌-◌, ◌≤◌, ◌<◌}
use native.Mathlib.Omega.{arith}
use borrow.Author.Tests.{le-ltb, ne_eqb}
use lib.Dec.{T, eqb, leb, leb→le, lit<, lit≤}
use lib.ListN.{length, length-append}
use Rattle.laws.specs.Choice.{pick}
use Rattle.laws.proofs.Choice.{both_left, both_right}
use Rattle.refusals.specs.declared.Reason.TheVariants.{QuantiserZero}
use Rattle.bits.specs.Bits.{Bit, bits_of}
use Rattle.bits.specs.Read.{Reader, done, fine, against, judged_read, or_end}
use Rattle.bits.specs.Code.{word, word_in, word_of}
use Rattle.bits.proofs.ReadBack.{Back, back_done, back_next, back_end, back_as, back_judged, back_field}
use Rattle.h261_words.specs.Tables.{table1, table2, table4, start_code}
use Rattle.h261_words.specs.Words.{is_intra, is_mc, has_mquant, has_cbp}
use Rattle.h261_groups.specs.declared.Format.{Format}
use Rattle.h261_description.specs.Vector.{Before, preceding}
use Rattle.layout.specs.Value.{Macroblock}
use Rattle.h261_description.specs.Value.{before_next}
use Rattle.layout.specs.Numbers.{is_quantiser}
use Rattle.layout.specs.Proper.{If}
use Rattle.h261_description.specs.Proper.{ProperMacroblock}
use Rattle.fields.specs.Rules.{quantiser, optional}
use Rattle.h261_layers.specs.Grammar.{macroblock, step, ended, mba_of, mba, macroblocks_after, macroblocks_from}
use Rattle.h261_layers.proofs.Layers.{Ended, Rising}
use Rattle.bits.specs.Write.{bits_if}
use Rattle.layout.specs.Pattern.{pattern_of}
use Rattle.h261_writer.specs.Write.{vector_bits, blocks_of, macroblock_of, macroblocks_of}
use Rattle.h261_readback.proofs.Words.{back_mba, length_mba, back_mtype}
use Rattle.h261_readback.proofs.Blocks.{back_blocks, back_pattern}
use Rattle.h261_readback.proofs.Vectors.{Pointed, Ranged, ranged_vector, back_vector}

-- ---- one macroblock
pub back_quantiser : (q : ℕ) (rest : List Bit) → T (is_quantiser q) → Back quantiser (bits_of 5 q) rest q
back_quantiser q rest h =
    let least = leb→le 1 q (both_left (leb 1 q) (leb q 31) h) in
    let most = leb→le q 31 (both_right (leb 1 q) (leb q 31) h) in
    back_judged (λ q. pick (eqb q 0) (against QuantiserZero) (fine q)) q (back_field 5 q rest (omega arith)) (rw (ne_eqb q 0 (λ e. omega arith)))

back_mquant : (has : Bool) (q : ℕ) (rest : List Bit) → If has (T (is_quantiser q)) (q ≡ 0) → Back (optional has 0 quantiser) (bits_if has (bits_of 5 q)) rest q
back_mquant true q rest h = back_quantiser q rest h
back_mquant false q rest h = rw h (back_done 0 rest)

-- what is written after MBA
abbrev pub body_of : Before → Macroblock → List Bit
body_of before m =
    word_of table2 m.type
    ++ (bits_if (has_mquant m.type) (bits_of 5 m.quant)
    ++ (bits_if (is_mc m.type) (vector_bits (preceding before (m.address - before.address)) m.vector)
    ++ (bits_if (has_cbp m.type) (word_of table4 (pattern_of m.blocks))
    ++ blocks_of (is_intra m.type) m.blocks)))

module _ (f : Format) (number : ℕ) (before : Before) (m : Macroblock) (l : before.address < m.address) (p : ProperMacroblock f number m) (r : Ranged before.vector) where
  -- MBA's step
  abbrev step_to : ℕ
  step_to = m.address - before.address

  steps : before.address + step_to ≡ m.address
  steps = omega arith

  same : (a : ℕ) → a ≡ m.address
      → ◌≡◌ {A = Macroblock} (record { address = a; type = m.type; quant = m.quant; vector = m.vector; blocks = m.blocks }) m
  same a e = ap (λ (a : ℕ). record { address = a; type = m.type; quant = m.quant; vector = m.vector; blocks = m.blocks }) e

  pub back_body : (rest : List Bit) → Back (macroblock f number before step_to) (body_of before m) rest m
  unfolding macroblock
  back_body rest =
      let points : Pointed f number (before.address + step_to) (is_mc m.type) m.vector = rw steps p.pointed in
      let least = leb→le 1 m.type (both_left (leb 1 m.type) (leb m.type 10) p.typed) in
      let most = leb→le m.type 10 (both_right (leb 1 m.type) (leb m.type 10) p.typed) in
      back_next _ (back_mtype m.type _ least most)
      (back_next _ (back_mquant (has_mquant m.type) m.quant _ p.quantised)
      (back_next _ (back_vector f number (before.address + step_to) (is_mc m.type) before step_to m.vector _ r points)
      (back_next _ (back_pattern m.type m.blocks _ p.blocked)
      (back_end _ (back_blocks m.type m.blocks rest p.blocked) (ap done (same _ steps))))))

-- ---- what stands at an MBA place
pub not-ended : {A : Type 0} (a : A) (r : Reader A) (bs : List Bit) (at : ℕ) → 1 ≤ length bs → or_end a r bs at ≡ r bs at
not-ended a r [] at l = absurd (omega arith)
not-ended a r (b ∷ bs) at l = refl

module _ (address s : ℕ) (rest : List Bit) (some : 0 < s) (in_group : address + s ≤ 33) where
  is_step : (last : Bool) → mba_of last address s ≡ fine (step s)
  is_step last = rw (ne_eqb s 34 (λ e. omega arith), ne_eqb s 35 (λ e. omega arith), le-ltb 33 (address + s) in_group)

  pub back_step : (last : Bool) → Back (judged_read (word table1) (mba_of last address)) (word_of table1 s) rest (step s)
  back_step last = back_judged (mba_of last address) (step s) (back_mba s rest some (omega arith)) (is_step last)

  back_place : (last : Bool) → Back (mba last address) (word_of table1 s) rest (step s)
  unfolding mba
  back_place true =
      let w = word_of table1 s in
      let l : 1 ≤ length w = length_mba s some (omega arith) in
      record { reads = λ at. not-ended ended (judged_read (word table1) (mba_of true address)) (w ++ rest) at (omega (arith, length-append w rest)) ∙ (back_step true).reads at }
  back_place false = back_step false

-- what ends a group: nothing in the last one, else the next start code
abbrev pub ending : Bool → List Bit
ending true = []
ending false = bits_of 16 0b0000000000000001

back_start : (rest : List Bit) → Back (word table1) (bits_of 16 0b0000000000000001) rest start_code
unfolding word_in table1
back_start rest = back_mba start_code rest (lit< tt) (lit≤ tt)

back_ended : (last : Bool) (address : ℕ) (rest : List Bit) → Ended last rest → Back (mba last address) (ending last) rest ended
unfolding mba
back_ended true address rest e = rw e (record { reads = λ at. (back_done ended []).reads at })
back_ended false address rest e = back_judged (mba_of false address) ended (back_start rest) refl

-- ---- the macroblocks
regroup : (a b c d : List Bit) → a ++ (b ++ (c ++ d)) ≡ ((a ++ b) ++ c) ++ d
regroup a b c d = simp append_assoc

pub back_macroblocks : (ms : List Macroblock) (turns : ℕ) (f : Format) (last : Bool) (number : ℕ) (before : Before) (rest : List Bit) → length ms < turns
    → Rising f number before.address ms → Ranged before.vector → Ended last rest
    → Back (macroblocks_from turns f last number before) (macroblocks_of before ms ++ ending last) rest ms
unfolding macroblocks_from macroblocks_of macroblock_of
back_macroblocks ms zero f last number before rest l p r e = absurd (omega arith)
back_macroblocks [] (suc turns) f last number before rest l p r e =
    back_end (macroblocks_after (macroblocks_from turns f last number) f number before) (back_ended last before.address rest e) refl
back_macroblocks (m ∷ ms) (suc turns) f last number before rest l p r e =
    let s = m.address - before.address in
    let v = macroblocks_of (before_next m) ms ++ ending last in
    let more = back_macroblocks ms turns f last number (before_next m) rest (omega arith) p.3
    (ranged_vector f number m.address (is_mc m.type) m.vector p.2.pointed) e in
    back_as (regroup (word_of table1 s) (body_of before m) (macroblocks_of (before_next m) ms) (ending last))
    (back_next (macroblocks_after (macroblocks_from turns f last number) f number before)
    (back_place before.address s ((body_of before m ++ v) ++ rest) (omega (arith, p.0)) (omega (arith, p.0, p.1)) last)
    (back_next _ (back_body f number before m p.0 p.2 r (v ++ rest)) (back_end _ more refl)))

-- each has a bit at least
pub more_bits : (f : Format) (number : ℕ) (before : Before) (ms : List Macroblock) → Rising f number before.address ms
    → length ms ≤ length (macroblocks_of before ms)
unfolding macroblocks_of macroblock_of
more_bits f number before [] p = lit≤ tt
more_bits f number before (m ∷ ms) p =
    let s = m.address - before.address in
    let w = word_of table1 s in
    let h = length_mba s (omega (arith, p.0)) (omega (arith, p.0, p.1)) in
    let g = more_bits f number (before_next m) ms p.3 in
    omega (arith, length-append (w ++ body_of before m) (macroblocks_of (before_next m) ms), length-append w (body_of before m))
