-- A turn of the loop over a block's coefficients, on plain values: what the grammar gives from here, on what is written, is what it gave from the start. Assumes nothing.
use mathlib.Core.Path.{◌≡◌, refl, sym, ap, ◌∙◌}
use mathlib.Core.Bool.{Bool, true, false}
use mathlib.Core.List.{List, [], ◌∷◌}
use Prim.Native.Nat.{ℕ, suc, ◌+◌, ◌-◌, ◌≤◌, ◌<◌}
use native.Mathlib.Omega.{arith}
use borrow.Author.Tests.{le-leb, lt-leb}
use lib.ListN.{length, set}
use Rattle.refusals.specs.declared.Reason.TheVariants.{CoefficientPast}
use Rattle.refusals.specs.Number.{refusal}
use Rattle.bits.specs.Bits.{Bit, bits_left}
use Rattle.bits.specs.Places.{counted, stop_in}
use Rattle.bits.specs.Read.{ReadIn, got, refused, loop}
use Rattle.bits.specs.Answer.{Placed}
use Rattle.bits.specs.declared.Place.{Place}
use Rattle.bits.specs.declared.Stopped.{Stopped}
use Rattle.bits.specs.Code.{CodeTable}
use Rattle.h261_words.specs.Tables.{first_table5, later_table5, table_of}
use Rattle.layout.specs.Value.{Coefficient as Coefficient·, coefficient}
use Rattle.h261_words.specs.Words.{sent, over, coefficient_read}
use Rattle.layout.specs.Flat.{put_block}
use Rattle.bits.proofs.Logic.{Reads, reads_weaker}
use Rattle.bits.proofs.Once.{counting}
use Rattle.h261_words.specs.Answer.{as_coefficient}
use Rattle.h261_words.specs.declared.CoefficientRead.{CoefficientRead}
use Rattle.h261_words.specs.declared.CoefficientRead.TheVariants.{Coefficient, EndOfBlock, Refused as NoCoefficient}
use Rattle.h261_words.specs.contracts.CoefficientRead.{the_type as coefficient_type}
use denote.Enum.Declared.{tag_of}
use types.Run.{OneOf}
use mathlib.Core.Logic.{inl, inr}
use lib.Dec.{lit≤}
use Rattle.h261_words.proofs.WordReads.{once_coefficient, coefficient_reads, first_meanings, later_meanings}
use Rattle.fields.specs.Answer.{map_read, leaving, place_of}
use Rattle.h261_layers.specs.Answer.{block_end}
use Rattle.h261_layers.specs.Grammar.{coefficients}
use Rattle.fields.proofs.Meaning.{map-done, length_left, some, onward}
use Rattle.fields.proofs.Told.{within_next}

-- ---- one step of the definition, by what is read
module _ (fuel room : ℕ) (table : CodeTable) (bs : List Bit) (at : Place) where
  step_refused : (r : Stopped) → coefficient_read {P = counted} table bs at ≡ refused r → coefficients {P = counted} (suc fuel) room table bs at ≡ refused r
  unfolding coefficients
  step_refused r e = rw e

  step_over : (cs : List Bit) (q : Place) → coefficient_read {P = counted} table bs at ≡ got over cs q → coefficients {P = counted} (suc fuel) room table bs at ≡ got [] cs q
  unfolding coefficients
  step_over cs q e = rw e

  step_past : (c : Coefficient·) (cs : List Bit) (q : Place) → coefficient_read {P = counted} table bs at ≡ got (sent c) cs q → room ≤ c.run
      → coefficients {P = counted} (suc fuel) room table bs at ≡ refused (stop_in counted (refusal CoefficientPast at.bit) q)
  unfolding coefficients
  step_past c cs q e l = rw (e, le-leb room c.run l)

  step_more : (A : Type 0) (g : List Coefficient· → A) (c : Coefficient·) (cs : List Bit) (q : Place) → coefficient_read {P = counted} table bs at ≡ got (sent c) cs q → c.run < room
      → map_read g (coefficients {P = counted} (suc fuel) room table bs at) ≡ map_read (λ rest. g (c ∷ rest)) (coefficients fuel (room - suc c.run) later_table5 cs q)
  unfolding coefficients
  step_more A g c cs q e l = rw (e, lt-leb room c.run l) (map-done g (λ rest. c ∷ rest) (coefficients fuel (room - suc c.run) later_table5 cs q))

-- a codeword of Table 5 takes a bit at least
coefficient_word : {bound : ℕ} (first : Bool) → Reads bound 1 (λ e left. Unit {0}) (λ P. coefficient_read (table_of first))
coefficient_word true = reads_weaker (coefficient_reads false first_table5 first_meanings) (lit≤ tt) (λ e left g. tt)
coefficient_word false = reads_weaker (coefficient_reads true later_table5 later_meanings) (lit≤ tt) (λ e left g. tt)

-- and is one read
pub counted-coefficient : (first : Bool) (s : List ℕ) (n : ℕ) (p : Place) (r : CoefficientRead) → as_coefficient s n r ≡ coefficient_read (table_of first) (bits_left s n p.bit) p.bit
    → counting p (as_coefficient s n r) ≡ coefficient_read (table_of first) (bits_left s n p.bit) p
counted-coefficient first s n p r e = ap (λ x. counting p x) e ∙ sym ((once_coefficient (table_of first)).one (bits_left s n p.bit) p)

-- ---- the loop
pub record CoefficientsSoFar (start : ReadIn counted (List ℕ)) (s : List ℕ) (n end : ℕ) (first : Bool) (levels : List ℕ) (k : ℕ) (p : Place) : Type 0 where
  pub placed : Placed s n p
  pub room : k ≤ end
  pub fuel : ℕ
  pub enough : n - p.bit < fuel
  pub same : start ≡ map_read (put_block levels k) (coefficients fuel (end - k) (table_of first) (bits_left s n p.bit) p)

pub coefficients_first : (s : List ℕ) (n end : ℕ) (first : Bool) (levels : List ℕ) (k : ℕ) (p : Place) → Placed s n p → k ≤ end
    → CoefficientsSoFar (map_read (put_block levels k) (loop (λ turns. coefficients turns (end - k) (table_of first)) (bits_left s n p.bit) p)) s n end first levels k p
coefficients_first s n end first levels k p l m =
    record { placed = l; room = m; fuel = suc (length (bits_left s n p.bit)); enough = omega (arith, length_left s n p.bit); same = refl }

module _ {start : ReadIn counted (List ℕ)} {s : List ℕ} {n end : ℕ} {first : Bool} {levels : List ℕ} {k : ℕ} {p : Place} (h : CoefficientsSoFar start s n end first levels k p) where
  turn : (rest : ℕ) → h.fuel ≡ suc rest → start ≡ map_read (put_block levels k) (coefficients (suc rest) (end - k) (table_of first) (bits_left s n p.bit) p)
  turn rest e = h.same ∙ ap (λ (m : ℕ). map_read (put_block levels k) (coefficients m (end - k) (table_of first) (bits_left s n p.bit) p)) e

  coefficients-refused : (r : Stopped) → coefficient_read {P = counted} (table_of first) (bits_left s n p.bit) p ≡ refused r → refused r ≡ start
  coefficients-refused r e =
      let o = some (n - p.bit) h.fuel h.enough in
      sym (turn o.0 o.1 ∙ ap (map_read (put_block levels k)) (step_refused o.0 (end - k) (table_of first) (bits_left s n p.bit) p r e))

  coefficients-over : (q : Place) → coefficient_read {P = counted} (table_of first) (bits_left s n p.bit) p ≡ got over (bits_left s n q.bit) q → got levels (bits_left s n q.bit) q ≡ start
  unfolding put_block
  coefficients-over q e =
      let o = some (n - p.bit) h.fuel h.enough in
      sym (turn o.0 o.1 ∙ ap (map_read (put_block levels k)) (step_over o.0 (end - k) (table_of first) (bits_left s n p.bit) p (bits_left s n q.bit) q e))

  module _ {run code q : ℕ} (w : as_coefficient s n (Coefficient run code q) ≡ coefficient_read (table_of first) (bits_left s n p.bit) p.bit) where
    read : coefficient_read {P = counted} (table_of first) (bits_left s n p.bit) p ≡ got (sent (coefficient run code)) (bits_left s n q) (place_of q (p.reads + 1))
    read = sym (counted-coefficient first s n p (Coefficient run code q) w)

    pub coefficients_past : end ≤ k + run → refused (stop_in counted (refusal CoefficientPast p.bit) (place_of q (p.reads + 1))) ≡ start
    coefficients_past l =
        let o = some (n - p.bit) h.fuel h.enough in
        sym (turn o.0 o.1 ∙ ap (map_read (put_block levels k)) (step_past o.0 (end - k) (table_of first) (bits_left s n p.bit) p (coefficient run code) (bits_left s n q) (place_of q (p.reads + 1)) read (omega arith)))

    pub coefficients_next : (p.bit < q) × (q ≤ n)
    coefficients_next =
        let o = onward s n p _ (place_of q (p.reads + 1)) (coefficient_word first) h.placed.within.inside read in
        (omega (arith, o.ahead), o.inside)

    pub coefficients_more : k + run < end → CoefficientsSoFar start s n end false (set levels (k + run) code) (k + run + 1) (place_of q (p.reads + 1))
    unfolding put_block
    coefficients_more l =
        let o = some (n - p.bit) h.fuel h.enough in
        let w = coefficients_next in
        let a : end - k - suc run ≡ end - (k + run + 1) = omega arith in
        let b : k + suc run ≡ k + run + 1 = omega arith in
        record {
          placed = within_next s n p _ (place_of q (p.reads + 1)) (coefficient_word first) h.placed read;
          room = omega arith;
          fuel = o.0;
          enough = omega (arith, h.enough, o.1, w);
          same =
              turn o.0 o.1
              ∙ step_more o.0 (end - k) (table_of first) (bits_left s n p.bit) p (List ℕ) (put_block levels k) (coefficient run code) (bits_left s n q) (place_of q (p.reads + 1)) read (omega arith)
              ∙ (λ i. map_read (put_block (set levels (k + run) code) (b i)) (coefficients o.0 (a i) later_table5 (bits_left s n q) (place_of q (p.reads + 1))));
        }

  -- a read that is no coefficient ends the block
  pub coefficients_end : (r : CoefficientRead) → OneOf (1 ∷ 2 ∷ []) (tag_of coefficient_type r) → as_coefficient s n r ≡ coefficient_read (table_of first) (bits_left s n p.bit) p.bit
      → leaving s n (block_end (p.reads + 1) r) levels ≡ start
  coefficients_end (Coefficient run code q) t e = absurd (neither t)
    where
      neither : OneOf (1 ∷ 2 ∷ []) 0 → ⊥
      neither (inl z) = omega arith
      neither (inr z) = omega arith
  coefficients_end (EndOfBlock q) t e = coefficients-over (place_of q (p.reads + 1)) (sym (counted-coefficient first s n p (EndOfBlock q) e))
  coefficients_end (NoCoefficient r) t e = coefficients-refused (record { refusal = r; reads = p.reads + 1 }) (sym (counted-coefficient first s n p (NoCoefficient r) e))
