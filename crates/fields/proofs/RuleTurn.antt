-- Fields under their rules, and a turn of the loop over spares, on plain values. Assumes nothing.
use mathlib.Core.Path.{◌≡◌, refl, sym, ap, ◌∙◌}
use mathlib.Core.List.{List}
use Prim.Native.Nat.{ℕ, zero, suc, ◌-◌, ◌≤◌, ◌<◌}
use native.Mathlib.Omega.{arith}
use borrow.Author.Tests.{eq-eqb, ne_eqb}
use lib.Dec.{eqb}
use lib.ListN.{length}
use Rattle.laws.specs.Choice.{pick}
use Rattle.refusals.specs.declared.Reason.{Reason}
use Rattle.refusals.specs.declared.Reason.TheVariants.{QuantiserZero}
use Rattle.refusals.specs.Number.{refusal}
use Rattle.bits.specs.Bits.{Bit, bits_left}
use Rattle.bits.specs.Places.{counted, stop_in}
use Rattle.bits.specs.declared.Place.{Place}
use Rattle.bits.specs.declared.Stopped.{Stopped}
use Rattle.bits.specs.Read.{ReadIn, got, refused, field, fine, against}
use Rattle.bits.specs.Answer.{Placed}
use Rattle.bits.proofs.Logic.{reads_field}
use Rattle.fields.specs.Rules.{expect, quantiser, spares_from, spares}
use Rattle.fields.proofs.Meaning.{judged_fine, judged_against, length_left, some, onward}
use Rattle.fields.proofs.Told.{within_next}

-- ---- a field that was got
module _ (k : ℕ) (bs : List Bit) (at : Place) (v : ℕ) (cs : List Bit) (q : Place) (e : field {P = counted} k bs at ≡ got v cs q) where
  pub expect_yes : (wanted : ℕ) (reason : Reason) → v ≡ wanted → got wanted cs q ≡ expect {P = counted} k wanted reason bs at
  expect_yes wanted reason h =
      sym (judged_fine (field k) (λ x. pick (eqb x wanted) (fine x) (against reason)) bs at v cs q e wanted (rw (eq-eqb v wanted h) (ap (λ (x : ℕ). fine x) h)))

  pub expect_no : (wanted : ℕ) (reason : Reason) → (v ≡ wanted → ⊥) → refused (stop_in counted (refusal reason at.bit) q) ≡ expect {P = counted} k wanted reason bs at
  expect_no wanted reason h = sym (judged_against (field k) (λ x. pick (eqb x wanted) (fine x) (against reason)) bs at v cs q e reason (rw (ne_eqb v wanted h)))

module _ (bs : List Bit) (at : Place) (v : ℕ) (cs : List Bit) (q : Place) (e : field {P = counted} 5 bs at ≡ got v cs q) where
  pub quantiser_no : v ≡ 0 → refused (stop_in counted (refusal QuantiserZero at.bit) q) ≡ quantiser {P = counted} bs at
  quantiser_no h = sym (judged_against (field 5) (λ x. pick (eqb x 0) (against QuantiserZero) (fine x)) bs at v cs q e QuantiserZero (rw (eq-eqb v 0 h)))

  pub quantiser_yes : (v ≡ 0 → ⊥) → got v cs q ≡ quantiser {P = counted} bs at
  quantiser_yes h = sym (judged_fine (field 5) (λ x. pick (eqb x 0) (against QuantiserZero) (fine x)) bs at v cs q e v (rw (ne_eqb v 0 h)))

-- ---- spares
pub record SparesSoFar (start : ReadIn counted ℕ) (s : List ℕ) (n : ℕ) (at : Place) : Type 0 where
  pub placed : Placed s n at
  pub fuel : ℕ
  pub enough : n - at.bit < fuel
  pub same : start ≡ spares_from fuel (bits_left s n at.bit) at

pub spares_first : (s : List ℕ) (n : ℕ) (at : Place) → Placed s n at → SparesSoFar (spares (bits_left s n at.bit) at) s n at
unfolding spares
spares_first s n at l = record { placed = l; fuel = suc (length (bits_left s n at.bit)); enough = omega (arith, length_left s n at.bit); same = refl }

module _ (fuel : ℕ) (bs : List Bit) (at : Place) where
  step_refused : (r : Stopped) → field {P = counted} 1 bs at ≡ refused r → spares_from {P = counted} (suc fuel) bs at ≡ refused r
  unfolding spares_from
  step_refused r e = rw e

  step_none : (cs : List Bit) (q : Place) → field {P = counted} 1 bs at ≡ got 0 cs q → spares_from {P = counted} (suc fuel) bs at ≡ got 0 cs q
  unfolding spares_from
  step_none cs q e = rw e

  module _ (v : ℕ) (cs : List Bit) (q : Place) (e : field {P = counted} 1 bs at ≡ got (suc v) cs q) where
    step_inside : (r : Stopped) → field {P = counted} 8 cs q ≡ refused r → spares_from {P = counted} (suc fuel) bs at ≡ refused r
    unfolding spares_from
    step_inside r h = rw (e, h)

    step_more : (w : ℕ) (ds : List Bit) (z : Place) → field {P = counted} 8 cs q ≡ got w ds z → spares_from {P = counted} (suc fuel) bs at ≡ spares_from fuel ds z
    unfolding spares_from
    step_more w ds z h = rw (e, h)

module _ {start : ReadIn counted ℕ} {s : List ℕ} {n : ℕ} {at : Place} (h : SparesSoFar start s n at) where
  turn : (rest : ℕ) → h.fuel ≡ suc rest → start ≡ spares_from (suc rest) (bits_left s n at.bit) at
  turn rest e = h.same ∙ ap (λ (m : ℕ). spares_from m (bits_left s n at.bit) at) e

  pub spares-refused : (r : Stopped) → field {P = counted} 1 (bits_left s n at.bit) at ≡ refused r → refused r ≡ start
  spares-refused r e = let o = some (n - at.bit) h.fuel h.enough in sym (turn o.0 o.1 ∙ step_refused o.0 (bits_left s n at.bit) at r e)

  module _ (v : ℕ) (q : Place) (e : field {P = counted} 1 (bits_left s n at.bit) at ≡ got v (bits_left s n q.bit) q) where
    pub spares_at : Placed s n q
    spares_at = within_next s n at v q (reads_field 1 tt) h.placed e

    pub spares-none : v ≡ 0 → got 0 (bits_left s n q.bit) q ≡ start
    spares-none z = none v z e
      where
        none : (v : ℕ) → v ≡ 0 → field {P = counted} 1 (bits_left s n at.bit) at ≡ got v (bits_left s n q.bit) q → got 0 (bits_left s n q.bit) q ≡ start
        none zero z e = let o = some (n - at.bit) h.fuel h.enough in sym (turn o.0 o.1 ∙ step_none o.0 (bits_left s n at.bit) at (bits_left s n q.bit) q e)
        none (suc v) z e = absurd (omega arith)

    pub spares_inside : (v ≡ 0 → ⊥) → (r : Stopped) → field {P = counted} 8 (bits_left s n q.bit) q ≡ refused r → refused r ≡ start
    spares_inside z r k = inside v z e
      where
        inside : (v : ℕ) → (v ≡ 0 → ⊥) → field {P = counted} 1 (bits_left s n at.bit) at ≡ got v (bits_left s n q.bit) q → refused r ≡ start
        inside zero z e = absurd (z refl)
        inside (suc v) z e =
            let o = some (n - at.bit) h.fuel h.enough in sym (turn o.0 o.1 ∙ step_inside o.0 (bits_left s n at.bit) at v (bits_left s n q.bit) q e r k)

    module _ (w : ℕ) (z : Place) (k : field {P = counted} 8 (bits_left s n q.bit) q ≡ got w (bits_left s n z.bit) z) where
      pub spares_less : (at.bit < z.bit) × (z.bit ≤ n)
      spares_less =
          let a = onward s n at v q (reads_field 1 tt) h.placed.within.inside e in
          let b = onward s n q w z (reads_field 8 tt) a.inside k in
          (omega (arith, a.ahead, b.ahead), b.inside)

      pub spares_more : (v ≡ 0 → ⊥) → SparesSoFar start s n z
      spares_more n0 = more v n0 e
        where
          more : (v : ℕ) → (v ≡ 0 → ⊥) → field {P = counted} 1 (bits_left s n at.bit) at ≡ got v (bits_left s n q.bit) q → SparesSoFar start s n z
          more zero n0 e = absurd (n0 refl)
          more (suc v) n0 e =
              let o = some (n - at.bit) h.fuel h.enough in
              record {
                placed = within_next s n q w z (reads_field 8 tt) spares_at k;
                fuel = o.0;
                enough = omega (arith, h.enough, o.1, spares_less);
                same = turn o.0 o.1 ∙ step_more o.0 (bits_left s n at.bit) at v (bits_left s n q.bit) q e w (bits_left s n z.bit) z k;
              }
