-- A turn of the loop over a block's events, on plain values: what the grammar gives from here, on what is written, is what it gave from the start. Assumes nothing.
use mathlib.Core.Path.{◌≡◌, refl, sym, ap, ◌∙◌}
use mathlib.Core.List.{List, [], ◌∷◌}
use Prim.Native.Nat.{ℕ, suc, ◌+◌, ◌-◌, ◌≤◌, ◌<◌}
use native.Mathlib.Omega.{arith}
use borrow.Author.Tests.{le-leb, lt-leb, eq-eqb, ne_eqb}
use Rattle.refusals.specs.declared.Refusal.{Refusal}
use lib.ListN.{length, set}
use Rattle.refusals.specs.declared.Reason.TheVariants.{CoefficientPast}
use Rattle.refusals.specs.Number.{refusal}
use Rattle.bits.specs.Bits.{Bit, bits_left}
use Rattle.bits.specs.Places.{counted, stop_in}
use Rattle.bits.specs.Read.{ReadIn, got, refused, loop}
use Rattle.bits.specs.Answer.{Placed}
use Rattle.bits.specs.declared.Place.{Place}
use Rattle.bits.specs.declared.Stopped.{Stopped}
use Rattle.bits.proofs.Once.{counting}
use Rattle.layout.specs.Value.{Coefficient}
use Rattle.layout.specs.Flat.{put_block}
use Rattle.fields.specs.Answer.{map_read, place_of}
use Rattle.fields.proofs.Meaning.{map-done, length_left, some, onward}
use Rattle.fields.proofs.Told.{within_next}
use Rattle.h263_words.specs.Words.{Event as Event·, event_of, event_read}
use Rattle.h263_words.specs.Answer.{as_event}
use Rattle.h263_words.specs.declared.EventRead.{EventRead}
use Rattle.h263_words.specs.declared.EventRead.TheVariants.{Event, Refused as NoEvent}
use Rattle.h263_words.proofs.WordReads.{once_event, event_reads}
use Rattle.h263_layers.specs.Answer.{event_stopped}
use Rattle.h263_layers.specs.Grammar.{events}

-- ---- one step of the definition, by what is read
module _ (fuel room : ℕ) (bs : List Bit) (at : Place) where
  step_refused : (r : Stopped) → event_read {P = counted} bs at ≡ refused r → events {P = counted} (suc fuel) room bs at ≡ refused r
  unfolding events
  step_refused r e = rw e

  module _ (x : Event·) (cs : List Bit) (q : Place) (e : event_read {P = counted} bs at ≡ got x cs q) where
    step_past : room ≤ x.sent.run → events {P = counted} (suc fuel) room bs at ≡ refused (stop_in counted (refusal CoefficientPast at.bit) q)
    unfolding events
    step_past l = rw (e, le-leb room x.sent.run l)

    step_last : x.sent.run < room → x.last ≡ 1 → events {P = counted} (suc fuel) room bs at ≡ got (x.sent ∷ []) cs q
    unfolding events
    step_last l h = rw (e, lt-leb room x.sent.run l, eq-eqb x.last 1 h)

    step_more : (A : Type 0) (g : List Coefficient → A) → x.sent.run < room → (x.last ≡ 1 → ⊥)
        → map_read g (events {P = counted} (suc fuel) room bs at) ≡ map_read (λ rest. g (x.sent ∷ rest)) (events fuel (room - suc x.sent.run) cs q)
    unfolding events
    step_more A g l h = rw (e, lt-leb room x.sent.run l, ne_eqb x.last 1 h) (map-done g (λ rest. x.sent ∷ rest) (events fuel (room - suc x.sent.run) cs q))

-- an event is one read
event_once : (s : List ℕ) (n : ℕ) (p : Place) (r : EventRead) → as_event s n r ≡ event_read (bits_left s n p.bit) p.bit
    → counting p (as_event s n r) ≡ event_read (bits_left s n p.bit) p
event_once s n p r e = ap (λ x. counting p x) e ∙ sym (once_event.one (bits_left s n p.bit) p)

-- ---- the loop
pub record EventsSoFar (start : ReadIn counted (List ℕ)) (s : List ℕ) (n end : ℕ) (levels : List ℕ) (k : ℕ) (p : Place) : Type 0 where
  pub placed : Placed s n p
  pub room : k ≤ end
  pub fuel : ℕ
  pub enough : n - p.bit < fuel
  pub same : start ≡ map_read (put_block levels k) (events fuel (end - k) (bits_left s n p.bit) p)

pub events_first : (s : List ℕ) (n end : ℕ) (levels : List ℕ) (k : ℕ) (p : Place) → Placed s n p → k ≤ end
    → EventsSoFar (map_read (put_block levels k) (loop (λ turns. events turns (end - k)) (bits_left s n p.bit) p)) s n end levels k p
events_first s n end levels k p l m =
    record { placed = l; room = m; fuel = suc (length (bits_left s n p.bit)); enough = omega (arith, length_left s n p.bit); same = refl }

module _ {start : ReadIn counted (List ℕ)} {s : List ℕ} {n end : ℕ} {levels : List ℕ} {k : ℕ} {p : Place} (h : EventsSoFar start s n end levels k p) where
  turn : (rest : ℕ) → h.fuel ≡ suc rest → start ≡ map_read (put_block levels k) (events (suc rest) (end - k) (bits_left s n p.bit) p)
  turn rest e = h.same ∙ ap (λ (m : ℕ). map_read (put_block levels k) (events m (end - k) (bits_left s n p.bit) p)) e

  -- a read that was refused
  pub events-refused : {why : Refusal} (r : EventRead) → r ≡ NoEvent why → as_event s n r ≡ event_read (bits_left s n p.bit) p.bit → refused (event_stopped (p.reads + 1) r) ≡ start
  events-refused {why} r t e =
      let o = some (n - p.bit) h.fuel h.enough in
      let read = sym (ap (as_event s n) t) ∙ e in
      ap (λ (x : EventRead). refused (event_stopped (p.reads + 1) x)) t
      ∙ sym (turn o.0 o.1 ∙ ap (map_read (put_block levels k)) (step_refused o.0 (end - k) (bits_left s n p.bit) p _ (sym (event_once s n p (NoEvent why) read))))

  module _ {last run code q : ℕ} (w : as_event s n (Event last run code q) ≡ event_read (bits_left s n p.bit) p.bit) where
    abbrev after : Place
    after = place_of q (p.reads + 1)

    read : event_read {P = counted} (bits_left s n p.bit) p ≡ got (event_of last run code) (bits_left s n q) after
    read = sym (event_once s n p (Event last run code q) w)

    pub events_past : end ≤ k + run → refused (stop_in counted (refusal CoefficientPast p.bit) after) ≡ start
    events_past l =
        let o = some (n - p.bit) h.fuel h.enough in
        sym (turn o.0 o.1 ∙ ap (map_read (put_block levels k)) (step_past o.0 (end - k) (bits_left s n p.bit) p (event_of last run code) (bits_left s n q) after read (omega arith)))

    pub events_next : (p.bit < q) × (q ≤ n)
    events_next =
        let o = onward s n p _ after event_reads h.placed.within.inside read in
        (omega (arith, o.ahead), o.inside)

    module _ (l : k + run < end) where
      pub events_last : last ≡ 1 → got (set levels (k + run) code) (bits_left s n q) after ≡ start
      unfolding put_block
      events_last e =
          let o = some (n - p.bit) h.fuel h.enough in
          sym (turn o.0 o.1 ∙ ap (map_read (put_block levels k)) (step_last o.0 (end - k) (bits_left s n p.bit) p (event_of last run code) (bits_left s n q) after read (omega arith) e))

      pub events_more : (last ≡ 1 → ⊥) → EventsSoFar start s n end (set levels (k + run) code) (k + run + 1) after
      unfolding put_block
      events_more e =
          let o = some (n - p.bit) h.fuel h.enough in
          let w = events_next in
          let a : end - k - suc run ≡ end - (k + run + 1) = omega arith in
          let b : k + suc run ≡ k + run + 1 = omega arith in
          record {
            placed = within_next s n p _ after event_reads h.placed read;
            room = omega arith;
            fuel = o.0;
            enough = omega (arith, h.enough, o.1, w);
            same =
                turn o.0 o.1
                ∙ step_more o.0 (end - k) (bits_left s n p.bit) p (event_of last run code) (bits_left s n q) after read (List ℕ) (put_block levels k) (omega arith) e
                ∙ (λ i. map_read (put_block (set levels (k + run) code) (b i)) (events o.0 (a i) (bits_left s n q) after));
          }
