-- A turn of the loop over stuffing, on plain values: what the grammar gives from here is what it gave from the start. Assumes nothing.
use mathlib.Core.Path.{◌≡◌, refl, sym, ap, ◌∙◌}
use mathlib.Core.Bool.{Bool}
use mathlib.Core.List.{List}
use Prim.Native.Nat.{ℕ, suc, ◌-◌, ◌≤◌, ◌<◌}
use native.Mathlib.Omega.{arith}
use lib.ListN.{length}
use Rattle.bits.specs.Bits.{Bit, bits_left}
use Rattle.bits.specs.Places.{Places, counted}
use Rattle.bits.specs.Read.{ReadIn, got, refused, ReaderIn}
use Rattle.bits.specs.Answer.{Placed}
use Rattle.bits.specs.declared.Place.{Place}
use Rattle.bits.specs.declared.Stopped.{Stopped}
use Rattle.bits.proofs.Logic.{Reads}
use Rattle.layout.specs.Proper.{If}
use Rattle.fields.specs.Rules.{optional}
use Rattle.fields.proofs.Meaning.{length_left, some, onward}
use Rattle.fields.proofs.Told.{within_next}
use Rattle.fields.specs.Answer.{stopped_of}
use Rattle.fields.specs.declared.CountedRead.{CountedRead}
use Rattle.fields.specs.declared.CountedRead.TheVariants.{Got, Refused}
use Rattle.h263_layers.specs.declared.Found as F
use Rattle.h263_layers.specs.Answer.{found_in, as_found, opened_of}
use Rattle.h263_layers.specs.Grammar.{Slot, Found, stuffed, slot, found_read, group_head, may_stand, Opened, opened_from, opened}
use Rattle.h263_layers.proofs.Layers.{optional_reads, found_reads, group_head_reads}

-- the group's header, where one may stand
abbrev pub headed_read : {P : Places} → ℕ → ℕ → ℕ → ReaderIn P ℕ
headed_read number address gquant = optional (may_stand number address gquant) gquant (group_head number)

headed_reads : {bound : ℕ} (number address gquant : ℕ) → Reads bound 0 (λ q left. If (may_stand number address gquant) (q ≤ 31) (q ≡ gquant)) (λ P. headed_read number address gquant)
headed_reads number address gquant = optional_reads (may_stand number address gquant) gquant (λ t. group_head_reads number)

-- ---- one turn of the definition, by what is read
module _ (fuel : ℕ) (intra : Bool) (number address gquant : ℕ) (bs : List Bit) (at : Place) where
  step_no_head : (r : Stopped) → headed_read {P = counted} number address gquant bs at ≡ refused r → opened_from {P = counted} (suc fuel) intra number address gquant bs at ≡ refused r
  unfolding opened_from
  step_no_head r e = rw e

  module _ (q : ℕ) (cs : List Bit) (p : Place) (e : headed_read {P = counted} number address gquant bs at ≡ got q cs p) where
    step_refused : (r : Stopped) → found_read {P = counted} intra cs p ≡ refused r → opened_from {P = counted} (suc fuel) intra number address gquant bs at ≡ refused r
    unfolding opened_from
    step_refused r h = rw (e, h)

    module _ (ds : List Bit) (z : Place) where
      step_slot : (s : Slot) → found_read {P = counted} intra cs p ≡ got (slot s) ds z → opened_from {P = counted} (suc fuel) intra number address gquant bs at ≡ got (opened_of q s) ds z
      unfolding opened_from
      step_slot s h = rw (e, h)

      step-stuffed : found_read {P = counted} intra cs p ≡ got stuffed ds z → opened_from {P = counted} (suc fuel) intra number address gquant bs at ≡ opened_from fuel intra number address q ds z
      unfolding opened_from
      step-stuffed h = rw (e, h)

-- ---- what stands there, by the code's answer
module _ (s : List ℕ) (n : ℕ) {x : ReadIn counted Found} (r : CountedRead F.Found) (w : as_found s n r ≡ x) where
  pub no_found : {why : Stopped} → r ≡ Refused why → x ≡ refused (stopped_of r)
  no_found {why} e = sym w ∙ ap (as_found s n) e ∙ ap (λ (y : CountedRead F.Found). refused (stopped_of y)) (sym e)

  pub is_found : {what : F.Found} {q : Place} → r ≡ Got what q → (f : F.Found) → what ≡ f → x ≡ got (found_in f) (bits_left s n q.bit) q
  is_found {what} {q} e f h = sym w ∙ ap (as_found s n) e ∙ ap (λ (y : F.Found). got (found_in y) (bits_left s n q.bit) q) h

-- ---- the loop
pub record OpenedSoFar (start : ReadIn counted Opened) (s : List ℕ) (n : ℕ) (intra : Bool) (number address gquant : ℕ) (p : Place) : Type 0 where
  pub placed : Placed s n p
  pub fuel : ℕ
  pub enough : n - p.bit < fuel
  pub same : start ≡ opened_from fuel intra number address gquant (bits_left s n p.bit) p

pub opened_first : (s : List ℕ) (n : ℕ) (intra : Bool) (number address gquant : ℕ) (p : Place) → Placed s n p
    → OpenedSoFar (opened intra number address gquant (bits_left s n p.bit) p) s n intra number address gquant p
opened_first s n intra number address gquant p l =
    record { placed = l; fuel = suc (length (bits_left s n p.bit)); enough = omega (arith, length_left s n p.bit); same = refl }

module _ {start : ReadIn counted Opened} {s : List ℕ} {n : ℕ} {intra : Bool} {number address gquant : ℕ} {p : Place} (h : OpenedSoFar start s n intra number address gquant p) where
  turn : (rest : ℕ) → h.fuel ≡ suc rest → start ≡ opened_from (suc rest) intra number address gquant (bits_left s n p.bit) p
  turn rest e = h.same ∙ ap (λ (m : ℕ). opened_from m intra number address gquant (bits_left s n p.bit) p) e

  pub opened_no_head : (r : Stopped) → headed_read {P = counted} number address gquant (bits_left s n p.bit) p ≡ refused r → refused r ≡ start
  opened_no_head r e =
      let o = some (n - p.bit) h.fuel h.enough in
      sym (turn o.0 o.1 ∙ step_no_head o.0 intra number address gquant (bits_left s n p.bit) p r e)

  module _ (q : ℕ) (z : Place) (e : headed_read {P = counted} number address gquant (bits_left s n p.bit) p ≡ got q (bits_left s n z.bit) z) where
    pub opened_headed : Placed s n z
    opened_headed = within_next s n p q z (headed_reads number address gquant) h.placed e

    pub opened-refused : (r : Stopped) → found_read {P = counted} intra (bits_left s n z.bit) z ≡ refused r → refused r ≡ start
    opened-refused r w =
        let o = some (n - p.bit) h.fuel h.enough in
        sym (turn o.0 o.1 ∙ step_refused o.0 intra number address gquant (bits_left s n p.bit) p q (bits_left s n z.bit) z e r w)

    module _ (y : Place) where
      pub opened-slot : (x : Slot) → found_read {P = counted} intra (bits_left s n z.bit) z ≡ got (slot x) (bits_left s n y.bit) y
          → got (opened_of q x) (bits_left s n y.bit) y ≡ start
      opened-slot x w =
          let o = some (n - p.bit) h.fuel h.enough in
          sym (turn o.0 o.1 ∙ step_slot o.0 intra number address gquant (bits_left s n p.bit) p q (bits_left s n z.bit) z e (bits_left s n y.bit) y x w)

      module _ (w : found_read {P = counted} intra (bits_left s n z.bit) z ≡ got stuffed (bits_left s n y.bit) y) where
        pub opened_less : (p.bit < y.bit) × (y.bit ≤ n)
        opened_less =
            let a = onward s n p q z (headed_reads number address gquant) h.placed.within.inside e in
            let b = onward s n z stuffed y (found_reads intra) a.inside w in
            (omega (arith, a.ahead, b.ahead), b.inside)

        pub opened_more : OpenedSoFar start s n intra number address q y
        opened_more =
            let o = some (n - p.bit) h.fuel h.enough in
            record {
              placed = within_next s n z stuffed y (found_reads intra) opened_headed w;
              fuel = o.0;
              enough = omega (arith, h.enough, o.1, opened_less);
              same =
                  turn o.0 o.1
                  ∙ step-stuffed o.0 intra number address gquant (bits_left s n p.bit) p q (bits_left s n z.bit) z e (bits_left s n y.bit) y w;
            }
