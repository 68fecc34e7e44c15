-- A turn of the loop over a group's macroblocks, on plain values: what the grammar gives from here, on what is laid out, is what it gave from the start. Assumes nothing.
use mathlib.Core.Path.{◌≡◌, refl, sym, ap, ◌∙◌}
use mathlib.Core.Bool.{Bool}
use mathlib.Core.List.{List, ◌∷◌}
use Prim.Native.Nat.{ℕ, suc, ◌-◌, ◌*◌, ◌≤◌, ◌<◌}
use native.Mathlib.Omega.{arith}
use lib.ListN.{length}
use lib.Seq.{sets}
use Rattle.bits.specs.Bits.{Bit, bits_left}
use Rattle.bits.specs.Places.{counted}
use Rattle.bits.specs.Read.{ReadIn, got, refused, loop}
use Rattle.bits.specs.declared.Place.{Place}
use Rattle.bits.specs.declared.Stopped.{Stopped}
use Rattle.h261_groups.specs.declared.Format.{Format}
use Rattle.h261_description.specs.Vector.{Before}
use Rattle.layout.specs.Value.{Macroblock}
use Rattle.h261_description.specs.Value.{before_next}
use Rattle.layout.specs.Flat.{Flat, index, fields_of, put_blocks, put_macroblocks, flat}
use Rattle.fields.specs.Answer.{map_read}
use Rattle.h261_layers.specs.Answer.{Sent, put_sent}
use Rattle.h261_layers.specs.Grammar.{step, stuffed, ended, mba, macroblock, macroblocks_from}
use Rattle.fields.proofs.Meaning.{map-done, was_got, was_refused, length_left, some}

-- the buffers with a macroblock more
abbrev put : ℕ → Flat → Macroblock → Flat
put g d m = flat d.head (sets d.macroblocks (index 33 g m.address * 4) (fields_of m)) (put_blocks d.levels (index 33 g m.address * 384) m.blocks)

-- ---- one step of the definition, by what is read
module _ (fuel : ℕ) (f : Format) (last : Bool) (number g : ℕ) (before : Before) (bs : List Bit) (at : Place) (d : Flat) where
  Whole : ReadIn counted Flat
  Whole = map_read (put_macroblocks 33 g d) (macroblocks_from (suc fuel) f last number before bs at)

  step_refused : (r : Stopped) → mba {P = counted} last before.address bs at ≡ refused r → Whole ≡ refused r
  unfolding Whole macroblocks_from
  step_refused r e = rw e

  step-ended : (cs : List Bit) (q : Place) → mba {P = counted} last before.address bs at ≡ got ended cs q → Whole ≡ got d cs q
  unfolding Whole macroblocks_from put_macroblocks
  step-ended cs q e = rw e

  step-stuffed : (cs : List Bit) (q : Place) → mba {P = counted} last before.address bs at ≡ got stuffed cs q → Whole ≡ map_read (put_macroblocks 33 g d) (macroblocks_from fuel f last number before cs q)
  unfolding Whole macroblocks_from
  step-stuffed cs q e = rw e

  module _ (k : ℕ) (cs : List Bit) (q : Place) (e : mba {P = counted} last before.address bs at ≡ got (step k) cs q) where
    step_inside : (r : Stopped) → macroblock {P = counted} f number before k cs q ≡ refused r → Whole ≡ refused r
    unfolding Whole macroblocks_from
    step_inside r h = rw (e, h)

    step_more : (m : Macroblock) (ds : List Bit) (r : Place) → macroblock {P = counted} f number before k cs q ≡ got m ds r
        → Whole ≡ map_read (put_macroblocks 33 g (put g d m)) (macroblocks_from fuel f last number (before_next m) ds r)
    unfolding Whole macroblocks_from put_macroblocks
    step_more m ds r h = rw (e, h) (map-done (put_macroblocks 33 g d) (λ ms. m ∷ ms) (macroblocks_from fuel f last number (before_next m) ds r))

-- ---- the loop
pub record MacroblocksSoFar (start : ReadIn counted Flat) (s : List ℕ) (n : ℕ) (f : Format) (last : Bool) (number g : ℕ) (d : Flat) (before : Before) (p : Place) : Type 0 where
  pub fuel : ℕ
  pub enough : n - p.bit < fuel
  pub same : start ≡ map_read (put_macroblocks 33 g d) (macroblocks_from fuel f last number before (bits_left s n p.bit) p)

pub macroblocks_first : (s : List ℕ) (n : ℕ) (f : Format) (last : Bool) (number g : ℕ) (d : Flat) (before : Before) (p : Place)
    → MacroblocksSoFar (map_read (put_macroblocks 33 g d) (loop (λ turns. macroblocks_from turns f last number before) (bits_left s n p.bit) p)) s n f last number g d before p
macroblocks_first s n f last number g d before p = record { fuel = suc (length (bits_left s n p.bit)); enough = omega (arith, length_left s n p.bit); same = refl }

module _ {start : ReadIn counted Flat} {s : List ℕ} {n : ℕ} {f : Format} {last : Bool} {number g : ℕ} {d : Flat} {before : Before} {p : Place} (h : MacroblocksSoFar start s n f last number g d before p) where
  turn : (rest : ℕ) → h.fuel ≡ suc rest → start ≡ map_read (put_macroblocks 33 g d) (macroblocks_from (suc rest) f last number before (bits_left s n p.bit) p)
  turn rest e = h.same ∙ ap (λ (m : ℕ). map_read (put_macroblocks 33 g d) (macroblocks_from m f last number before (bits_left s n p.bit) p)) e

  pub macroblocks_refused : (r : Stopped) → refused r ≡ mba {P = counted} last before.address (bits_left s n p.bit) p → refused r ≡ start
  unfolding Whole
  macroblocks_refused r e =
      let o = some (n - p.bit) h.fuel h.enough in
      sym (turn o.0 o.1 ∙ step_refused o.0 f last number g before (bits_left s n p.bit) p d r (sym e))

  pub macroblocks_ended : (q : Place) → got ended (bits_left s n q.bit) q ≡ mba {P = counted} last before.address (bits_left s n p.bit) p → got d (bits_left s n q.bit) q ≡ start
  unfolding Whole
  macroblocks_ended q e =
      let o = some (n - p.bit) h.fuel h.enough in
      sym (turn o.0 o.1 ∙ step-ended o.0 f last number g before (bits_left s n p.bit) p d (bits_left s n q.bit) q (sym e))

  pub macroblocks_stuffed : (q : Place) → got stuffed (bits_left s n q.bit) q ≡ mba {P = counted} last before.address (bits_left s n p.bit) p → p.bit < q.bit → q.bit ≤ n → MacroblocksSoFar start s n f last number g d before q
  unfolding Whole
  macroblocks_stuffed q e l m =
      let o = some (n - p.bit) h.fuel h.enough in
      record { fuel = o.0; enough = omega (arith, h.enough, o.1); same = turn o.0 o.1 ∙ step-stuffed o.0 f last number g before (bits_left s n p.bit) p d (bits_left s n q.bit) q (sym e) }

  module _ {k : ℕ} {q : Place} (e : got (step k) (bits_left s n q.bit) q ≡ mba {P = counted} last before.address (bits_left s n p.bit) p) where
    pub macroblocks_inside : (r : Stopped) → refused r ≡ map_read {P = counted} (put_sent g d.macroblocks d.levels) (macroblock f number before k (bits_left s n q.bit) q) → refused r ≡ start
    unfolding Whole
    macroblocks_inside r w =
        let o = some (n - p.bit) h.fuel h.enough in
        sym (turn o.0 o.1 ∙ step_inside o.0 f last number g before (bits_left s n p.bit) p d k (bits_left s n q.bit) q (sym e) r (was_refused (put_sent g d.macroblocks d.levels) (macroblock f number before k (bits_left s n q.bit) q) r (sym w)))

    pub macroblocks_more : (x : Sent) (z : Place) → got x (bits_left s n z.bit) z ≡ map_read {P = counted} (put_sent g d.macroblocks d.levels) (macroblock f number before k (bits_left s n q.bit) q)
        → p.bit < z.bit → z.bit ≤ n → MacroblocksSoFar start s n f last number g (flat d.head x.macroblocks x.levels) x.before z
    unfolding Whole
    macroblocks_more x z w l m =
        let o = some (n - p.bit) h.fuel h.enough in
        let v = was_got (put_sent g d.macroblocks d.levels) (macroblock f number before k (bits_left s n q.bit) q) x (bits_left s n z.bit) z (sym w) in
        record {
          fuel = o.0;
          enough = omega (arith, h.enough, o.1);
          same =
              turn o.0 o.1
              ∙ step_more o.0 f last number g before (bits_left s n p.bit) p d k (bits_left s n q.bit) q (sym e) v.0 (bits_left s n z.bit) z v.1
              ∙ ap (λ (y : Sent). map_read (put_macroblocks 33 g (flat d.head y.macroblocks y.levels)) (macroblocks_from o.0 f last number y.before (bits_left s n z.bit) z)) v.2;
        }
