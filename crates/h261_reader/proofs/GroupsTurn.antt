-- A turn of the loop over a picture's groups, on plain values. Assumes nothing.
use mathlib.Core.Path.{◌≡◌, sym, ap, ◌∙◌}
use mathlib.Core.Bool.{Bool}
use mathlib.Core.List.{List, [], ◌∷◌}
use Prim.Native.Nat.{ℕ, ◌+◌}
use lib.ListN.{set}
use Rattle.bits.specs.Bits.{Bit, bits_left}
use Rattle.bits.specs.Places.{counted}
use Rattle.bits.specs.Read.{ReadIn, got, refused, ReaderIn, loop}
use Rattle.bits.specs.declared.Place.{Place}
use Rattle.bits.specs.declared.Stopped.{Stopped}
use Rattle.h261_groups.specs.declared.Format.{Format}
use Rattle.h261_description.specs.Vector.{at_start}
use Rattle.layout.specs.Value.{Macroblock}
use Rattle.layout.specs.Flat.{Flat, put_macroblocks, put_groups, flat}
use Rattle.fields.specs.Answer.{map_read}
use Rattle.h261_description.specs.Value.{shape}
use Rattle.h261_layers.specs.Grammar.{none, group_head, group, groups_read, macroblocks_from}
use Rattle.fields.proofs.Meaning.{map-done, was_got, was_refused}

-- a group's macroblocks, from the first MBA place on
abbrev pub macroblocks_at : Format → Bool → ℕ → ReaderIn counted (List Macroblock)
macroblocks_at f last number = loop (λ turns. macroblocks_from turns f last number at_start)

-- the buffers with a GQUANT more
abbrev pub quantised : ℕ → Flat → ℕ → Flat
quantised g d q = flat (set d.head (3 + g) q) d.macroblocks d.levels

-- ---- one step of the definition
module _ (f : Format) (number : ℕ) (numbers : List ℕ) (g : ℕ) (d : Flat) (bs : List Bit) (at : Place) where
  Whole : ReadIn counted Flat
  Whole = map_read (put_groups (shape f) g d) (groups_read f (number ∷ numbers) bs at)

  step_head : (r : Stopped) → group_head {P = counted} number bs at ≡ refused r → Whole ≡ refused r
  unfolding Whole groups_read group
  step_head r e = rw e

  module _ (gquant : ℕ) (cs : List Bit) (q : Place) (e : group_head {P = counted} number bs at ≡ got gquant cs q) where
    step_inside : (r : Stopped) → macroblocks_at f (none numbers) number cs q ≡ refused r → Whole ≡ refused r
    unfolding Whole groups_read group
    step_inside r h = rw (e, h)

    step_more : (ms : List Macroblock) (ds : List Bit) (z : Place) → macroblocks_at f (none numbers) number cs q ≡ got ms ds z
        → Whole ≡ map_read (put_groups (shape f) (g + 1) (put_macroblocks 33 g (quantised g d gquant) ms)) (groups_read f numbers ds z)
    unfolding Whole groups_read group put_groups
    step_more ms ds z h = rw (e, h) (map-done (put_groups (shape f) g d) (λ xs. record { gquant = gquant; macroblocks = ms } ∷ xs) (groups_read f numbers ds z))

-- ---- the loop: the groups of `numbers` are still to come
pub record GroupsSoFar (start : ReadIn counted Flat) (s : List ℕ) (n : ℕ) (f : Format) (numbers : List ℕ) (d : Flat) (g : ℕ) (p : Place) : Type 0 where
  pub same : start ≡ map_read (put_groups (shape f) g d) (groups_read f numbers (bits_left s n p.bit) p)

module _ {start : ReadIn counted Flat} {s : List ℕ} {n : ℕ} {f : Format} {d : Flat} {g : ℕ} {p : Place} where
  pub groups_done : GroupsSoFar start s n f [] d g p → got d (bits_left s n p.bit) p ≡ start
  unfolding groups_read put_groups
  groups_done h = sym h.same

  module _ {number : ℕ} {numbers : List ℕ} (h : GroupsSoFar start s n f (number ∷ numbers) d g p) where
    pub groups_head : (r : Stopped) → refused r ≡ group_head {P = counted} number (bits_left s n p.bit) p → refused r ≡ start
    unfolding Whole
    groups_head r e = sym (h.same ∙ step_head f number numbers g d (bits_left s n p.bit) p r (sym e))

    module _ {gquant : ℕ} {q : Place} (e : got gquant (bits_left s n q.bit) q ≡ group_head {P = counted} number (bits_left s n p.bit) p) where
      pub groups_inside : (r : Stopped) → refused r ≡ map_read {P = counted} (put_macroblocks 33 g (quantised g d gquant)) (macroblocks_at f (none numbers) number (bits_left s n q.bit) q) → refused r ≡ start
      unfolding Whole
      groups_inside r w =
          sym (h.same ∙ step_inside f number numbers g d (bits_left s n p.bit) p gquant (bits_left s n q.bit) q (sym e) r (was_refused (put_macroblocks 33 g (quantised g d gquant)) (macroblocks_at f (none numbers) number (bits_left s n q.bit) q) r (sym w)))

      pub groups_more : (x : Flat) (z : Place) → got x (bits_left s n z.bit) z ≡ map_read {P = counted} (put_macroblocks 33 g (quantised g d gquant)) (macroblocks_at f (none numbers) number (bits_left s n q.bit) q)
          → GroupsSoFar start s n f numbers x (g + 1) z
      unfolding Whole
      groups_more x z w =
          let v = was_got (put_macroblocks 33 g (quantised g d gquant)) (macroblocks_at f (none numbers) number (bits_left s n q.bit) q) x (bits_left s n z.bit) z (sym w) in
          record {
            same =
                h.same ∙ step_more f number numbers g d (bits_left s n p.bit) p gquant (bits_left s n q.bit) q (sym e) v.0 (bits_left s n z.bit) z v.1
                ∙ ap (λ (y : Flat). map_read (put_groups (shape f) (g + 1) y) (groups_read f numbers (bits_left s n z.bit) z)) v.2;
          }
