-- A turn of the loop over a macroblock's six blocks, on plain values. Assumes nothing.
use mathlib.Core.Path.{◌≡◌, refl, sym, ap, ◌∙◌}
use mathlib.Core.Bool.{Bool}
use mathlib.Core.List.{List, ◌∷◌}
use Prim.Native.Nat.{ℕ, suc, ◌+◌, ◌-◌, ◌*◌, ◌/◌, ◌%◌, ◌^◌, ◌≤◌, ◌<◌}
use native.Mathlib.Omega.{arith}
use lib.ListN.{length}
use Rattle.laws.specs.Choice.{pick}
use Rattle.bits.specs.Bits.{Bit, bit_of, bits_of, bits_left}
use Rattle.bits.specs.Places.{Places, counted}
use Rattle.bits.specs.Read.{ReadIn, got, refused, ReaderIn}
use Rattle.bits.specs.Answer.{Placed}
use Rattle.bits.specs.declared.Place.{Place}
use Rattle.bits.specs.declared.Stopped.{Stopped}
use Rattle.layout.specs.Value.{Block}
use Rattle.layout.specs.Flat.{put_block, put_blocks}
use Rattle.fields.specs.Answer.{map_read}
use Rattle.fields.proofs.Meaning.{map-done, was_got, was_refused}
use Rattle.fields.proofs.Told.{within_next}
use Rattle.h263_layers.specs.Grammar.{intra_block, inter_block, blocks_read}
use Rattle.h263_layers.proofs.Layers.{block_reads}

abbrev pub block_read : {P : Places} → Bool → Bit → ReaderIn P Block
block_read intra x = pick intra (intra_block x) (inter_block x)

-- ---- one block of the definition
module _ (intra : Bool) (x : Bit) (pattern : List Bit) (bs : List Bit) (at : Place) (l : List ℕ) (base : ℕ) where
  refused_at : (r : Stopped) → map_read {P = counted} (put_block l base) (block_read intra x bs at) ≡ refused r → map_read {P = counted} (put_blocks l base) (blocks_read intra (x ∷ pattern) bs at) ≡ refused r
  unfolding blocks_read
  refused_at r e = rw (was_refused (put_block l base) (block_read intra x bs at) r e)

  taken : (m : List ℕ) (cs : List Bit) (q : Place) → map_read {P = counted} (put_block l base) (block_read intra x bs at) ≡ got m cs q
      → map_read {P = counted} (put_blocks l base) (blocks_read intra (x ∷ pattern) bs at) ≡ map_read (put_blocks m (base + 64)) (blocks_read intra pattern cs q)
  unfolding blocks_read put_blocks
  taken m cs q e =
      let w = was_got (put_block l base) (block_read intra x bs at) m cs q e in
      rw w.1
      (map-done (put_blocks l base) (λ rest. w.0 ∷ rest) (blocks_read intra pattern cs q)
      ∙ ap (λ (x : List ℕ). map_read (put_blocks x (base + 64)) (blocks_read intra pattern cs q)) w.2)

-- the place after a block is within the bits
block_placed : (s : List ℕ) (n : ℕ) (intra : Bool) (x : Bit) (l m : List ℕ) (base : ℕ) (p q : Place) → Placed s n p
    → got m (bits_left s n q.bit) q ≡ map_read {P = counted} (put_block l base) (block_read intra x (bits_left s n p.bit) p) → Placed s n q
block_placed s n intra x l m base p q h e =
    let w = was_got (put_block l base) (block_read intra x (bits_left s n p.bit) p) m (bits_left s n q.bit) q (sym e) in
    within_next s n p w.0 q (block_reads intra x) h w.1

-- ---- the loop: b blocks are behind
pub record BlocksSoFar (start : ReadIn counted (List ℕ)) (size : ℕ) (s : List ℕ) (n : ℕ) (intra : Bool) (pattern base : ℕ) (levels : List ℕ) (b : ℕ) (p : Place) : Type 0 where
  pub long : length levels ≡ size
  pub placed : Placed s n p
  pub left : ℕ
  pub count : b + left ≡ 6
  pub same : start ≡ map_read (put_blocks levels (base + b * 64)) (blocks_read intra (bits_of left pattern) (bits_left s n p.bit) p)

pub blocks_first : (s : List ℕ) (n : ℕ) (intra : Bool) (pattern base : ℕ) (levels : List ℕ) (p : Place) → Placed s n p
    → BlocksSoFar (map_read (put_blocks levels base) (blocks_read intra (bits_of 6 pattern) (bits_left s n p.bit) p)) (length levels) s n intra pattern base levels 0 p
blocks_first s n intra pattern base levels p l =
    let z : base + 0 * 64 ≡ base = omega arith in
    record { long = refl; placed = l; left = 6; count = refl; same = ap (λ (k : ℕ). map_read (put_blocks levels k) (blocks_read intra (bits_of 6 pattern) (bits_left s n p.bit) p)) (sym z) }

module _ {start : ReadIn counted (List ℕ)} {size : ℕ} {s : List ℕ} {n : ℕ} {intra : Bool} {pattern base : ℕ} {levels : List ℕ} {b : ℕ} {p : Place} (h : BlocksSoFar start size s n intra pattern base levels b p) where
  pub blocks_done : 6 ≤ b → got levels (bits_left s n p.bit) p ≡ start
  unfolding blocks_read put_blocks
  blocks_done l =
      let z : h.left ≡ 0 = omega (arith, h.count) in
      sym (h.same ∙ ap (λ (k : ℕ). map_read (put_blocks levels (base + b * 64)) (blocks_read intra (bits_of k pattern) (bits_left s n p.bit) p)) z)

  module _ (l : b < 6) where
    abbrev coded : Bit
    coded = bit_of (pattern / 2 ^ (5 - b) % 2)

    on : start ≡ map_read (put_blocks levels (base + b * 64)) (blocks_read intra (coded ∷ bits_of (5 - b) pattern) (bits_left s n p.bit) p)
    on =
        let one : h.left ≡ suc (5 - b) = omega (arith, h.count) in
        h.same ∙ ap (λ (k : ℕ). map_read (put_blocks levels (base + b * 64)) (blocks_read intra (bits_of k pattern) (bits_left s n p.bit) p)) one

    pub blocks_refused : (r : Stopped) → refused r ≡ map_read {P = counted} (put_block levels (base + b * 64)) (block_read intra coded (bits_left s n p.bit) p) → refused r ≡ start
    blocks_refused r f = sym (on ∙ refused_at intra coded (bits_of (5 - b) pattern) (bits_left s n p.bit) p levels (base + b * 64) r (sym f))

    pub blocks_more : (m : List ℕ) (q : Place) → got m (bits_left s n q.bit) q ≡ map_read {P = counted} (put_block levels (base + b * 64)) (block_read intra coded (bits_left s n p.bit) p) → length m ≡ length levels
        → BlocksSoFar start size s n intra pattern base m (b + 1) q
    blocks_more m q f w =
        let next_base : base + b * 64 + 64 ≡ base + (b + 1) * 64 = omega arith in
        record {
          long = w ∙ h.long;
          placed = block_placed s n intra coded levels m (base + b * 64) p q h.placed f;
          left = 5 - b;
          count = omega arith;
          same =
              on ∙ taken intra coded (bits_of (5 - b) pattern) (bits_left s n p.bit) p levels (base + b * 64) m (bits_left s n q.bit) q (sym f)
              ∙ ap (λ (k : ℕ). map_read (put_blocks m k) (blocks_read intra (bits_of (5 - b) pattern) (bits_left s n q.bit) q)) next_base;
        }
