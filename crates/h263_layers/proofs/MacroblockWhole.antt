-- A macroblock, read by read, and what it leaves in the buffers. Assumes nothing.
use mathlib.Core.Path.{◌≡◌, refl, sym, ap, subst, ◌∙◌}
use mathlib.Core.Bool.{Bool, true, false}
use mathlib.Core.List.{List, [], ◌∷◌}
use Prim.Native.Nat.{ℕ, suc, ◌+◌, ◌*◌, ◌≤◌, ◌<◌}
use native.Mathlib.Omega.{arith}
use lib.Dec.{T, leb, leb→le}
use lib.IntN.{ℤ, pos}
use lib.ListN.{set}
use lib.Seq.{sets}
use Rattle.laws.proofs.Table.{all_at}
use Rattle.bits.specs.Bits.{Bit, bits_of, bits_left}
use Rattle.bits.specs.Places.{Places, counted}
use Rattle.bits.specs.Read.{ReadIn, got, refused, ReaderIn, next, ◌>>=◌, done}
use Rattle.bits.specs.Answer.{Placed}
use Rattle.bits.specs.declared.Place.{Place}
use Rattle.bits.specs.declared.Stopped.{Stopped}
use Rattle.bits.specs.Code.{word}
use Rattle.bits.proofs.Logic.{Reads, reads_map, reads_field}
use Rattle.size.specs.declared.Size.{Size}
use Rattle.size.specs.declared.Size.TheVariants.{SubQcif, Qcif, Cif}
use Rattle.size.specs.Place.{macroblocks_across, macroblocks_down}
use Rattle.layout.specs.Value.{Vector, zero_vector, Block, Macroblock}
use Rattle.layout.specs.Flat.{byte_of, index, put_blocks}
use Rattle.layout.specs.Proper.{If}
use Rattle.fields.specs.Answer.{map_read}
use Rattle.fields.specs.Rules.{optional}
use Rattle.fields.proofs.Meaning.{was_got, was_refused}
use Rattle.fields.proofs.Row.{Row, row_refused}
use Rattle.h263_words.specs.Tables.{cbpy}
use Rattle.h263_words.specs.Words.{is_intra, is_inter, has_dquant, type_in, chroma_in, turned, dquant_in}
use Rattle.h263_description.specs.Vector.{in_range}
use Rattle.h263_description.specs.Landing.{component_of}
use Rattle.h263_description.specs.Value.{macroblocks_length, levels_length}
use Rattle.h263_description.specs.Proper.{ProperVector}
use Rattle.h263_layers.specs.Answer.{vector_of, sent_in, put_sent}
use Rattle.h263_layers.specs.Vector.{vector_read}
use Rattle.h263_layers.specs.Grammar.{blocks_read, dquant_read, macroblock}
use Rattle.h263_layers.proofs.Layers.{optional_reads, vector_reads}
use Rattle.h263_layers.proofs.VectorSteps.{component_low}

-- ---- a macroblock as a row of reads: what is left of it after each
module _ (size : Size) (number address : ℕ) (predicted : Vector) (kind : ℕ) where
  abbrev pub built : ℕ → Vector → List Block → ReaderIn counted Macroblock
  built q v blocks = done (record { address = address; type = type_in kind; quant = q; vector = v; blocks = blocks })

  abbrev pub pattern_of : Bool → ℕ → ℕ
  pattern_of intra luminance = turned intra luminance * 4 + chroma_in kind

  abbrev pub after_vector : ℕ → ℕ → Vector → ReaderIn counted Macroblock
  after_vector luminance q v = blocks_read (is_intra (type_in kind)) (bits_of 6 (pattern_of (is_intra (type_in kind)) luminance)) >>= built q v

  abbrev pub vector_after : {P : Places} → ReaderIn P Vector
  vector_after = optional (is_inter (type_in kind)) zero_vector (vector_read size number address predicted)

  abbrev pub after_quantiser : ℕ → ℕ → ReaderIn counted Macroblock
  after_quantiser luminance q = vector_after >>= after_vector luminance q

  abbrev pub quantiser_after : {P : Places} → ReaderIn P ℕ
  quantiser_after = optional (has_dquant (type_in kind)) 0 dquant_read

  abbrev pub after_pattern : ℕ → ReaderIn counted Macroblock
  after_pattern luminance = quantiser_after >>= after_quantiser luminance

  -- what each read gives
  pub quantiser_after_lem : {bound : ℕ} → Reads bound 0 (λ q left. If (has_dquant (type_in kind)) (q ≤ 255) (q ≡ 0)) (λ P. quantiser_after)
  quantiser_after_lem =
      optional_reads (has_dquant (type_in kind)) 0
      (λ y. reads_map dquant_in (reads_field 2 tt) (λ x left l. leb→le (dquant_in x) 255 (all_at 4 (λ x. leb (dquant_in x) 255) tt x l)))

  pub vector_after_lem : {bound : ℕ} → Reads bound 0 (λ v left. If (is_inter (type_in kind)) (ProperVector size number address v) (v ≡ zero_vector)) (λ P. vector_after)
  vector_after_lem = optional_reads (is_inter (type_in kind)) zero_vector (λ y. vector_reads size number address predicted)

  pub macroblock_begun : (s : List ℕ) (n : ℕ) (p : Place) → Placed s n p → Row (macroblock size number address predicted kind (bits_left s n p.bit) p) s n (word cbpy >>= after_pattern) p
  unfolding macroblock
  macroblock_begun s n p w = record { placed = w; same = refl }

  -- its blocks are read into the levels, and its fields are put last: i says whether it is INTRA, c is its pattern, x its number in the picture
  module _ {whole : ReadIn counted Macroblock} {s : List ℕ} {n : ℕ} {p : Place} (luminance q : ℕ) (v : Vector) (h : Row whole s n (after_vector luminance q v) p) (ms ls : List ℕ)
      (i : Bool) (w : i ≡ is_intra (type_in kind)) (c : ℕ) (u : c ≡ pattern_of i luminance) (x : ℕ) (y : x ≡ index (macroblocks_across size) number address) where
    -- the blocks that were read are the grammar's
    same_blocks : blocks_read {P = counted} (is_intra (type_in kind)) (bits_of 6 (pattern_of (is_intra (type_in kind)) luminance)) (bits_left s n p.bit) p ≡ blocks_read i (bits_of 6 c) (bits_left s n p.bit) p
    same_blocks =
        ap (λ (j : Bool). blocks_read j (bits_of 6 (pattern_of j luminance)) (bits_left s n p.bit) p) (sym w)
        ∙ ap (λ (d : ℕ). blocks_read i (bits_of 6 d) (bits_left s n p.bit) p) (sym u)

    pub no_blocks : (r : Stopped) → map_read {P = counted} (put_blocks ls (x * 384)) (blocks_read i (bits_of 6 c) (bits_left s n p.bit) p) ≡ refused r
        → refused r ≡ map_read (put_sent (macroblocks_across size) number ms ls) whole
    no_blocks r e =
        ap (map_read (put_sent (macroblocks_across size) number ms ls))
        (row_refused (λ P. blocks_read (is_intra (type_in kind)) (bits_of 6 (pattern_of (is_intra (type_in kind)) luminance))) (built q v) h r
        (same_blocks ∙ was_refused (put_blocks ls (x * 384)) (blocks_read i (bits_of 6 c) (bits_left s n p.bit) p) r e))

    pub whole_macroblock : (m l : List ℕ) (b : List Bit) (z : Place) → map_read {P = counted} (put_blocks ls (x * 384)) (blocks_read i (bits_of 6 c) (bits_left s n p.bit) p) ≡ got l b z
        → m ≡ sets ms (x * 4) (type_in kind ∷ q ∷ byte_of v.horizontal ∷ byte_of v.vertical ∷ [])
        → got (sent_in m l) b z ≡ map_read (put_sent (macroblocks_across size) number ms ls) whole
    whole_macroblock m l b z e d =
        let had = was_got (put_blocks ls (x * 384)) (blocks_read i (bits_of 6 c) (bits_left s n p.bit) p) l b z e in
        let lv : l ≡ put_blocks ls (index (macroblocks_across size) number address * 384) had.0 = sym had.2 ∙ ap (λ (j : ℕ). put_blocks ls (j * 384) had.0) y in
        let mv : m ≡ sets ms (index (macroblocks_across size) number address * 4) (type_in kind ∷ q ∷ byte_of v.horizontal ∷ byte_of v.vertical ∷ []) = d ∙ ap (λ (j : ℕ). sets ms (j * 4) (type_in kind ∷ q ∷ byte_of v.horizontal ∷ byte_of v.vertical ∷ [])) y in
        (λ n. got (sent_in (mv n) (lv n)) b z)
        ∙ sym (ap (map_read (put_sent (macroblocks_across size) number ms ls)) (h.same ∙ ap (λ (r : ReadIn counted (List Block)). next r (built q v)) (same_blocks ∙ had.1)))

-- ---- what the reads give
-- a vector's components are kept as 0 to 63
pub vector_low : (t : Bool) (size : Size) (number address h v : ℕ) → If t (ProperVector size number address (vector_of h v)) (vector_of h v ≡ zero_vector) → (h ≤ 63) × (v ≤ 63)
vector_low true size number address h v p = (component_low h p.horizontally, component_low v p.vertically)
vector_low false size number address h v e =
    (component_low h (zeroed (component_of h) (ap (λ (x : Vector). x.horizontal) e)), component_low v (zeroed (component_of v) (ap (λ (x : Vector). x.vertical) e)))
  where
    zeroed : (z : ℤ) → z ≡ pos 0 → T (in_range z)
    zeroed z e = subst (λ (y : ℤ). T (in_range y)) (sym e) tt

pub quantiser_low : (t : Bool) (q : ℕ) → If t (q ≤ 255) (q ≡ 0) → q ≤ 255
quantiser_low true q l = l
quantiser_low false q e = omega arith

-- ---- a macroblock has its place in the buffers
pub record Roomy (size : Size) (x : ℕ) : Type 0 where
  pub few : x < 396
  pub macroblocks : x * 4 + 4 ≤ macroblocks_length size
  pub levels : x * 384 + 384 ≤ levels_length size

pub index_roomy : (size : Size) (number address : ℕ) → number < macroblocks_down size → 1 ≤ address → address ≤ macroblocks_across size → Roomy size (index (macroblocks_across size) number address)
index_roomy SubQcif number address l f m = record { few = omega arith; macroblocks = omega arith; levels = omega arith }
index_roomy Qcif number address l f m = record { few = omega arith; macroblocks = omega arith; levels = omega arith }
index_roomy Cif number address l f m = record { few = omega arith; macroblocks = omega arith; levels = omega arith }

-- ---- four stores are the fields
pub fields_are : (l : List ℕ) (at a b x y u v : ℕ) → x ≡ u → y ≡ v → set (set (set (set l at a) (at + 1) b) (at + 2) x) (at + 3) y ≡ sets l at (a ∷ b ∷ u ∷ v ∷ [])
fields_are l at a b x y u v e d =
    let p₁ : at + 1 ≡ suc at = omega arith in
    let p₂ : at + 2 ≡ suc (suc at) = omega arith in
    let p₃ : at + 3 ≡ suc (suc (suc at)) = omega arith in
    λ i. set (set (set (set l at a) (p₁ i) b) (p₂ i) (e i)) (p₃ i) (d i)
