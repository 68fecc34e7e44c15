-- A macroblock, read by read, and what it leaves in the buffers. Assumes nothing.
use mathlib.Core.Path.{◌≡◌, refl, sym, ap, subst, ◌∙◌}
use mathlib.Core.Bool.{Bool, true, false}
use mathlib.Core.List.{List, [], ◌∷◌}
use Prim.Native.Nat.{ℕ, suc, ◌+◌, ◌*◌, ◌%◌, ◌≤◌, ◌<◌}
use native.Mathlib.Omega.{arith}
use lib.Dec.{T, eqb, leb, eqb→eq, leb→le}
use lib.IntN.{ℤ, pos}
use lib.ListN.{set}
use lib.Seq.{sets}
use Rattle.laws.proofs.Choice.{both_right}
use Rattle.laws.specs.Table.{all_b}
use Rattle.laws.proofs.Table.{all_at}
use Rattle.bits.specs.Bits.{Bit, bits_of, bits_left}
use Rattle.bits.specs.Places.{Places, counted}
use Rattle.bits.specs.Read.{ReadIn, got, refused, ReaderIn, next, ◌>>=◌, done}
use Rattle.bits.specs.Answer.{Placed}
use Rattle.bits.specs.declared.Place.{Place}
use Rattle.bits.specs.declared.Stopped.{Stopped}
use Rattle.bits.specs.Code.{word}
use Rattle.h261_words.specs.Tables.{table2}
use Rattle.h261_words.specs.Words.{is_intra, is_mc, has_mquant}
use Rattle.h261_groups.specs.declared.Format.{Format}
use Rattle.layout.specs.Value.{Vector, zero_vector, Block, Macroblock}
use Rattle.h261_description.specs.Vector.{Before, preceding, in_range}
use Rattle.layout.specs.Flat.{byte_of, index, put_blocks}
use Rattle.h261_layers.specs.Answer.{Kept, component_of, vector_of, put_sent}
use Rattle.fields.specs.Answer.{map_read}
use Rattle.h261_layers.specs.Vector.{vector_read}
use Rattle.fields.specs.Rules.{optional, quantiser}
use Rattle.h261_layers.specs.Grammar.{pattern_read, blocks_read, macroblock}
use Rattle.layout.specs.Numbers.{is_quantiser}
use Rattle.layout.specs.Proper.{If}
use Rattle.h261_description.specs.Proper.{ProperVector}
use Rattle.h261_layers.proofs.VectorSteps.{kept_of}
use Rattle.fields.proofs.Meaning.{was_got, was_refused}
use Rattle.fields.proofs.Row.{Row, row_refused}
use Rattle.fields.proofs.RuleReads.{quantiser_reads}
use Rattle.bits.proofs.Logic.{Reads, reads_word}
use Rattle.h261_layers.proofs.Layers.{typed, table2_meanings, optional_reads, vector_reads}

-- a kept component in a byte: one test
abbrev byted : ℕ → Bool
byted h = eqb ((h + 240) % 256) (byte_of (component_of h))

all_byted : T (all_b 32 byted)
all_byted = tt

pub byte_is : (h : ℕ) → Kept h → (h + 240) % 256 ≡ byte_of (component_of h)
byte_is h k = eqb→eq ((h + 240) % 256) (byte_of (component_of h)) (all_at 32 byted all_byted h (omega (arith, k.high)))

-- a type of the table
pub type_reads : {bound : ℕ} → Reads bound 1 (λ t left. T (typed t)) (λ P. word table2)
type_reads = reads_word typed table2 table2_meanings

-- ---- a macroblock as a row of reads, a step k after what is before it: what is left of it after each
module _ (f : Format) (number : ℕ) (before : Before) (k : ℕ) where
  abbrev pub built : ℕ → ℕ → Vector → List Block → ReaderIn counted Macroblock
  built t q v blocks = done (record { address = before.address + k; type = t; quant = q; vector = v; blocks = blocks })

  abbrev pub after_pattern : ℕ → ℕ → Vector → ℕ → ReaderIn counted Macroblock
  after_pattern t q v c = blocks_read (is_intra t) (bits_of 6 c) >>= built t q v

  abbrev pub after_vector : ℕ → ℕ → Vector → ReaderIn counted Macroblock
  after_vector t q v = pattern_read t >>= after_pattern t q v

  abbrev pub vector_after : {P : Places} → ℕ → ReaderIn P Vector
  vector_after t = optional (is_mc t) zero_vector (vector_read f number (before.address + k) (preceding before k))

  abbrev pub after_quantiser : ℕ → ℕ → ReaderIn counted Macroblock
  after_quantiser t q = vector_after t >>= after_vector t q

  abbrev pub after_type : ℕ → ReaderIn counted Macroblock
  after_type t = optional (has_mquant t) 0 quantiser >>= after_quantiser t

  -- what each read gives
  pub mquant_reads : {bound : ℕ} (t : ℕ) → Reads bound 0 (λ q left. If (has_mquant t) (T (is_quantiser q)) (q ≡ 0)) (λ P. optional (has_mquant t) 0 quantiser)
  mquant_reads t = optional_reads (has_mquant t) 0 (λ y. quantiser_reads)

  pub moved_reads : {bound : ℕ} (t : ℕ) → Reads bound 0 (λ v left. If (is_mc t) (ProperVector f number (before.address + k) v) (v ≡ zero_vector)) (λ P. vector_after t)
  moved_reads t = optional_reads (is_mc t) zero_vector (λ y. vector_reads f number (before.address + k) (preceding before k))

  pub macroblock_begun : (s : List ℕ) (n : ℕ) (p : Place) → Placed s n p → Row (macroblock f number before k (bits_left s n p.bit) p) s n (word table2 >>= after_type) p
  unfolding macroblock
  macroblock_begun s n p w = record { placed = w; same = refl }

  -- its blocks are read into the levels, and its fields are put last: group g counts from 0, x is the macroblock's place
  module _ {whole : ReadIn counted Macroblock} {s : List ℕ} {n : ℕ} {p : Place} (t q : ℕ) (v : Vector) (c : ℕ) (h : Row whole s n (after_pattern t q v c) p) (g : ℕ) (ms ls : List ℕ)
      (i : Bool) (w : i ≡ is_intra t) (x : ℕ) (y : x ≡ index 33 g (before.address + k)) where
    pub no_blocks : (r : Stopped) → map_read {P = counted} (put_blocks ls (x * 384)) (blocks_read i (bits_of 6 c) (bits_left s n p.bit) p) ≡ refused r → refused r ≡ map_read (put_sent g ms ls) whole
    no_blocks r e =
        let z : blocks_read {P = counted} (is_intra t) (bits_of 6 c) (bits_left s n p.bit) p ≡ refused r = ap (λ (j : Bool). blocks_read j (bits_of 6 c) (bits_left s n p.bit) p) (sym w) ∙ was_refused (put_blocks ls (x * 384)) (blocks_read i (bits_of 6 c) (bits_left s n p.bit) p) r e in
        ap (map_read (put_sent g ms ls)) (row_refused (λ P. blocks_read (is_intra t) (bits_of 6 c)) (built t q v) h r z)

    pub whole_macroblock : (m l : List ℕ) (b : List Bit) (z : Place) → map_read {P = counted} (put_blocks ls (x * 384)) (blocks_read i (bits_of 6 c) (bits_left s n p.bit) p) ≡ got l b z
        → m ≡ sets ms (x * 4) (t ∷ q ∷ byte_of v.horizontal ∷ byte_of v.vertical ∷ [])
        → got (record { macroblocks = m; levels = l; before = record { address = before.address + k; vector = v } }) b z ≡ map_read (put_sent g ms ls) whole
    whole_macroblock m l b z e d =
        let had = was_got (put_blocks ls (x * 384)) (blocks_read i (bits_of 6 c) (bits_left s n p.bit) p) l b z e in
        let u : blocks_read {P = counted} (is_intra t) (bits_of 6 c) (bits_left s n p.bit) p ≡ got had.0 b z = ap (λ (j : Bool). blocks_read j (bits_of 6 c) (bits_left s n p.bit) p) (sym w) ∙ had.1 in
        let lv : l ≡ put_blocks ls (index 33 g (before.address + k) * 384) had.0 = sym had.2 ∙ ap (λ (j : ℕ). put_blocks ls (j * 384) had.0) y in
        let mv : m ≡ sets ms (index 33 g (before.address + k) * 4) (t ∷ q ∷ byte_of v.horizontal ∷ byte_of v.vertical ∷ []) = d ∙ ap (λ (j : ℕ). sets ms (j * 4) (t ∷ q ∷ byte_of v.horizontal ∷ byte_of v.vertical ∷ [])) y in
        (λ n. got (record { macroblocks = mv n; levels = lv n; before = record { address = before.address + k; vector = v } }) b z)
        ∙ sym (ap (map_read (put_sent g ms ls)) (h.same ∙ ap (λ (r : ReadIn counted (List Block)). next r (built t q v)) u))

-- ---- what the reads give
pub vector_kept : (t : Bool) (f : Format) (number address h v : ℕ) → If t (ProperVector f number address (vector_of h v)) (vector_of h v ≡ zero_vector) → Kept h × Kept v
vector_kept true f number address h v p = (kept_of h p.horizontally, kept_of v p.vertically)
vector_kept false f number address h v e = (kept_of h (zeroed (component_of h) (ap (λ (x : Vector). x.horizontal) e)), kept_of v (zeroed (component_of v) (ap (λ (x : Vector). x.vertical) e)))
  where
    zeroed : (z : ℤ) → z ≡ pos 0 → T (in_range z)
    zeroed z e = subst (λ (y : ℤ). T (in_range y)) (sym e) tt

pub quantiser_small : (t : Bool) (q : ℕ) → If t (T (is_quantiser q)) (q ≡ 0) → q ≤ 31
quantiser_small true q h = leb→le q 31 (both_right (leb 1 q) (leb q 31) h)
quantiser_small false q e = omega arith

pub small_byte : (q : ℕ) → q ≤ 31 → q < 256
small_byte q l = omega arith

-- four stores
pub fields_are : (l : List ℕ) (at a b x y u v : ℕ) → x ≡ u → y ≡ v
    → set (set (set (set l at a) (at + 1) b) (at + 2) x) (at + 3) y ≡ sets l at (a ∷ b ∷ u ∷ v ∷ [])
fields_are l at a b x y u v e d =
    let p₁ : at + 1 ≡ suc at = omega arith in
    let p₂ : at + 2 ≡ suc (suc at) = omega arith in
    let p₃ : at + 3 ≡ suc (suc (suc at)) = omega arith in
    λ i. set (set (set (set l at a) (p₁ i) b) (p₂ i) (e i)) (p₃ i) (d i)
