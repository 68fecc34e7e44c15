-- How long what is written can be, layer by layer: no picture has more bits than can be counted. Assumes nothing.
use mathlib.Core.Bool.{Bool, true, false}
use mathlib.Core.List.{List, [], ◌∷◌, ◌++◌}
use Prim.Native.Nat.{ℕ, zero, suc, ◌+◌, ◌*◌, ◌/◌, ◌%◌, ◌≤◌}
use native.Mathlib.Nat.{min-le_left}
use native.Mathlib.Omega.{arith}
use lib.Dec.{T, eqb, ltb}
use lib.ListN.{length, get_or, take, drop, length-append, length-take}
use lib.IntN.{ℤ, pos, nat_abs, ◌+ℤ◌, ◌-ℤ◌}
use Rattle.laws.specs.Choice.{pick, both}
use Rattle.bits.specs.Bits.{bits_of}
use Rattle.bits.specs.Code.{word_of, has}
use Rattle.bits.specs.Write.{bits_if}
use Rattle.bits.specs.Appended.{CountablePlace}
use Rattle.bits.proofs.Fields.{length-bits_of}
use Rattle.bits.proofs.Short.{pick_short, if_short, short_words, word-short}
use Rattle.size.specs.declared.Size.{Size}
use Rattle.size.specs.Place.{macroblocks_across}
use Rattle.layout.specs.Value.{Coefficient, Vector, Block, Macroblock}
use Rattle.layout.specs.Flat.{Flat, gather, gathers, macroblock_in, macroblocks_in, groups_in}
use Rattle.layout.specs.Numbers.{code_sign, code_size}
use Rattle.layout.proofs.Gathered.{gather_short}
use Rattle.h263_words.specs.Tables.{kind, mcbpc_intra, mcbpc_inter, cbpy, mvd, event, escape, tcoef}
use Rattle.h263_words.specs.Words.{is_intra, is_inter, has_dquant, turned, dquant_field, tcoef_of}
use Rattle.h263_description.specs.Vector.{vectors_of, predictor}
use Rattle.h263_description.specs.Value.{group_numbers, picture_in}
use Rattle.h263_description.specs.Fields.{stands, is_intra_type}
use Rattle.h263_description.proofs.Groups.{groups_listed, across_most, down_most}
use Rattle.h263_writer.specs.Write.{events_of, block_of, blocks_of, pattern_of, component_bits, vector_bits, mcbpc_of, macroblock_of, vector_at_head, after_head, bits_at_head, row_of, row_vectors, head_of, groups_of, picture_of, picture_bits}

-- ---- each table's codewords are short
intra_short : T (short_words mcbpc_intra.entries)
unfolding short_words mcbpc_intra
intra_short = tt

inter_short : T (short_words mcbpc_inter.entries)
unfolding short_words mcbpc_inter
inter_short = tt

cbpy_short : T (short_words cbpy.entries)
unfolding short_words cbpy
cbpy_short = tt

mvd_short : T (short_words mvd.entries)
unfolding short_words mvd
mvd_short = tt

tcoef_short : T (short_words tcoef.entries)
unfolding short_words tcoef
tcoef_short = tt

-- ---- a coefficient has up to 31 bits, an escape's most
event_short : (last : ℕ) (c : Coefficient) → length (tcoef_of last c) ≤ 31
unfolding tcoef_of
event_short last c =
    let m = event last c.run (code_size c.code) in
    let w = word_of tcoef m in
    let v = word_of tcoef escape in
    let fields = bits_of 1 last ++ (bits_of 6 c.run ++ bits_of 8 c.code) in
    pick_short (both (ltb (code_size c.code) 16) (has tcoef m)) (w ++ bits_of 1 (code_sign c.code)) (v ++ fields) 31
    (omega (arith, length-append w (bits_of 1 (code_sign c.code)), word-short tcoef m tcoef_short))
    (omega (arith, length-append v fields, length-append (bits_of 1 last) (bits_of 6 c.run ++ bits_of 8 c.code), length-append (bits_of 6 c.run) (bits_of 8 c.code), word-short tcoef escape tcoef_short))

events_short : (cs : Block) → length (events_of cs) ≤ 31 * length cs
unfolding events_of
events_short [] = omega arith
events_short (c ∷ []) = omega (arith, event_short 1 c)
events_short (c ∷ d ∷ cs) = omega (arith, length-append (tcoef_of 0 c) (events_of (d ∷ cs)), event_short 0 c, events_short (d ∷ cs))

block_short : (intra : Bool) (b : Block) → length (block_of intra b) ≤ 31 * length b
unfolding events_of
block_short true [] = omega arith
block_short true (c ∷ cs) = omega (arith, length-append (bits_of 8 c.code) (events_of cs), length-bits_of 8 c.code, events_short cs)
block_short false b = events_short b

blocks_short : (intra : Bool) (n : ℕ) (l : List ℕ) → length (blocks_of intra (gathers n l)) ≤ n * 1984
unfolding blocks_of gathers
blocks_short intra zero l = omega arith
blocks_short intra (suc n) l =
    let b = gather 0 (take 64 l) in
    let k : length (take 64 l) ≤ 64 = rw (length-take 64 l) (min-le_left 64 (length l)) in
    omega (arith, length-append (block_of intra b) (blocks_of intra (gathers n (drop 64 l))), block_short intra b, gather_short 0 (take 64 l), blocks_short intra n (drop 64 l))

component_short : (p z : ℤ) → length (component_bits p z) ≤ 16
component_short p z = word-short mvd (nat_abs ((z -ℤ p) +ℤ pos 96) % 64) mvd_short

vector_short : (p v : Vector) → length (vector_bits p v) ≤ 32
vector_short p v =
    let x = component_bits p.horizontal v.horizontal in
    let y = component_bits p.vertical v.vertical in
    omega (arith, length-append x y, component_short p.horizontal v.horizontal, component_short p.vertical v.vertical)

type_short : (intra : Bool) (type pattern : ℕ) → length (mcbpc_of intra type pattern) ≤ 17
type_short true type pattern = let l = word-short mcbpc_intra (kind type (pattern % 4)) intra_short in omega arith
type_short false type pattern = omega (arith, length-append (bits_of 1 0) (word_of mcbpc_inter (kind type (pattern % 4))), word-short mcbpc_inter (kind type (pattern % 4)) inter_short)

macroblock_short : (intra : Bool) (p : Vector) (address : ℕ) (fields levels : List ℕ) → length (macroblock_of intra p (macroblock_in address fields levels)) ≤ 11971
unfolding macroblock_of
macroblock_short intra p address fields levels =
    let m = macroblock_in address fields levels in
    let type = m.type in
    let own = is_intra type in
    let pattern = pattern_of own m.blocks in
    let v = vector_bits p m.vector in
    let e = blocks_of own (gathers 6 levels) in
    let d = bits_if (is_inter type) v in
    let c = bits_if (has_dquant type) (bits_of 2 (dquant_field m.quant)) in
    let b = word_of cbpy (turned own (pattern / 4)) in
    let a = mcbpc_of intra type pattern in
    omega (
      arith,
      length-append a (b ++ (c ++ (d ++ e))),
      length-append b (c ++ (d ++ e)),
      length-append c (d ++ e),
      length-append d e,
      type_short intra type pattern,
      word-short cbpy (turned own (pattern / 4)) cbpy_short,
      if_short (has_dquant type) (bits_of 2 (dquant_field m.quant)),
      length-bits_of 2 (dquant_field m.quant),
      if_short (is_inter type) v,
      vector_short p m.vector,
      blocks_short own 6 levels,
    )

-- ---- so has every macroblock of a list, whatever predicts its vector
Short : Bool → List Macroblock → Type 0
Short intra [] = Unit {0}
Short intra (m ∷ ms) = ((p : Vector) → length (macroblock_of intra p m) ≤ 11971) × Short intra ms

described_short : (intra : Bool) (n address : ℕ) (fields levels : List ℕ) → Short intra (macroblocks_in n address fields levels)
unfolding macroblocks_in Short
described_short intra zero address fields levels = tt
described_short intra (suc n) address fields levels =
    first_sent (get_or fields 0 0) (macroblock_in address fields levels) _ (λ p. macroblock_short intra p address fields levels) (described_short intra n (address + 1) (drop 4 fields) (drop 384 levels))
  where
    first_sent : (type : ℕ) (m : Macroblock) (rest : List Macroblock) → ((p : Vector) → length (macroblock_of intra p m) ≤ 11971) → Short intra rest
        → Short intra (elim type as (λ k. List Macroblock) [ zero ↦ rest | suc k ↦ m ∷ rest ])
    first_sent zero m rest a b = b
    first_sent (suc type) m rest a b = (a, b)

head_short : (intra : Bool) (p : Vector) (address : ℕ) (ms : List Macroblock) → Short intra ms → length (bits_at_head intra p address ms) ≤ 11971
unfolding Short
head_short intra p address [] s = omega arith
head_short intra p address (m ∷ ms) s = pick_short (eqb m.address address) (macroblock_of intra p m) (bits_of 1 1) 11971 (s.0 p) (omega arith)

after_short : (intra : Bool) (address : ℕ) (ms : List Macroblock) → Short intra ms → Short intra (after_head address ms)
unfolding Short
after_short intra address [] s = s
after_short intra address (m ∷ ms) s = go (eqb m.address address)
  where
    go : (b : Bool) → Short intra (pick b ms (m ∷ ms))
    go true = s.1
    go false = s

row_short : (k across : ℕ) (intra : Bool) (gquant address : ℕ) (vectors : List Vector) (ms : List Macroblock) → Short intra ms → length (row_of k across intra gquant address vectors ms) ≤ k * 11971
unfolding row_of
row_short zero across intra gquant address vectors ms s = omega arith
row_short (suc k) across intra gquant address vectors ms s =
    let p = predictor across (stands gquant) (vectors_of vectors) (length vectors) in
    let rest = row_of k across intra gquant (address + 1) (vectors ++ vector_at_head address ms ∷ []) (after_head address ms) in
    omega (
      arith,
      length-append (bits_at_head intra p address ms) rest,
      head_short intra p address ms s,
      row_short k across intra gquant (address + 1) (vectors ++ vector_at_head address ms ∷ []) (after_head address ms) (after_short intra address ms s),
    )

header_short : (number gquant : ℕ) → length (head_of number gquant) ≤ 29
header_short number gquant =
    let w = bits_of 17 1 ++ (bits_of 5 number ++ (bits_of 2 0 ++ bits_of 5 gquant)) in
    omega (
      arith,
      if_short (stands gquant) w,
      length-append (bits_of 17 1) (bits_of 5 number ++ (bits_of 2 0 ++ bits_of 5 gquant)),
      length-append (bits_of 5 number) (bits_of 2 0 ++ bits_of 5 gquant),
      length-append (bits_of 2 0) (bits_of 5 gquant),
      length-bits_of 5 number,
      length-bits_of 5 gquant,
    )

groups_short : (across : ℕ) (intra : Bool) (numbers : List ℕ) (vectors : List Vector) (qs fields levels : List ℕ) → across ≤ 22
    → length (groups_of across intra numbers vectors (groups_in across qs fields levels)) ≤ length numbers * 263391
unfolding groups_of groups_in
groups_short across intra [] vectors qs fields levels l = omega arith
groups_short across intra (number ∷ numbers) vectors [] fields levels l = omega arith
groups_short across intra (number ∷ numbers) vectors (q ∷ qs) fields levels l =
    let ms = macroblocks_in across 1 fields levels in
    let row = row_of across across intra q 1 vectors ms in
    let more = drop (across * 4) fields in
    let further = drop (across * 384) levels in
    let rest = groups_of across intra numbers (row_vectors across 1 vectors ms) (groups_in across qs more further) in
    omega (
      arith,
      length-append (head_of number q ++ row) rest,
      length-append (head_of number q) row,
      header_short number q,
      row_short across across intra q 1 vectors ms (described_short intra across 1 fields levels),
      groups_short across intra numbers (row_vectors across 1 vectors ms) qs more further l,
    )

-- ---- a picture
pub picture_counts : (size : Size) (d : Flat) → CountablePlace 0 (picture_bits size d)
unfolding picture_bits picture_of picture_in
picture_counts size d =
    let p = picture_in size d in
    let e = groups_of (macroblocks_across size) (is_intra_type p.type) (group_numbers size) [] p.groups in
    record {
      low = omega (
        arith,
        groups_short (macroblocks_across size) (is_intra_type (get_or d.head 3 0)) (group_numbers size) [] (drop 5 d.head) d.macroblocks d.levels (across_most size),
        groups_listed size,
        down_most size,
      );
    }
