-- Blocks are read back, and the pattern that is taken from them names those that are sent. Assumes nothing.
use mathlib.Core.Path.{◌≡◌, refl, sym, ap, ◌∙◌}
use mathlib.Core.List.{List, [], ◌∷◌, ◌++◌}
use mathlib.Core.Bool.{Bool, true, false}
use Prim.Native.Nat.{ℕ, zero, suc, ◌+◌, ◌-◌, ◌*◌, ◌/◌, ◌%◌, ◌^◌, ◌≤◌, ◌<◌}
use native.Mathlib.Nat.{pow-succ', one-le-pow, mul_assoc, div-eq_of_lt, add-mul-div_right}
use native.Mathlib.Omega.{arith}
use borrow.Author.Tests.{lt-leb}
use lib.Dec.{T, leb, leb→le, lit<}
use lib.ListN.{length, length-append}
use Rattle.laws.specs.Choice.{pick, opposite}
use Rattle.laws.proofs.Choice.{both_left, both_right, opposite_no}
use Rattle.bits.specs.Bits.{Bit, bit_of, bits_of}
use Rattle.refusals.specs.declared.Reason.TheVariants.{Forbidden}
use Rattle.bits.specs.Read.{fine, against}
use Rattle.bits.specs.Code.{CodeTable, word, word_in, word_of}
use Rattle.bits.proofs.ReadBack.{Back, back_done, back_next, back_end, back_judged, back_loop, back_field}
use Rattle.h261_words.specs.Tables.{table4, pairs, first_table5, later_table5}
use Rattle.h261_words.specs.Words.{is_intra, has_cbp, sent, over, coefficient_read, tcoeff_of}
use Rattle.layout.specs.Value.{Coefficient, coefficient, Block}
use Rattle.layout.specs.Numbers.{forbidden, is_code}
use Rattle.layout.specs.Sendable.{Sendable}
use Rattle.layout.specs.Proper.{If, Each, Fits, Begins, all_empty}
use Rattle.h261_description.specs.Proper.{ProperBlocks}
use Rattle.fields.specs.Rules.{optional}
use Rattle.h261_layers.specs.Grammar.{fits, coefficients_after, coefficients, dc_read, intra_block, inter_block, blocks_read, pattern_read}
use Rattle.bits.specs.Write.{bits_if}
use Rattle.layout.specs.Pattern.{presence_of, pattern_of}
use Rattle.h261_writer.specs.Write.{coefficients_of, block_of, blocks_of}
use Rattle.h261_readback.proofs.Words.{back_cbp, back_first, back_later, back_over, length_coefficient}

-- ---- one block
code_small : (code : ℕ) → T (is_code code) → code < 256
code_small code t = let l = leb→le code 255 (both_left (leb code 255) (opposite (forbidden code)) t) in omega arith

code_allowed : (code : ℕ) → T (is_code code) → forbidden code ≡ false
code_allowed code t = opposite_no (forbidden code) (both_right (leb code 255) (opposite (forbidden code)) t)

sendable : (c : Coefficient) → c.run ≤ 63 → T (is_code c.code) → Sendable c
sendable c l t = record { run = l; byte = code_small c.code t; level = code_allowed c.code t }

-- each coefficient has a bit at least, and EOB has two
more_bits : (cs : Block) → length cs < length (coefficients_of cs)
unfolding coefficients_of word_in later_table5 pairs
more_bits [] = lit< tt
more_bits (c ∷ cs) =
    omega (arith, length-append (tcoeff_of later_table5 c) (coefficients_of cs), length_coefficient later_table5 c, more_bits cs)

one_more : (table : CodeTable) (w : List Bit) (c : Coefficient) (cs : Block) (turns room : ℕ) (rest : List Bit)
    → Back (coefficient_read table) w (coefficients_of cs ++ rest) (sent c)
    → c.run < room
    → Back (coefficients turns (room - suc c.run) later_table5) (coefficients_of cs) rest cs
    → Back (coefficients (suc turns) room table) (w ++ coefficients_of cs) rest (c ∷ cs)
unfolding coefficients
one_more table w c cs turns room rest h l g =
    back_next (coefficients_after (λ left. coefficients turns left later_table5) room)
    (back_judged (fits room) (sent c) h (rw (lt-leb room c.run l)))
    (back_end _ g refl)

back_coefficients : (cs : Block) (turns room : ℕ) (rest : List Bit) → length cs < turns → room ≤ 64 → Fits room cs
    → Back (coefficients turns room later_table5) (coefficients_of cs) rest cs
unfolding coefficients coefficients_of
back_coefficients cs zero room rest l r p = absurd (omega arith)
back_coefficients [] (suc turns) room rest l r p =
    back_end (coefficients_after (λ left. coefficients turns left later_table5) room) (back_judged (fits room) over (back_over rest) refl) refl
back_coefficients (c ∷ cs) (suc turns) room rest l r p =
    one_more later_table5 (tcoeff_of later_table5 c) c cs turns room rest
    (back_later c (coefficients_of cs ++ rest) (sendable c (omega (arith, p.0)) p.1)) p.0
    (back_coefficients cs turns (room - suc c.run) rest (omega arith) (omega arith) p.2)

back_inter : (c : Coefficient) (cs : Block) (rest : List Bit) → Fits 64 (c ∷ cs) → Back inter_block (block_of false (c ∷ cs)) rest (c ∷ cs)
unfolding inter_block
back_inter c cs rest p =
    let w = tcoeff_of first_table5 c in
    back_loop (λ turns. coefficients turns 64 first_table5) (λ n l.
    one_more first_table5 w c cs n 64 rest (back_first c (coefficients_of cs ++ rest) (sendable c (omega (arith, p.0)) p.1)) p.0
    (back_coefficients cs n (64 - suc c.run) rest (omega (arith, length-append w (coefficients_of cs), more_bits cs)) (omega arith) p.2))

back_dc : (code : ℕ) (rest : List Bit) → T (is_code code) → Back dc_read (bits_of 8 code) rest code
back_dc code rest p = back_judged (λ x. pick (forbidden x) (against Forbidden) (fine x)) code (back_field 8 code rest (code_small code p)) (rw (code_allowed code p))

back_from_dc : (code : ℕ) (cs : Block) (rest : List Bit) → T (is_code code) → Fits 63 cs
    → Back intra_block (bits_of 8 code ++ coefficients_of cs) rest (coefficient 0 code ∷ cs)
unfolding intra_block
back_from_dc code cs rest p q =
    back_next _ (back_dc code (coefficients_of cs ++ rest) p)
    (back_end _
    (back_loop (λ turns. coefficients turns 63 later_table5)
    (λ n l. back_coefficients cs (suc n) 63 rest (omega (arith, more_bits cs)) (omega arith) q)) refl)

back_intra : (c : Coefficient) (cs : Block) (rest : List Bit) → Fits 64 (c ∷ cs) → c.run ≡ 0 → Back intra_block (block_of true (c ∷ cs)) rest (c ∷ cs)
back_intra c cs rest p e =
    let q : Fits 63 cs = rw e at p.2 in
    let same : coefficient 0 c.code ≡ c = ap (λ (r : ℕ). coefficient r c.code) (sym e) in
    rw same at (back_from_dc c.code cs rest p.1 q)

-- ---- the blocks that are sent
abbrev marks : List Block → List Bit
marks [] = []
marks (b ∷ bs) = bit_of (presence_of b) ∷ marks bs

-- as the type says: INTRA blocks all begin with a DC code
abbrev Starting : Bool → List Block → Type 0
Starting true bs = Each Begins bs
Starting false bs = Unit {0}

back_marked : (intra : Bool) (bs : List Block) (rest : List Bit) → Each (Fits 64) bs → Starting intra bs
    → Back (blocks_read intra (marks bs)) (blocks_of intra bs) rest bs
unfolding blocks_read blocks_of
back_marked intra [] rest p s = back_done [] rest
back_marked true ([] ∷ bs) rest p s = absurd s.0
back_marked false ([] ∷ bs) rest p s = back_end _ (back_marked false bs rest p.1 tt) refl
back_marked true ((c ∷ cs) ∷ bs) rest p s =
    back_next _ (back_intra c cs (blocks_of true bs ++ rest) p.0 s.0) (back_end _ (back_marked true bs rest p.1 s.1) refl)
back_marked false ((c ∷ cs) ∷ bs) rest p s =
    back_next _ (back_inter c cs (blocks_of false bs ++ rest) p.0) (back_end _ (back_marked false bs rest p.1 tt) refl)

-- ---- the pattern
pow_pos : (k : ℕ) → 0 < 2 ^ k
pow_pos k = one-le-pow k 2 (lit< tt)

present_bit : (b : Block) → presence_of b < 2
present_bit [] = lit< tt
present_bit (c ∷ cs) = lit< tt

less_case : (p q n : ℕ) → p < 2 → q < 2 ^ n → p * 2 ^ n + q < 2 ^ suc n
less_case zero q n l h = omega arith
less_case (suc zero) q n l h = omega arith
less_case (suc (suc p)) q n l h = absurd (omega arith)

pattern_less : (bs : List Block) → pattern_of bs < 2 ^ length bs
unfolding pattern_of
pattern_less [] = lit< tt
pattern_less (b ∷ bs) = less_case (presence_of b) (pattern_of bs) (length bs) (present_bit b) (pattern_less bs)

pattern_some : (bs : List Block) → T (opposite (all_empty bs)) → 0 < pattern_of bs
unfolding pattern_of
pattern_some [] h = absurd h
pattern_some ([] ∷ bs) h = omega (arith, pattern_some bs h)
pattern_some ((c ∷ cs) ∷ bs) h = omega (arith, pattern_less bs)

pattern_full : (bs : List Block) → Each Begins bs → suc (pattern_of bs) ≡ 2 ^ length bs
unfolding pattern_of
pattern_full [] h = refl
pattern_full ([] ∷ bs) h = absurd h.0
pattern_full ((c ∷ cs) ∷ bs) h = full_case (pattern_of bs) (length bs) (pattern_full bs h.1)
  where
    full_case : (q n : ℕ) → suc q ≡ 2 ^ n → suc (1 * 2 ^ n + q) ≡ 2 ^ suc n
    full_case q n e = omega arith

pattern_none : (bs : List Block) → T (all_empty bs) → pattern_of bs ≡ 0
unfolding pattern_of
pattern_none [] h = refl
pattern_none ([] ∷ bs) h = omega (arith, pattern_none bs h)
pattern_none ((c ∷ cs) ∷ bs) h = absurd h

-- its bits
higher : (m k x : ℕ) → m * 2 ^ suc k + x ≡ x + m * 2 * 2 ^ k
higher m k x = omega (arith, ap (λ (n : ℕ). m * n) (pow-succ' 2 k), mul_assoc m 2 (2 ^ k))

lower_bits : (k m x : ℕ) → bits_of k (x + m * 2 ^ k) ≡ bits_of k x
lower_bits zero m x = refl
lower_bits (suc k) m x =
    let y = x / 2 ^ k in
    let e : x + m * 2 ^ suc k ≡ x + m * 2 * 2 ^ k = omega (arith, higher m k x) in
    let h : (y + m * 2) % 2 ≡ y % 2 = omega arith in
    rw (e, add-mul-div_right x (m * 2) (pow_pos k), h, lower_bits k (m * 2) x)

marks_bits : (bs : List Block) → bits_of (length bs) (pattern_of bs) ≡ marks bs
unfolding pattern_of
marks_bits [] = refl
marks_bits (b ∷ bs) =
    let n = length bs in
    let p = presence_of b in
    let q = pattern_of bs in
    let e : p * 2 ^ n + q ≡ q + p * 2 ^ n = omega arith in
    let h : (0 + p) % 2 ≡ p = omega (arith, present_bit b) in
    rw (e, add-mul-div_right q p (pow_pos n), div-eq_of_lt (pattern_less bs), h, lower_bits n p q, marks_bits bs)

-- ---- both, as a macroblock of six blocks has them
abbrev Coded : Bool → Bool → List Block → Type 0
Coded intra cbp bs = If intra (Each Begins bs) (If cbp (T (opposite (all_empty bs))) (T (all_empty bs)))

module _ (type : ℕ) (bs : List Block) (rest : List Bit) (p : ProperBlocks type bs) where
  starting : Starting (is_intra type) bs
  starting = go (is_intra type) (has_cbp type) p.coded
    where
      go : (i c : Bool) → Coded i c bs → Starting i bs
      go true c h = h
      go false c h = tt

  pub back_blocks : Back (blocks_read (is_intra type) (bits_of 6 (pattern_of bs))) (blocks_of (is_intra type) bs) rest bs
  back_blocks =
      let e : bits_of 6 (pattern_of bs) ≡ marks bs = ap (λ (n : ℕ). bits_of n (pattern_of bs)) (sym p.six) ∙ marks_bits bs in
      rw e (back_marked (is_intra type) bs rest p.fitting starting)

  pub back_pattern : Back (pattern_read type) (bits_if (has_cbp type) (word_of table4 (pattern_of bs))) rest (pattern_of bs)
  back_pattern = go (is_intra type) (has_cbp type) p.coded
    where
      most : pattern_of bs ≤ 63
      most = let e : 2 ^ length bs ≡ 64 = ap (λ (n : ℕ). 2 ^ n) p.six in omega (arith, pattern_less bs)

      full : Each Begins bs → pattern_of bs ≡ 63
      full h = let e : 2 ^ length bs ≡ 64 = ap (λ (n : ℕ). 2 ^ n) p.six in omega (arith, pattern_full bs h)

      go : (i c : Bool) → Coded i c bs → Back (optional c (pick i 63 0) (word table4)) (bits_if c (word_of table4 (pattern_of bs))) rest (pattern_of bs)
      go true true h = back_cbp (pattern_of bs) rest (omega (arith, full h)) most
      go true false h = rw (full h) (back_done 63 rest)
      go false true h = back_cbp (pattern_of bs) rest (pattern_some bs h) most
      go false false h = rw (pattern_none bs h) (back_done 0 rest)
