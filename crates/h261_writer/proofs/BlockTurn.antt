-- The blocks of a macroblock as they are written, on plain values. Assumes nothing.
use mathlib.Core.Path.{◌≡◌, refl, sym, ap, ap₂, subst, ◌∙◌}
use mathlib.Core.Bool.{Bool, true, false}
use mathlib.Core.List.{List, [], ◌∷◌, ◌++◌, append_assoc, append-nil}
use Prim.Native.Nat.{ℕ, zero, suc, ◌+◌, ◌-◌, ◌*◌, ◌^◌, ◌≤◌, ◌<◌}
use native.Mathlib.Omega.{arith}
use lib.Pow.{pow_pos}
use borrow.Author.Tests.{eq-eqb}
use lib.Dec.{T, lit≤}
use lib.ListN.{length, get_or, take, drop, length-drop}
use lib.Seq.{drop-length, drop-drop}
use Rattle.std.proofs.lemmas.List.{get_or-take, get_or-drop}
use Rattle.laws.specs.Choice.{pick, either, opposite}
use Rattle.laws.proofs.Choice.{true-false, opposite_no}
use Rattle.laws.proofs.Lists.{drop_on}
use Rattle.bits.specs.Bits.{Bit, bits_of}
use Rattle.bits.specs.Code.{word_of}
use Rattle.bits.specs.Appended.{WroteBits, CountablePlace}
use Rattle.bits.proofs.Parts.{parts_from}
use Rattle.bits.proofs.Appended.{wrote_none, wrote_as, wrote_then, first_countable, then_countable, next_countable}
use Rattle.h261_words.specs.Tables.{end_of_block, later_table5, table_of}
use Rattle.layout.specs.Value.{Coefficient, coefficient, Block}
use Rattle.h261_words.specs.Words.{tcoeff_of}
use Rattle.layout.specs.Numbers.{all, is_zero, is_level}
use Rattle.layout.specs.Sendable.{Sendable}
use Rattle.layout.specs.Flat.{gather, gathers}
use Rattle.layout.proofs.Levels.{all_take, all_drop, all_join}
use Rattle.levels.specs.Zeros.{zeros_from}
use Rattle.levels.proofs.Zeros.{zeros_within}
use Rattle.layout.proofs.Gathered.{piece, sendable, gather-zero, gather_code, gather-zeros, block_begins, present_some, present_low}
use Rattle.layout.specs.Pattern.{presence_of, pattern_of}
use Rattle.h261_writer.specs.Write.{coefficients_of, block_of, blocks_of}
use Rattle.h261_writer.specs.Sound.{coded_bits}
use Rattle.h261_writer.specs.Asked.{CoefficientsAsked, BlockAsked, BlocksAsked}
use Rattle.layout.proofs.Turns.{piece_length}

-- ---- lists
pub past : (l : List ℕ) (n : ℕ) → length l ≡ n → drop n l ≡ []
past l n e = ap (λ (k : ℕ). drop k l) (sym e) ∙ drop-length l

coded_cons : (first : Bool) (c : Coefficient) (cs : Block) → coded_bits first (c ∷ cs) ≡ tcoeff_of (table_of first) c ++ coded_bits false cs
unfolding coefficients_of
coded_cons true c cs = refl
coded_cons false c cs = refl

coded_last : coded_bits false [] ≡ word_of later_table5 end_of_block
unfolding coefficients_of
coded_last = refl

-- ---- the coefficients of a block: k levels are behind, the last `run` of them zeros since the last coefficient
pub record CodedSoFar (whole : List Bit) (levels : List ℕ) (s : List ℕ) (at : ℕ) (t : List ℕ) (first : Bool) (run k place : ℕ) : Type 0 where
  pub inside : k ≤ 64
  pub low : run ≤ k
  pub bits : List Bit
  pub wrote : WroteBits bits s at t place
  pub same : whole ≡ bits ++ coded_bits first (gather run (drop k levels))

pub coded_begin : (levels : List ℕ) (s : List ℕ) (at : ℕ) (opening : Bool) (from : ℕ) → from ≤ 1
    → CodedSoFar (coded_bits opening (gather 0 (drop from levels))) levels s at s opening 0 from at
coded_begin levels s at opening from l = record { inside = omega arith; low = omega arith; bits = []; wrote = wrote_none s at; same = refl }

-- from `end` on they are zeros
pub record ZerosFrom (levels : List ℕ) (end : ℕ) : Type 0 where
  pub low : 1 ≤ end
  pub high : end ≤ 64
  pub zeros : T (all is_zero (drop end levels))

pub zeros_known : {levels : List ℕ} {end : ℕ} → length levels ≡ 64 → end ≡ zeros_from levels → ZerosFrom levels end
zeros_known {levels = levels} {end = end} long e =
    let within = zeros_within levels long e in
    record { low = some (all is_zero (take 32 (drop 32 levels))) (all is_zero (take 16 (drop 16 levels))) e; high = within.0; zeros = within.1 }
  where
    some : (a b : Bool) → end ≡ pick a (pick b 16 32) 64 → 1 ≤ end
    some true true e = omega arith
    some true false e = omega arith
    some false b e = omega arith

-- the level at k
pub record LevelAt (levels : List ℕ) (k code : ℕ) : Type 0 where
  pub inside : k < 64
  pub is : code ≡ get_or levels k 0

pub level_at : (levels : List ℕ) (from end i : ℕ) → end ≤ 64 → i < end - from → LevelAt levels (from + i) (get_or (take (end - from) (drop from levels)) i 0)
level_at levels from end i h l = record { inside = omega arith; is = get_or-take (end - from) (drop from levels) i 0 l ∙ get_or-drop from levels i 0 }

module _ {whole : List Bit} {levels : List ℕ} {s : List ℕ} {at : ℕ} {t : List ℕ} {first : Bool} {run k place : ℕ} (h : CodedSoFar whole levels s at t first run k place)
    (size : length levels ≡ 64)
  where
    pub coded_zero : {code : ℕ} → LevelAt levels k code → code ≡ 0 → CodedSoFar whole levels s at t first (run + 1) (k + 1) place
    coded_zero l z = record {
      inside = omega (arith, l.inside);
      low = omega (arith, h.low);
      bits = h.bits;
      wrote = h.wrote;
      same =
          h.same
          ∙ ap (λ (b : Block). h.bits ++ coded_bits first b)
          (ap (gather run) (drop_on levels k (omega (arith, l.inside))) ∙ gather-zero run (get_or levels k 0) (drop (k + 1) levels) (sym l.is ∙ z));
    }

    module _ {code : ℕ} (l : LevelAt levels k code) (n : code ≡ 0 → ⊥) where
      abbrev coded_word : List Bit
      coded_word = tcoeff_of (table_of first) (coefficient run code)

      abbrev coded_rest : List Bit
      coded_rest = coded_bits false (gather 0 (drop (k + 1) levels))

      coded_on : whole ≡ h.bits ++ (coded_word ++ coded_rest)
      coded_on =
          h.same
          ∙ ap (λ (b : Block). h.bits ++ coded_bits first b)
          (ap (gather run) (drop_on levels k (omega (arith, l.inside))) ∙ gather_code run (get_or levels k 0) (drop (k + 1) levels) (λ z. n (l.is ∙ z)))
          ∙ ap (λ (x : List Bit). h.bits ++ x) (coded_cons first (coefficient run (get_or levels k 0)) (gather 0 (drop (k + 1) levels)))
          ∙ ap (λ (x : ℕ). h.bits ++ (tcoeff_of (table_of first) (coefficient run x) ++ coded_rest)) (sym l.is)

      pub coded_sendable : T (all is_level levels) → Sendable (coefficient run code)
      coded_sendable t =
          rw l.is (sendable levels k run t (omega (arith, l.inside)) (λ z. n (l.is ∙ z)) (omega (arith, h.low)))

      pub coded_counts : CountablePlace at whole → CountablePlace place coded_word
      coded_counts c = next_countable h.wrote coded_word coded_rest coded_on c

      pub coded_more : {u : List ℕ} {q : ℕ} → WroteBits coded_word t place u q → CodedSoFar whole levels s at u false 0 (k + 1) q
      coded_more g = record {
        inside = omega (arith, l.inside);
        low = omega arith;
        bits = h.bits ++ coded_word;
        wrote = wrote_then h.wrote g;
        same = coded_on ∙ sym (append_assoc h.bits coded_word coded_rest);
      }

    module _ (z : T (all is_zero (drop k levels))) where
      ended : (b : Bool) → first ≡ b → whole ≡ h.bits ++ coded_bits b []
      ended b e = h.same ∙ ap₂ (λ (x : Bool) (y : Block). h.bits ++ coded_bits x y) e (gather-zeros run (drop k levels) z)

      pub coded_none : first ≡ true → WroteBits whole s at t place
      coded_none e = wrote_as h.wrote (sym (ended true e ∙ append-nil h.bits))

      module _ (e : first ≡ false) where
        ended_by : whole ≡ h.bits ++ word_of later_table5 end_of_block
        ended_by = ended false e ∙ ap (λ (x : List Bit). h.bits ++ x) coded_last

        pub end_counts : CountablePlace at whole → CountablePlace place (word_of later_table5 end_of_block)
        end_counts c = then_countable h.wrote (word_of later_table5 end_of_block) (rw ended_by at c)

        pub coded_end : {u : List ℕ} {q : ℕ} → WroteBits (word_of later_table5 end_of_block) t place u q → WroteBits whole s at u q
        coded_end g = wrote_as (wrote_then h.wrote g) (sym ended_by)

-- ---- a block
module _ {tables levels : List ℕ} {intra : Bool} {at : ℕ} (a : BlockAsked tables levels intra at) where
  module _ (e : intra ≡ true) where
    abbrev code_bits : List Bit
    code_bits = bits_of 8 (get_or levels 0 0)

    abbrev later_bits : List Bit
    later_bits = coded_bits false (gather 0 (drop 1 levels))

    -- an INTRA block: its code, then its coefficients
    intra_on : block_of intra (gather 0 levels) ≡ code_bits ++ later_bits
    intra_on =
        let no_zero : is_zero (get_or levels 0 0) ≡ false = opposite_no (is_zero (get_or levels 0 0)) (subst (λ (x : Bool). T (either (opposite x) (opposite (is_zero (get_or levels 0 0))))) e a.coded) in
        let n : get_or levels 0 0 ≡ 0 → ⊥ = λ z. true-false (sym (eq-eqb (get_or levels 0 0) 0 z) ∙ no_zero) in
        ap₂ block_of e (ap (gather 0) (drop_on levels 0 (omega (arith, a.long))) ∙ gather_code 0 (get_or levels 0 0) (drop 1 levels) n)

    pub code_counts : CountablePlace at code_bits
    code_counts = first_countable code_bits later_bits (subst (CountablePlace at) intra_on a.counts)

    pub intra_asked : {s t : List ℕ} {p : ℕ} → WroteBits code_bits s at t p → CoefficientsAsked tables levels 1 false p
    intra_asked w =
        record { tables = a.tables; long = a.long; allowed = a.allowed; near = lit≤ tt; counts = then_countable w later_bits (subst (CountablePlace at) intra_on a.counts) }

    pub block_intra : {s t : List ℕ} {p : ℕ} {u : List ℕ} {q : ℕ} → WroteBits code_bits s at t p → WroteBits later_bits t p u q → WroteBits (block_of intra (gather 0 levels)) s at u q
    block_intra w v = wrote_as (wrote_then w v) (sym intra_on)

  module _ (e : intra ≡ false) where
    inter_on : block_of intra (gather 0 levels) ≡ coded_bits true (gather 0 (drop 0 levels))
    inter_on = ap (λ (x : Bool). block_of x (gather 0 levels)) e

    pub inter_asked : CoefficientsAsked tables levels 0 true at
    inter_asked = record { tables = a.tables; long = a.long; allowed = a.allowed; near = lit≤ tt; counts = subst (CountablePlace at) inter_on a.counts }

    pub block_inter : {s u : List ℕ} {q : ℕ} → WroteBits (coded_bits true (gather 0 (drop 0 levels))) s at u q → WroteBits (block_of intra (gather 0 levels)) s at u q
    block_inter w = wrote_as w (sym inter_on)

-- ---- the six blocks, part by part
abbrev pub block_at : Bool → List ℕ → ℕ → List Bit
block_at intra levels b = block_of intra (gather 0 (take (b * 64 + 64 - b * 64) (drop (b * 64) levels)))

blocks_from : (intra : Bool) (levels : List ℕ) (b n : ℕ) → blocks_of intra (gathers n (drop (b * 64) levels)) ≡ parts_from (block_at intra levels) b n
unfolding gathers blocks_of
blocks_from intra levels b zero = refl
blocks_from intra levels b (suc n) =
    let m : b * 64 + 64 ≡ (b + 1) * 64 = omega arith in
    ap₂ (λ (x y : List ℕ). block_of intra (gather 0 x) ++ blocks_of intra (gathers n y)) (sym (piece levels (b * 64) 64)) (drop-drop 64 (b * 64) levels ∙ ap (λ (k : ℕ). drop k levels) m)
    ∙ ap (λ (x : List Bit). block_at intra levels b ++ x) (blocks_from intra levels (b + 1) n)

pub blocks_are : (intra : Bool) (levels : List ℕ) → blocks_of intra (gathers 6 levels) ≡ parts_from (block_at intra levels) 0 6
blocks_are intra levels = blocks_from intra levels 0 6

module _ {tables levels : List ℕ} {intra : Bool} {at : ℕ} (a : BlocksAsked tables levels intra at) where
  pub blocks_count : CountablePlace at (parts_from (block_at intra levels) 0 6)
  blocks_count = subst (CountablePlace at) (blocks_are intra levels) a.counts

  -- what block b asks
  pub block_asked : (b : ℕ) → b < 6 → {place : ℕ} → CountablePlace place (block_at intra levels b) → BlockAsked tables (take (b * 64 + 64 - b * 64) (drop (b * 64) levels)) intra place
  block_asked b l c = record {
    tables = a.tables;
    long = piece_length levels (b * 64) 64 (omega (arith, a.long));
    allowed = all_take is_level (b * 64 + 64 - b * 64) (drop (b * 64) levels) (all_drop is_level (b * 64) levels a.allowed);
    coded = block_begins levels intra b a.coded l;
    counts = c;
  }

-- ---- CBP
pub pattern_is : (l : List ℕ) (a b c d e f : ℕ)
    → a ≡ presence_of (gather 0 (take 64 l)) → b ≡ presence_of (gather 0 (take 64 (drop 64 l))) → c ≡ presence_of (gather 0 (take 64 (drop 128 l)))
    → d ≡ presence_of (gather 0 (take 64 (drop 192 l))) → e ≡ presence_of (gather 0 (take 64 (drop 256 l))) → f ≡ presence_of (gather 0 (take 64 (drop 320 l)))
    → a * 32 + b * 16 + c * 8 + d * 4 + e * 2 + f ≡ pattern_of (gathers 6 l)
unfolding pattern_of gathers
pattern_is l a b c d e f p q r s t u =
    let two : drop 64 (drop 64 l) ≡ drop 128 l = drop-drop 64 64 l in
    let three : drop 64 (drop 64 (drop 64 l)) ≡ drop 192 l = ap (drop 64) two ∙ drop-drop 64 128 l in
    let four : drop 64 (drop 64 (drop 64 (drop 64 l))) ≡ drop 256 l = ap (drop 64) three ∙ drop-drop 64 192 l in
    let five : drop 64 (drop 64 (drop 64 (drop 64 (drop 64 l)))) ≡ drop 320 l = ap (drop 64) four ∙ drop-drop 64 256 l in
    let g : List ℕ → ℕ = λ x. presence_of (gather 0 (take 64 x)) in
    let sum : a * 32 + b * 16 + c * 8 + d * 4 + e * 2 + f ≡ a * 32 + (b * 16 + (c * 8 + (d * 4 + (e * 2 + (f * 1 + 0))))) = omega arith in
    sum ∙ (λ i. p i * 32 + (q i * 16 + ((r ∙ ap g (sym two)) i * 8 + ((s ∙ ap g (sym three)) i * 4 + ((t ∙ ap g (sym four)) i * 2 + ((u ∙ ap g (sym five)) i * 1 + 0))))))

-- with a coefficient somewhere the pattern isn't 0, and it has six bits
pattern_zero : (n : ℕ) (l : List ℕ) → length l ≡ n * 64 → pattern_of (gathers n l) ≡ 0 → T (all is_zero l)
unfolding pattern_of gathers
pattern_zero zero [] h e = tt
pattern_zero zero (x ∷ xs) h e = absurd (omega arith)
pattern_zero (suc n) l h e =
    let z : presence_of (gather 0 (take 64 l)) ≡ 0 = none (gather 0 (take 64 l)) (2 ^ length (gathers n (drop 64 l))) _ (pow_pos (length (gathers n (drop 64 l)))) e in
    let r : pattern_of (gathers n (drop 64 l)) ≡ 0 = omega (arith, e) in
    all_join is_zero 64 l (zero-all 0 (take 64 l) z) (pattern_zero n (drop 64 l) (omega (arith, length-drop 64 l)) r)
  where
    none : (b : Block) (p m : ℕ) → 0 < p → presence_of b * p + m ≡ 0 → presence_of b ≡ 0
    none [] p m h e = refl
    none (c ∷ cs) p m h e = absurd (omega arith)

    zero-all : (run : ℕ) (l : List ℕ) → presence_of (gather run l) ≡ 0 → T (all is_zero l)
    zero-all run l e = go (all is_zero l) refl
      where
        go : (b : Bool) → all is_zero l ≡ b → T b
        go true g = tt
        go false g = absurd (omega (arith, present_some run l g, e))

pub pattern_some : (l : List ℕ) → length l ≡ 384 → T (opposite (all is_zero l)) → 1 ≤ pattern_of (gathers 6 l)
pattern_some l h t = go (pattern_of (gathers 6 l)) refl
  where
    go : (n : ℕ) → pattern_of (gathers 6 l) ≡ n → 1 ≤ n
    go zero e = absurd (both_no (all is_zero l) (pattern_zero 6 l h e) t)
      where
        both_no : (b : Bool) → T b → T (opposite b) → ⊥
        both_no true a b = b
        both_no false a b = a
    go (suc n) e = omega arith

pub pattern_low : (l : List ℕ) → pattern_of (gathers 6 l) ≤ 63
pattern_low l =
    let a = present_low (gather 0 (take 64 l)) in
    let b = present_low (gather 0 (take 64 (drop 64 l))) in
    let c = present_low (gather 0 (take 64 (drop 128 l))) in
    let d = present_low (gather 0 (take 64 (drop 192 l))) in
    let e = present_low (gather 0 (take 64 (drop 256 l))) in
    let f = present_low (gather 0 (take 64 (drop 320 l))) in
    omega (arith, pattern_is l _ _ _ _ _ _ refl refl refl refl refl refl)
