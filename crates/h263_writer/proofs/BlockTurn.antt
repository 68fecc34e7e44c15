-- The blocks of a macroblock as they are written, on plain values. Assumes nothing.
use mathlib.Core.Path.{◌≡◌, refl, sym, ap, ap₂, subst, ◌∙◌}
use mathlib.Core.Bool.{Bool, true, false}
use mathlib.Core.List.{List, [], ◌∷◌, ◌++◌, append_assoc, append-nil}
use Prim.Native.Nat.{ℕ, zero, suc, ◌+◌, ◌-◌, ◌*◌, ◌≤◌, ◌<◌}
use native.Mathlib.Omega.{arith}
use borrow.Author.Tests.{eq-eqb}
use lib.Dec.{T, lit≤}
use lib.ListN.{length, get_or, take, drop, length-drop}
use lib.Seq.{drop-drop, take_all}
use Rattle.laws.specs.Choice.{either, opposite}
use Rattle.laws.proofs.Choice.{true-false, opposite_no}
use Rattle.laws.proofs.Lists.{drop_on}
use Rattle.bits.specs.Bits.{Bit, bits_of}
use Rattle.bits.specs.Appended.{WroteBits, CountablePlace}
use Rattle.bits.proofs.Parts.{parts_from}
use Rattle.bits.proofs.Appended.{wrote_none, wrote_as, wrote_then, first_countable, then_countable, next_countable}
use Rattle.layout.specs.Value.{Coefficient, coefficient, Block}
use Rattle.layout.specs.Numbers.{all, is_zero, is_level}
use Rattle.layout.specs.Flat.{gather, gathers}
use Rattle.layout.specs.Pattern.{presence_of}
use Rattle.layout.proofs.Levels.{all_index, all_take, all_drop}
use Rattle.layout.proofs.Gathered.{piece, level_sendable, gather-zero, gather_code, gather-zeros, block_begins, present_low}
use Rattle.layout.proofs.Turns.{piece_length}
use Rattle.h263_words.specs.Words.{tcoef_of}
use Rattle.h263_words.specs.Asked.{EventAsked}
use Rattle.h263_writer.specs.Write.{events_of, events_in, block_of, blocks_of, pattern_of}
use Rattle.h263_writer.specs.Sound.{waiting_block, waited_bits}
use Rattle.h263_writer.specs.Asked.{WaitingAsked, EventsAsked, BlockAsked, BlocksAsked, PresentAsked, PatternAsked}

-- ---- a coefficient that waits
none-waits : (before waiting : ℕ) → waiting ≡ 0 → waited_bits before waiting ≡ []
none-waits before zero e = refl
none-waits before (suc code) e = absurd (omega arith)

one_waits : (before waiting : ℕ) → (waiting ≡ 0 → ⊥) → waited_bits before waiting ≡ tcoef_of 0 (coefficient before waiting)
one_waits before zero n = absurd (n refl)
one_waits before (suc code) n = refl

module _ {t : List ℕ} {before waiting at : ℕ} (a : WaitingAsked t before waiting at) where
  pub waited_none : waiting ≡ 0 → {s : List ℕ} → WroteBits (waited_bits before waiting) s at s at
  waited_none e {s} = wrote_as (wrote_none s at) (sym (none-waits before waiting e))

  module _ (n : waiting ≡ 0 → ⊥) where
    pub waiting_asked : EventAsked t 0 before waiting
    waiting_asked = record { tables = a.tables; last = lit≤ tt; sendable = level_sendable before waiting a.allowed n a.near }

    pub waiting_counts : CountablePlace at (tcoef_of 0 (coefficient before waiting))
    waiting_counts = subst (CountablePlace at) (one_waits before waiting n) a.counts

    pub waited_one : {s u : List ℕ} {q : ℕ} → WroteBits (tcoef_of 0 (coefficient before waiting)) s at u q → WroteBits (waited_bits before waiting) s at u q
    waited_one w = wrote_as w (sym (one_waits before waiting n))

-- what waits is followed by one more, or is the last
events_more : (before waiting : ℕ) (d : Coefficient) (cs : Block) → events_of (waiting_block before waiting ++ d ∷ cs) ≡ waited_bits before waiting ++ events_of (d ∷ cs)
unfolding events_of
events_more before zero d cs = refl
events_more before (suc code) d cs = refl

events_none : (before waiting : ℕ) → waiting ≡ 0 → events_of (waiting_block before waiting ++ []) ≡ []
unfolding events_of
events_none before zero e = refl
events_none before (suc code) e = absurd (omega arith)

events_last : (before waiting : ℕ) → (waiting ≡ 0 → ⊥) → events_of (waiting_block before waiting ++ []) ≡ tcoef_of 1 (coefficient before waiting)
unfolding events_of
events_last before zero n = absurd (n refl)
events_last before (suc code) n = refl

waits : (run code : ℕ) (rest : Block) → (code ≡ 0 → ⊥) → coefficient run code ∷ rest ≡ waiting_block run code ++ rest
waits run zero rest n = absurd (n refl)
waits run (suc code) rest n = refl

-- ---- the events of a block: k levels are behind, the last `run` of them zeros since the last coefficient
pub record EventsSoFar (whole : List Bit) (levels : List ℕ) (s : List ℕ) (at : ℕ) (t : List ℕ) (waiting before run k place : ℕ) : Type 0 where
  pub inside : k ≤ 64
  pub low : run ≤ k
  pub near : before ≤ 63
  pub allowed : T (is_level waiting)
  pub bits : List Bit
  pub wrote : WroteBits bits s at t place
  pub same : whole ≡ bits ++ events_of (waiting_block before waiting ++ gather run (drop k levels))

pub events_begin : (levels : List ℕ) (s : List ℕ) (at from : ℕ) → from ≤ 1 → EventsSoFar (events_of (gather 0 (drop from levels))) levels s at s 0 0 0 from at
events_begin levels s at from l =
    record { inside = omega arith; low = omega arith; near = omega arith; allowed = tt; bits = []; wrote = wrote_none s at; same = refl }

module _ {whole : List Bit} {levels : List ℕ} {s : List ℕ} {at : ℕ} {t : List ℕ} {waiting before run k place : ℕ} (h : EventsSoFar whole levels s at t waiting before run k place)
    (size : length levels ≡ 64)
  where
    pub events_zero : k < 64 → get_or levels k 0 ≡ 0 → EventsSoFar whole levels s at t waiting before (run + 1) (k + 1) place
    events_zero l z = record {
      inside = omega arith;
      low = omega (arith, h.low);
      near = h.near;
      allowed = h.allowed;
      bits = h.bits;
      wrote = h.wrote;
      same =
          h.same
          ∙ ap (λ (b : Block). h.bits ++ events_of (waiting_block before waiting ++ b)) (ap (gather run) (drop_on levels k (omega arith)) ∙ gather-zero run (get_or levels k 0) (drop (k + 1) levels) z);
    }

    module _ (l : k < 64) (n : get_or levels k 0 ≡ 0 → ⊥) where
      -- what follows: this one, which waits now, and the rest
      abbrev events_rest : List Bit
      events_rest = events_of (waiting_block run (get_or levels k 0) ++ gather 0 (drop (k + 1) levels))

      events_on : whole ≡ h.bits ++ (waited_bits before waiting ++ events_rest)
      events_on =
          let c = coefficient run (get_or levels k 0) in
          let rest = gather 0 (drop (k + 1) levels) in
          h.same
          ∙ ap (λ (b : Block). h.bits ++ events_of (waiting_block before waiting ++ b)) (ap (gather run) (drop_on levels k (omega arith)) ∙ gather_code run (get_or levels k 0) (drop (k + 1) levels) n)
          ∙ ap (λ (x : List Bit). h.bits ++ x) (events_more before waiting c rest ∙ ap (λ (b : Block). waited_bits before waiting ++ events_of b) (waits run (get_or levels k 0) rest n))

      pub events_asked : {tables : List ℕ} {from : ℕ} → EventsAsked tables levels from at → CountablePlace at whole → WaitingAsked tables before waiting place
      events_asked a c = record { tables = a.tables; near = h.near; allowed = h.allowed; counts = next_countable h.wrote (waited_bits before waiting) events_rest events_on c }

      pub events_again : {u : List ℕ} {q : ℕ} → T (all is_level levels) → WroteBits (waited_bits before waiting) t place u q → EventsSoFar whole levels s at u (get_or levels k 0) run 0 (k + 1) q
      events_again ok g = record {
        inside = omega arith;
        low = omega arith;
        near = omega (arith, h.low);
        allowed = all_index is_level levels ok k (omega arith);
        bits = h.bits ++ waited_bits before waiting;
        wrote = wrote_then h.wrote g;
        same = events_on ∙ sym (append_assoc h.bits (waited_bits before waiting) events_rest);
      }

    module _ (z : T (all is_zero (drop k levels))) where
      ended : whole ≡ h.bits ++ events_of (waiting_block before waiting ++ [])
      ended = h.same ∙ ap (λ (b : Block). h.bits ++ events_of (waiting_block before waiting ++ b)) (gather-zeros run (drop k levels) z)

      pub events_empty : waiting ≡ 0 → WroteBits whole s at t place
      events_empty e = wrote_as h.wrote (sym (ended ∙ ap (λ (x : List Bit). h.bits ++ x) (events_none before waiting e) ∙ append-nil h.bits))

      module _ (n : waiting ≡ 0 → ⊥) where
        abbrev last_bits : List Bit
        last_bits = tcoef_of 1 (coefficient before waiting)

        ended_by : whole ≡ h.bits ++ last_bits
        ended_by = ended ∙ ap (λ (x : List Bit). h.bits ++ x) (events_last before waiting n)

        pub last_asked : {tables : List ℕ} {from : ℕ} → EventsAsked tables levels from at → EventAsked tables 1 before waiting
        last_asked a = record { tables = a.tables; last = lit≤ tt; sendable = level_sendable before waiting h.allowed n h.near }

        pub last_counts : CountablePlace at whole → CountablePlace place last_bits
        last_counts c = then_countable h.wrote last_bits (rw ended_by at c)

        pub events_end : {u : List ℕ} {q : ℕ} → WroteBits last_bits t place u q → WroteBits whole s at u q
        events_end g = wrote_as (wrote_then h.wrote g) (sym ended_by)

-- ---- a block
-- an INTRA block begins with its code
code_first : (levels : List ℕ) → length levels ≡ 64 → T (opposite (is_zero (get_or levels 0 0))) → gather 0 levels ≡ coefficient 0 (get_or levels 0 0) ∷ gather 0 (drop 1 levels)
code_first levels size t =
    let n : get_or levels 0 0 ≡ 0 → ⊥ = λ z. true-false (sym (eq-eqb (get_or levels 0 0) 0 z) ∙ opposite_no (is_zero (get_or levels 0 0)) t) in
    ap (gather 0) (drop_on levels 0 (omega arith)) ∙ gather_code 0 (get_or levels 0 0) (drop 1 levels) n

coded_yes : (levels : List ℕ) {intra : Bool} → intra ≡ true → T (either (opposite intra) (opposite (is_zero (get_or levels 0 0)))) → T (opposite (is_zero (get_or levels 0 0)))
coded_yes levels e t = subst (λ (x : Bool). T (either (opposite x) (opposite (is_zero (get_or levels 0 0))))) e t

module _ {tables levels : List ℕ} {intra : Bool} {at : ℕ} (a : BlockAsked tables levels intra at) where
  module _ (e : intra ≡ true) where
    abbrev code_bits : List Bit
    code_bits = bits_of 8 (get_or levels 0 0)

    abbrev later_bits : List Bit
    later_bits = events_of (gather 0 (drop 1 levels))

    intra_on : block_of intra (gather 0 levels) ≡ code_bits ++ later_bits
    intra_on = ap₂ block_of e (code_first levels a.long (coded_yes levels e a.coded))

    pub code_counts : CountablePlace at code_bits
    code_counts = first_countable code_bits later_bits (subst (CountablePlace at) intra_on a.counts)

    pub intra_asked : {s t : List ℕ} {p : ℕ} → WroteBits code_bits s at t p → EventsAsked tables levels 1 p
    intra_asked w =
        record { tables = a.tables; long = a.long; allowed = a.allowed; near = lit≤ tt; counts = then_countable w later_bits (subst (CountablePlace at) intra_on a.counts) }

    pub block_intra : {s t : List ℕ} {p : ℕ} {u : List ℕ} {q : ℕ} → WroteBits code_bits s at t p → WroteBits later_bits t p u q → WroteBits (block_of intra (gather 0 levels)) s at u q
    block_intra w v = wrote_as (wrote_then w v) (sym intra_on)

  module _ (e : intra ≡ false) where
    inter_on : block_of intra (gather 0 levels) ≡ events_of (gather 0 (drop 0 levels))
    inter_on = ap (λ (x : Bool). block_of x (gather 0 levels)) e

    pub inter_asked : EventsAsked tables levels 0 at
    inter_asked = record { tables = a.tables; long = a.long; allowed = a.allowed; near = lit≤ tt; counts = subst (CountablePlace at) inter_on a.counts }

    pub block_inter : {s u : List ℕ} {q : ℕ} → WroteBits (events_of (gather 0 (drop 0 levels))) s at u q → WroteBits (block_of intra (gather 0 levels)) s at u q
    block_inter w = wrote_as w (sym inter_on)

-- ---- the six blocks, part by part
abbrev pub block_at : Bool → List ℕ → ℕ → List Bit
block_at intra levels b = block_of intra (gather 0 (take (b * 64 + 64 - b * 64) (drop (b * 64) levels)))

blocks_from : (intra : Bool) (levels : List ℕ) (b n : ℕ) → blocks_of intra (gathers n (drop (b * 64) levels)) ≡ parts_from (block_at intra levels) b n
unfolding gathers blocks_of
blocks_from intra levels b zero = refl
blocks_from intra levels b (suc n) =
    let m : b * 64 + 64 ≡ (b + 1) * 64 = omega arith in
    ap₂ (λ (x y : List ℕ). block_of intra (gather 0 x) ++ blocks_of intra (gathers n y)) (sym (piece levels (b * 64) 64)) (drop-drop 64 (b * 64) levels ∙ ap (λ (k : ℕ). drop k levels) m)
    ∙ ap (λ (x : List Bit). block_at intra levels b ++ x) (blocks_from intra levels (b + 1) n)

pub blocks_are : (intra : Bool) (levels : List ℕ) → blocks_of intra (gathers 6 levels) ≡ parts_from (block_at intra levels) 0 6
blocks_are intra levels = blocks_from intra levels 0 6

module _ {tables levels : List ℕ} {intra : Bool} {at : ℕ} (a : BlocksAsked tables levels intra at) where
  pub blocks_count : CountablePlace at (parts_from (block_at intra levels) 0 6)
  blocks_count = subst (CountablePlace at) (blocks_are intra levels) a.counts

  -- what block b asks
  pub block_asked : (b : ℕ) → b < 6 → {place : ℕ} → CountablePlace place (block_at intra levels b) → BlockAsked tables (take (b * 64 + 64 - b * 64) (drop (b * 64) levels)) intra place
  block_asked b l c = record {
    tables = a.tables;
    long = piece_length levels (b * 64) 64 (omega (arith, a.long));
    allowed = all_take is_level (b * 64 + 64 - b * 64) (drop (b * 64) levels) (all_drop is_level (b * 64) levels a.allowed);
    coded = block_begins levels intra b a.coded l;
    counts = c;
  }

-- ---- the pattern
module _ {levels : List ℕ} {intra : Bool} (a : PresentAsked levels intra) where
  pub present_intra : intra ≡ true → {r : ℕ} → r ≡ presence_of (gather 0 (take 63 (drop 1 levels))) → r ≡ presence_of (events_in intra (gather 0 levels))
  present_intra e is =
      let l : length (drop 1 levels) ≤ 63 = omega (arith, length-drop 1 levels, a.long) in
      is ∙ ap (λ (x : List ℕ). presence_of (gather 0 x)) (take_all 63 (drop 1 levels) l)
      ∙ sym (ap₂ (λ (x : Bool) (b : Block). presence_of (events_in x b)) e (code_first levels a.long (coded_yes levels e a.coded)))

  pub present_inter : intra ≡ false → {r : ℕ} → r ≡ presence_of (gather 0 levels) → r ≡ presence_of (events_in intra (gather 0 levels))
  present_inter e is = is ∙ sym (ap (λ (x : Bool). presence_of (events_in x (gather 0 levels))) e)

-- what a block of the six asks
pub present_asked : {levels : List ℕ} {intra : Bool} → PatternAsked levels intra → (b : ℕ) → b < 6 → PresentAsked (take (b * 64 + 64 - b * 64) (drop (b * 64) levels)) intra
present_asked {levels} {intra} a b l = record { long = piece_length levels (b * 64) 64 (omega (arith, a.long)); coded = block_begins levels intra b a.coded l }

module _ (intra : Bool) where
  abbrev presence : List ℕ → ℕ
  presence l = presence_of (events_in intra (gather 0 (take 64 l)))

  pub pattern_is : (l : List ℕ) (a b c d e f : ℕ) → a ≡ presence l → b ≡ presence (drop 64 l) → c ≡ presence (drop 128 l) → d ≡ presence (drop 192 l) → e ≡ presence (drop 256 l) → f ≡ presence (drop 320 l)
      → a * 32 + b * 16 + c * 8 + d * 4 + e * 2 + f ≡ pattern_of intra (gathers 6 l)
  unfolding pattern_of gathers
  pattern_is l a b c d e f p q r s t u =
      let two : drop 64 (drop 64 l) ≡ drop 128 l = drop-drop 64 64 l in
      let three : drop 64 (drop 64 (drop 64 l)) ≡ drop 192 l = ap (drop 64) two ∙ drop-drop 64 128 l in
      let four : drop 64 (drop 64 (drop 64 (drop 64 l))) ≡ drop 256 l = ap (drop 64) three ∙ drop-drop 64 192 l in
      let five : drop 64 (drop 64 (drop 64 (drop 64 (drop 64 l)))) ≡ drop 320 l = ap (drop 64) four ∙ drop-drop 64 256 l in
      let sum : a * 32 + b * 16 + c * 8 + d * 4 + e * 2 + f ≡ a * 32 + (b * 16 + (c * 8 + (d * 4 + (e * 2 + (f * 1 + 0))))) = omega arith in
      sum
      ∙ (λ i. p i * 32 + (q i * 16 + ((r ∙ ap presence (sym two)) i * 8 + ((s ∙ ap presence (sym three)) i * 4 + ((t ∙ ap presence (sym four)) i * 2 + ((u ∙ ap presence (sym five)) i * 1 + 0))))))

  presence_low : (l : List ℕ) → presence l ≤ 1
  presence_low l = present_low (events_in intra (gather 0 (take 64 l)))

  pub pattern_low : (l : List ℕ) → pattern_of intra (gathers 6 l) ≤ 63
  pattern_low l =
      let a = presence_low l in
      let b = presence_low (drop 64 l) in
      let c = presence_low (drop 128 l) in
      let d = presence_low (drop 192 l) in
      let e = presence_low (drop 256 l) in
      let f = presence_low (drop 320 l) in
      omega (arith, pattern_is l _ _ _ _ _ _ refl refl refl refl refl refl)
