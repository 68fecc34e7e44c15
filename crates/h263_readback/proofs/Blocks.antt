-- Blocks are read back: the pattern's bit says whether there are coefficients, LAST whether there are more. Assumes nothing.
use mathlib.Core.Path.{◌≡◌, refl, sym, ap, ◌∙◌}
use mathlib.Core.List.{List, [], ◌∷◌, ◌++◌}
use mathlib.Core.Bool.{Bool, true, false}
use Prim.Native.Nat.{ℕ, zero, suc, ◌+◌, ◌-◌, ◌*◌, ◌/◌, ◌%◌, ◌^◌, ◌≤◌, ◌<◌}
use native.Mathlib.Omega.{arith}
use borrow.Author.Tests.{lt-leb}
use lib.Dec.{T, leb, leb→le, lit<}
use lib.ListN.{length, length-append}
use Rattle.laws.specs.Choice.{pick, opposite}
use Rattle.laws.proofs.Choice.{both_left, both_right, opposite_no}
use Rattle.refusals.specs.declared.Reason.TheVariants.{Forbidden}
use Rattle.bits.specs.Bits.{Bit, bit_of, bits_of}
use Rattle.bits.specs.Read.{fine, against, judged_read, loop}
use Rattle.bits.proofs.Numbers.{bits_of-append}
use Rattle.bits.proofs.ReadBack.{Back, back_done, back_next, back_end, back_judged, back_loop, back_field}
use Rattle.layout.specs.Value.{Coefficient, coefficient, Block}
use Rattle.layout.specs.Numbers.{forbidden, is_code}
use Rattle.layout.specs.Sendable.{Sendable}
use Rattle.layout.specs.Pattern.{presence_of}
use Rattle.layout.specs.Proper.{If, Each, Fits, Begins}
use Rattle.h263_words.specs.Words.{Event, event_read, tcoef_of}
use Rattle.h263_layers.specs.Grammar.{fits, events_after, events, dc_read, intra_block, inter_block, blocks_read}
use Rattle.h263_writer.specs.Write.{events_of, events_in, block_of, blocks_of, pattern_of}
use Rattle.h263_readback.proofs.Words.{back_event, length-event}

-- ---- coefficients
code_small : (code : ℕ) → T (is_code code) → code < 256
code_small code t = let l = leb→le code 255 (both_left (leb code 255) (opposite (forbidden code)) t) in omega arith

code_allowed : (code : ℕ) → T (is_code code) → forbidden code ≡ false
code_allowed code t = opposite_no (forbidden code) (both_right (leb code 255) (opposite (forbidden code)) t)

sendable : (c : Coefficient) → c.run ≤ 63 → T (is_code c.code) → Sendable c
sendable c l t = record { run = l; byte = code_small c.code t; level = code_allowed c.code t }

-- each has a bit at least
more_bits : (cs : Block) → length cs ≤ length (events_of cs)
unfolding events_of
more_bits [] = omega arith
more_bits (c ∷ []) = length-event 1 c
more_bits (c ∷ d ∷ cs) = omega (arith, length-append (tcoef_of 0 c) (events_of (d ∷ cs)), length-event 0 c, more_bits (d ∷ cs))

module _ (last : ℕ) (c : Coefficient) (room : ℕ) (rest : List Bit) (bit : last ≤ 1) (l : c.run < room) (r : room ≤ 64) (t : T (is_code c.code)) where
  abbrev event : Event
  event = record { last = last; sent = c }

  back_fitting : Back (judged_read event_read (fits room)) (tcoef_of last c) rest event
  back_fitting = back_judged (fits room) event (back_event last c rest bit (sendable c (omega arith) t)) (rw (lt-leb room c.run l))

back_events : (c : Coefficient) (cs : Block) (turns room : ℕ) (rest : List Bit) → length cs < turns → room ≤ 64 → Fits room (c ∷ cs)
    → Back (events turns room) (events_of (c ∷ cs)) rest (c ∷ cs)
unfolding events events_of
back_events c cs zero room rest l r p = absurd (omega arith)
back_events c [] (suc turns) room rest l r p = back_end (events_after (events turns) room) (back_fitting 1 c room rest (omega arith) p.0 r p.1) refl
back_events c (d ∷ cs) (suc turns) room rest l r p =
    back_next (events_after (events turns) room) (back_fitting 0 c room (events_of (d ∷ cs) ++ rest) (omega arith) p.0 r p.1)
    (back_end _ (back_events d cs turns (room - suc c.run) rest (omega arith) (omega arith) p.2) refl)

-- ---- one block
-- whether it has coefficients, after its DC code if it is INTRA
abbrev mark : Bool → Block → Bit
mark intra b = bit_of (presence_of (events_in intra b))

back_loop_events : (c : Coefficient) (cs : Block) (room : ℕ) (rest : List Bit) → room ≤ 64 → Fits room (c ∷ cs)
    → Back (loop (λ turns. events turns room)) (events_of (c ∷ cs)) rest (c ∷ cs)
back_loop_events c cs room rest r p =
    back_loop (λ turns. events turns room) (λ n l. back_events c cs (suc n) room rest (omega (arith, more_bits (c ∷ cs))) r p)

back_inter : (b : Block) (rest : List Bit) → Fits 64 b → Back (inter_block (mark false b)) (block_of false b) rest b
unfolding inter_block events_of
back_inter [] rest p = back_done [] rest
back_inter (c ∷ cs) rest p = back_loop_events c cs 64 rest (omega arith) p

back_dc : (code : ℕ) (rest : List Bit) → T (is_code code) → Back dc_read (bits_of 8 code) rest code
back_dc code rest p = back_judged (λ x. pick (forbidden x) (against Forbidden) (fine x)) code (back_field 8 code rest (code_small code p)) (rw (code_allowed code p))

back_from_dc : (code : ℕ) (cs : Block) (rest : List Bit) → T (is_code code) → Fits 63 cs
    → Back (intra_block (mark false cs)) (bits_of 8 code ++ events_of cs) rest (coefficient 0 code ∷ cs)
unfolding intra_block events_of
back_from_dc code [] rest p q = back_next _ (back_dc code _ p) (back_done _ rest)
back_from_dc code (c ∷ cs) rest p q = back_next _ (back_dc code _ p) (back_end _ (back_loop_events c cs 63 rest (omega arith) q) refl)

back_intra : (b : Block) (rest : List Bit) → Fits 64 b → Begins b → Back (intra_block (mark true b)) (block_of true b) rest b
back_intra [] rest p e = absurd e
back_intra (c ∷ cs) rest p e =
    let q : Fits 63 cs = rw e at p.2 in
    let same : coefficient 0 c.code ≡ c = ap (λ (r : ℕ). coefficient r c.code) (sym e) in
    rw same at (back_from_dc c.code cs rest p.1 q)

-- ---- the blocks of a pattern
-- as the type says: INTRA blocks all begin with a DC code
abbrev pub Starting : Bool → List Block → Type 0
Starting intra bs = If intra (Each Begins bs) (Unit {0})

abbrev marks : Bool → List Block → List Bit
marks intra [] = []
marks intra (b ∷ bs) = mark intra b ∷ marks intra bs

back_marked : (intra : Bool) (bs : List Block) (rest : List Bit) → Each (Fits 64) bs → Starting intra bs → Back (blocks_read intra (marks intra bs)) (blocks_of intra bs) rest bs
unfolding blocks_read blocks_of
back_marked intra [] rest p s = back_done [] rest
back_marked true (b ∷ bs) rest p s = back_next _ (back_intra b (blocks_of true bs ++ rest) p.0 s.0) (back_end _ (back_marked true bs rest p.1 s.1) refl)
back_marked false (b ∷ bs) rest p s = back_next _ (back_inter b (blocks_of false bs ++ rest) p.0) (back_end _ (back_marked false bs rest p.1 tt) refl)

-- ---- the pattern
present_bit : (b : Block) → presence_of b < 2
present_bit [] = lit< tt
present_bit (c ∷ cs) = lit< tt

less_case : (p q n : ℕ) → p < 2 → q < 2 ^ n → p * 2 ^ n + q < 2 ^ suc n
less_case zero q n l h = omega arith
less_case (suc zero) q n l h = omega arith
less_case (suc (suc p)) q n l h = absurd (omega arith)

pub pattern_less : (intra : Bool) (bs : List Block) → pattern_of intra bs < 2 ^ length bs
unfolding pattern_of
pattern_less intra [] = lit< tt
pattern_less intra (b ∷ bs) = less_case (presence_of (events_in intra b)) (pattern_of intra bs) (length bs) (present_bit (events_in intra b)) (pattern_less intra bs)

marks_bits : (intra : Bool) (bs : List Block) → marks intra bs ≡ bits_of (length bs) (pattern_of intra bs)
unfolding pattern_of
marks_bits intra [] = refl
marks_bits intra (b ∷ bs) =
    let p = presence_of (events_in intra b) in
    let one : p / 1 % 2 ≡ p = omega (arith, present_bit (events_in intra b)) in
    let first : bits_of 1 p ≡ mark intra b ∷ [] = rw one in
    let n : 1 + length bs ≡ suc (length bs) = omega arith in
    ap (λ (l : List Bit). mark intra b ∷ l) (marks_bits intra bs)
    ∙ ap (λ (l : List Bit). l ++ bits_of (length bs) (pattern_of intra bs)) (sym first)
    ∙ bits_of-append 1 (length bs) p (pattern_of intra bs) (pattern_less intra bs)
    ∙ ap (λ (k : ℕ). bits_of k (p * 2 ^ length bs + pattern_of intra bs)) n

-- ---- six blocks, by the pattern that is taken from them
pub back_blocks : (intra : Bool) (bs : List Block) (rest : List Bit) → length bs ≡ 6 → Each (Fits 64) bs → Starting intra bs
    → Back (blocks_read intra (bits_of 6 (pattern_of intra bs))) (blocks_of intra bs) rest bs
back_blocks intra bs rest six p s =
    let e : bits_of 6 (pattern_of intra bs) ≡ marks intra bs = ap (λ (n : ℕ). bits_of n (pattern_of intra bs)) (sym six) ∙ sym (marks_bits intra bs) in
    rw e (back_marked intra bs rest p s)
