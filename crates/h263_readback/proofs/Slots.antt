-- Where a macroblock begins: no start code is seen where none is written, since a 1 comes soon; GBSC is seen wherever its byte ends, since it has 16 zeros. Assumes nothing.
use mathlib.Core.Path.{◌≡◌, refl, ap}
use mathlib.Core.List.{List, [], ◌∷◌, ◌++◌}
use mathlib.Core.Bool.{Bool, true, false}
use Prim.Native.Nat.{ℕ, zero, suc, ◌+◌, ◌/◌, ◌%◌, ◌^◌, ◌≤◌, ◌<◌}
use native.Mathlib.Omega.{arith}
use borrow.Author.Tests.{eq-eqb, ne_eqb, lt-ltb}
use lib.Dec.{T, eqb, leb, leb→le, lit<}
use Rattle.laws.specs.Choice.{pick}
use Rattle.laws.proofs.Choice.{both_left, both_right}
use Rattle.refusals.specs.declared.Reason.{Reason}
use Rattle.refusals.specs.declared.Reason.TheVariants.{OtherGroup, QuantiserZero}
use Rattle.bits.specs.Bits.{Bit, bit0, bit1, bits_of}
use Rattle.bits.specs.Read.{fine, against}
use Rattle.bits.specs.Code.{word_of, has}
use Rattle.bits.proofs.ReadBack.{Back, back_done, back_next, back_end, back_judged, back_loop, back_field}
use Rattle.layout.specs.Numbers.{within}
use Rattle.fields.specs.Rules.{expect, quantiser, spares, spares_from, spares_after, optional}
use Rattle.h263_words.specs.Tables.{kind, mcbpc_intra, mcbpc_inter, mcbpc_of}
use Rattle.h263_words.proofs.Back.{has_intra, has_inter}
use Rattle.h263_words.proofs.FirstOne.{one_within, mcbpc_one}
use Rattle.h263_layers.specs.Start.{zeros_ahead, one_ahead, to_byte, absent, ahead_of, ahead}
use Rattle.h263_layers.specs.Grammar.{Slot, unsent, coded, slot, found_of, found_after, found_read, head_fields, group_head, may_stand, opened_after, opened_from, opened}
use Rattle.h263_layers.proofs.Layers.{Typed}
use Rattle.h263_writer.specs.Write.{mcbpc_of as mcbpc_bits, head_of}
use Rattle.h263_readback.proofs.Words.{one_of_lem, back_mcbpc}

-- ---- a 1 within the first 16 bits
one_soon : (n : ℕ) (w : List Bit) → T (one_within n w) → T (one_ahead w) × (zeros_ahead w < n)
one_soon zero w t = absurd t
one_soon (suc n) [] t = absurd t
one_soon (suc n) (bit0 ∷ w) t = let h = one_soon n w t in (h.0, omega (arith, h.1))
one_soon (suc n) (bit1 ∷ w) t = (tt, omega arith)

one_later : (n : ℕ) (w : List Bit) → T (one_within n w) → T (one_within (suc n) w)
one_later zero w t = absurd t
one_later (suc n) [] t = absurd t
one_later (suc n) (bit0 ∷ w) t = one_later n w t
one_later (suc n) (bit1 ∷ w) t = tt

pub one_on : (w rest : List Bit) → T (one_ahead w) → (one_ahead (w ++ rest) ≡ true) × (zeros_ahead (w ++ rest) ≡ zeros_ahead w)
one_on [] rest t = absurd t
one_on (bit0 ∷ w) rest t = let h = one_on w rest t in (h.0, ap suc h.1)
one_on (bit1 ∷ w) rest t = (refl, refl)

absent_of : (zeros stuffing : ℕ) → zeros < 16 → ahead_of true zeros stuffing ≡ absent
absent_of zeros stuffing l = rw (ne_eqb zeros 16 (λ e. omega arith), ne_eqb zeros (16 + stuffing) (λ e. omega arith))

-- no start code stands where these bits are
pub record Unstarted (bs : List Bit) : Type 0 where
  pub none : (at : ℕ) → ahead bs at ≡ absent

soon : (w rest : List Bit) → T (one_within 10 w) → Unstarted (w ++ rest)
unfolding ahead
soon w rest t =
    let one = one_soon 10 w t in
    let h = one_on w rest one.0 in
    record { none = λ at. rw (h.0, h.1) (absent_of (zeros_ahead w) (to_byte at) (omega (arith, one.1))) }

-- ---- COD and MCBPC
bounds : (high type : ℕ) → T (within 1 high type) → (1 ≤ type) × (type ≤ high)
bounds high type t = (leb→le 1 type (both_left (leb 1 type) (leb type high) t), leb→le type high (both_right (leb 1 type) (leb type high) t))

has-kind : (intra : Bool) (type x : ℕ) → Typed intra type → T (has (mcbpc_of intra) (kind type (x % 4))) × (kind type (x % 4) ≤ 19)
has-kind true type x t = let b = bounds 2 type (one_of_lem (within 1 2) (1 ∷ 2 ∷ []) type tt t) in (has_intra type (x % 4) b.0 b.1 (omega arith), omega arith)
has-kind false type x t = let b = bounds 4 type t in (has_inter type (x % 4) b.0 b.1 (omega arith), omega arith)

found_coded : (k : ℕ) → k ≤ 19 → found_of k ≡ fine (slot (coded k))
found_coded k l = rw (ne_eqb k 24 (λ e. omega arith), ne_eqb (k / 4) 5 (λ e. omega arith))

-- what is written where a macroblock begins, and means this slot
pub record Begun (intra : Bool) (w : List Bit) (s : Slot) : Type 0 where
  pub soon_one : (rest : List Bit) → Unstarted (w ++ rest)
  pub found : (rest : List Bit) → Back (found_read intra) w rest (slot s)

pub begun_coded : (intra : Bool) (type x : ℕ) → Typed intra type → Begun intra (mcbpc_bits intra type x) (coded (kind type (x % 4)))
unfolding found_read
begun_coded true type x t =
    let k = kind type (x % 4) in
    let h = has-kind true type x t in
    record {
      soon_one = λ rest. soon (word_of mcbpc_intra k) rest (one_later 9 (word_of mcbpc_intra k) (mcbpc_one true k h.0));
      found = λ rest. back_judged found_of (slot (coded k)) (back_mcbpc k rest true h.0) (found_coded k h.1);
    }
begun_coded false type x t =
    let k = kind type (x % 4) in
    let h = has-kind false type x t in
    record {
      soon_one = λ rest. soon (bit0 ∷ word_of mcbpc_inter k) rest (mcbpc_one false k h.0);
      found = λ rest. back_next found_after (back_field 1 0 _ (lit< tt)) (back_judged found_of (slot (coded k)) (back_mcbpc k rest false h.0) (found_coded k h.1));
    }

-- COD 1
pub begun_unsent : Begun false (bits_of 1 1) unsent
unfolding found_read
begun_unsent = record { soon_one = λ rest. soon (bits_of 1 1) rest tt; found = λ rest. back_end found_after (back_field 1 1 rest (lit< tt)) refl }

-- ---- headers
pub back_expected : (k v : ℕ) (reason : Reason) (rest : List Bit) → v < 2 ^ k → Back (expect k v reason) (bits_of k v) rest v
back_expected k v reason rest l =
    back_judged (λ x. pick (eqb x v) (fine x) (against reason)) v (back_field k v rest l) (rw (eq-eqb v v refl))

pub back_quantiser : (q : ℕ) (rest : List Bit) → 1 ≤ q → q ≤ 31 → Back quantiser (bits_of 5 q) rest q
back_quantiser q rest l h =
    back_judged (λ q. pick (eqb q 0) (against QuantiserZero) (fine q)) q (back_field 5 q rest (omega arith)) (rw (ne_eqb q 0 (λ e. omega arith)))

-- PEI 0
pub back_spares : (rest : List Bit) → Back spares (bits_of 1 0) rest 0
unfolding spares spares_from
back_spares rest = back_loop spares_from (λ n l. back_end (spares_after (spares_from n)) (back_field 1 0 rest (lit< tt)) refl)

-- the bits h say the GQUANT q at this address, where g was known: a header or none
pub record Headed (number address g q : ℕ) (h : List Bit) : Type 0 where
  pub heads : (rest : List Bit) → Unstarted rest → Back (optional (may_stand number address g) g (group_head number)) h rest q

-- where no header may stand
pub headed_none : (number address q : ℕ) → may_stand number address q ≡ false → Headed number address q q []
headed_none number address q e = record { heads = λ rest u. rw e (back_done q rest) }

back_absent : (number : ℕ) (rest : List Bit) → Unstarted rest → Back (group_head number) [] rest 0
unfolding group_head
back_absent number rest u = record { reads = λ at. rw (u.none at) ((back_done {A = ℕ} 0 rest).reads at) }

back_header : (number q : ℕ) (rest : List Bit) → number < 32 → 1 ≤ q → q ≤ 31
    → Back (group_head number) (bits_of 17 1 ++ (bits_of 5 number ++ (bits_of 2 0 ++ bits_of 5 q))) rest q
unfolding group_head ahead head_fields
back_header number q rest n l h =
    let fields : Back (head_fields number) (bits_of 17 1 ++ (bits_of 5 number ++ (bits_of 2 0 ++ bits_of 5 q))) rest q =
    back_next _ (back_field 17 1 _ (lit< tt)) (back_next _ (back_expected 5 number OtherGroup _ n) (back_next _ (back_field 2 0 _ (lit< tt)) (back_quantiser q rest l h))) in
    record { reads = λ at. fields.reads at }

-- the first macroblock of a group that may have one
pub headed_first : (number q : ℕ) → 1 ≤ number → number < 32 → q ≤ 31 → Headed number 1 0 q (head_of number q)
headed_first number zero some n l = record { heads = λ rest u. rw (lt-ltb 0 number some) (back_absent number rest u) }
headed_first number (suc q) some n l = record { heads = λ rest u. rw (lt-ltb 0 number some, ne_eqb (suc q) 0 (λ e. omega arith)) (back_header number (suc q) rest n (omega arith) l) }

-- ---- the slot at an address
pub back_opened : (intra : Bool) (number address g q : ℕ) (h w : List Bit) (s : Slot) (rest : List Bit) → Headed number address g q h → Begun intra w s
    → Back (opened intra number address g) (h ++ w) rest (record { gquant = q; slot = s })
unfolding opened_from
back_opened intra number address g q h w s rest k b =
    back_loop (λ turns. opened_from turns intra number address g)
    (λ n l. back_next _ (k.heads (w ++ rest) (b.soon_one rest)) (back_end (opened_after (opened_from n intra number address) q) (b.found rest) refl))
