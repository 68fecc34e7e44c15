-- What each layer of the grammar reads stays as it is where more bits follow, and each refusal is for a reason of reading bits. Assumes nothing.
use Prim.Native.Nat.{ℕ, zero, suc, ◌+◌, ◌-◌, ◌*◌, ◌/◌, ◌%◌, ◌≤◌, ◌<◌}
use mathlib.Core.Path.{◌≡◌, refl, sym, subst, ◌∙◌}
use mathlib.Core.Bool.{Bool, true, false}
use mathlib.Core.Logic.{◌⊎◌, inl, inr}
use mathlib.Core.List.{List, [], ◌∷◌, ◌++◌}
use native.Mathlib.Omega.{arith}
use native.Mathlib.Nat.{le_of_suc-le-suc, not-suc-le-zero}
use borrow.Author.Tests.{leb-false, lt-leb, ne_eqb}
use lib.Dec.{T, leb, eqb}
use lib.IntN.{ℤ, ◌+ℤ◌}
use lib.ListN.{length}
use Rattle.laws.specs.Choice.{pick, both}
use Rattle.refusals.specs.declared.Reason.{Reason}
use Rattle.refusals.specs.declared.Reason.TheVariants.{NoStartCode, OtherFormat, OtherGroup, QuantiserZero, NoCodeword, Forbidden, CoefficientPast, VectorOut, OptionalMode}
use Rattle.refusals.specs.declared.Table.TheVariants.{McbpcInter}
use Rattle.refusals.specs.Number.{number, refusal}
use Rattle.bits.specs.Bits.{Bit, bit0, bit1, bits_of}
use Rattle.bits.specs.Read.{Reader, bad, done, field, judged_read, loop}
use Rattle.bits.specs.Code.{word}
use Rattle.size.specs.declared.Size.{Size}
use Rattle.size.specs.Place.{macroblocks_across}
use Rattle.layout.specs.Value.{coefficient, Vector, zero_vector}
use Rattle.layout.specs.Numbers.{forbidden, signed_code}
use Rattle.fields.specs.Rules.{expect, quantiser, spares_after, spares_from, spares}
use Rattle.h263_words.specs.Tables.{mcbpc_intra, mcbpc_inter, mcbpc_of, cbpy, mvd, tcoef, escape, stuffing}
use Rattle.h263_words.specs.Words.{is_intra, is_inter, has_dquant, type_in, chroma_in, is_four, turned, dquant_in, event_of, escaped, tabled, tcoef_read, event_read}
use Rattle.h263_description.specs.Vector.{in_range, in_picture, vectors_of, predictor}
use Rattle.h263_description.specs.Value.{group_numbers, format_code}
use Rattle.h263_description.specs.Fields.{stands as standing, is_intra_type}
use Rattle.h263_layers.specs.Vector.{pair_of, landing, component_read, components_read, vector_read}
use Rattle.h263_layers.specs.Start.{zeros_ahead, one_ahead, to_byte, Ahead, stands, absent, cut_off, ahead_of, ahead}
use Rattle.h263_layers.specs.Grammar.{fits, events, dc_read, intra_block, inter_block, blocks_read, macroblock, Slot, unsent, coded, Found, stuffed, slot, found_of, found_after, found_read, head_fields, head_after, group_head, may_stand, Opened, opened_after, opened_from, opened, row_with, row_after, row_from, groups_read, format_of, mode_bit, Ptype, modes_of, ptype_read, cpm_read, header}
use Rattle.h263_layers.proofs.PictureReads.{before_end}
use Rattle.h263_readback.proofs.Slots.{one_on}
use Rattle.h263_readback.proofs.Logic.{of_bits, Refusing, Grown, Stays, grown_alike, refusing_after, grown_after, stays_done, stays_never, stays_loop, stays_whole, stays_optional, stays_pick, stays_then, stays_map, Judges, judges_fine, judges_against, judges_pick, stays_judged, stays_field, ordered, stays_word}

-- ---- coefficients
escaped_stays : Stays escaped escaped
escaped_stays = stays_then (stays_field 1) (λ last. stays_then (stays_field 6) (λ run. stays_map (λ code. event_of last run code) (stays_field 8)))

tabled_stays : (m : ℕ) → Stays (tabled m) (tabled m)
tabled_stays m = stays_map (λ s. event_of (m / 1024) (m / 16 % 64) (signed_code s (m % 16))) (stays_field 1)

tcoef_stays : Stays tcoef_read tcoef_read
unfolding tcoef_read
tcoef_stays = stays_whole (stays_then (stays_word tcoef (unfold tcoef in tt)) (λ m. stays_pick (eqb m escape) escaped_stays (tabled_stays m)))

event_stays : Stays event_read event_read
unfolding event_read number
event_stays = stays_judged tcoef_stays (λ e. judges_pick (forbidden e.sent.code) (judges_against Forbidden tt) (judges_fine e))

fitting_stays : (room : ℕ) → Stays (judged_read event_read (fits room)) (judged_read event_read (fits room))
unfolding number
fitting_stays room = stays_judged event_stays (λ e. judges_pick (leb room e.sent.run) (judges_against CoefficientPast tt) (judges_fine e))

events_stays : (n m room : ℕ) → n ≤ m → Stays (events n room) (events m room)
unfolding events
events_stays zero m room l = stays_never
events_stays (suc n) zero room l = absurd (not-suc-le-zero l)
events_stays (suc n) (suc m) room l =
    stays_then (fitting_stays room)
    (λ e. stays_pick (eqb e.last 1) stays_done (stays_map (λ rest. e.sent ∷ rest) (events_stays n m (room - suc e.sent.run) (le_of_suc-le-suc l))))

-- ---- blocks
coefficients_stay : (room : ℕ) → Stays (loop (λ turns. events turns room)) (loop (λ turns. events turns room))
coefficients_stay room = stays_loop (λ n m l. events_stays n m room l)

dc_stays : Stays dc_read dc_read
unfolding number
dc_stays = stays_judged (stays_field 8) (λ code. judges_pick (forbidden code) (judges_against Forbidden tt) (judges_fine code))

block_stays : (intra : Bool) (x : Bit) → Stays (pick intra (intra_block x) (inter_block x)) (pick intra (intra_block x) (inter_block x))
unfolding intra_block inter_block
block_stays true bit0 = stays_map (λ dc. coefficient 0 dc ∷ []) dc_stays
block_stays true bit1 = stays_then dc_stays (λ dc. stays_map (λ rest. coefficient 0 dc ∷ rest) (coefficients_stay 63))
block_stays false bit0 = stays_done
block_stays false bit1 = coefficients_stay 64

blocks_stay : (intra : Bool) (pattern : List Bit) → Stays (blocks_read intra pattern) (blocks_read intra pattern)
unfolding blocks_read
blocks_stay intra [] = stays_done
blocks_stay intra (x ∷ pattern) = stays_then (block_stays intra x) (λ b. stays_map (λ rest. b ∷ rest) (blocks_stay intra pattern))

-- ---- vectors
judges_landing : (a b : ℤ) → Judges (landing a b)
unfolding number
judges_landing a b = judges_pick (in_range a) (judges_fine a) (judges_pick (in_range b) (judges_fine b) (judges_against VectorOut tt))

component_stays : (predicted : ℤ) → Stays (component_read predicted) (component_read predicted)
unfolding component_read
component_stays predicted = stays_judged (stays_word mvd (unfold mvd in tt)) (λ n. judges_landing (predicted +ℤ (pair_of n).printed) (predicted +ℤ (pair_of n).other))

vector_stays : (size : Size) (number address : ℕ) (predicted : Vector) → Stays (vector_read size number address predicted) (vector_read size number address predicted)
unfolding vector_read components_read Rattle.refusals.specs.Number.number
vector_stays size number address predicted =
    stays_judged
    (stays_then (component_stays predicted.horizontal) (λ h. stays_map (λ v. record { horizontal = h; vertical = v }) (component_stays predicted.vertical)))
    (λ v. judges_pick (in_picture size number address v) (judges_fine v) (judges_against VectorOut tt))

-- ---- macroblocks
macroblock_stays : (size : Size) (number address : ℕ) (predicted : Vector) (kind : ℕ) → Stays (macroblock size number address predicted kind) (macroblock size number address predicted kind)
unfolding macroblock
macroblock_stays size number address predicted kind =
    let type = type_in kind in
    stays_then (stays_word cbpy (unfold cbpy in tt))
    (λ luminance. stays_then (stays_optional (has_dquant type) 0 (stays_map dquant_in (stays_field 2)))
    (λ dquant. stays_then (stays_optional (is_inter type) zero_vector (vector_stays size number address predicted))
    (λ vector. stays_map (λ blocks. record { address = address; type = type; quant = dquant; vector = vector; blocks = blocks })
    (blocks_stay (is_intra type) (bits_of 6 (turned (is_intra type) luminance * 4 + chroma_in kind))))))

-- ---- where a macroblock begins
mcbpc_ordered : (intra : Bool) → T (ordered (mcbpc_of intra).entries)
unfolding mcbpc_intra mcbpc_inter
mcbpc_ordered true = tt
mcbpc_ordered false = tt

kind_stays : (intra : Bool) → Stays (judged_read (word (mcbpc_of intra)) found_of) (judged_read (word (mcbpc_of intra)) found_of)
unfolding number
kind_stays intra =
    stays_judged (stays_word (mcbpc_of intra) (mcbpc_ordered intra))
    (λ m. judges_pick (eqb m stuffing) (judges_fine stuffed) (judges_pick (is_four m) (judges_against (NoCodeword McbpcInter) tt) (judges_fine (slot (coded m)))))

found_stays : (intra : Bool) → Stays (found_read intra) (found_read intra)
unfolding found_read
found_stays true = kind_stays true
found_stays false = stays_then (stays_field 1) (λ cod. on cod)
  where
    on : (cod : ℕ) → Stays (found_after cod) (found_after cod)
    on zero = kind_stays false
    on (suc cod) = stays_done

-- ---- fields under a rule
expect_stays : (k v : ℕ) (reason : Reason) → T (of_bits reason) → Stays (expect k v reason) (expect k v reason)
expect_stays k v reason t = stays_judged (stays_field k) (λ x. judges_pick (eqb x v) (judges_fine x) (judges_against reason t))

quantiser_stays : Stays quantiser quantiser
unfolding number
quantiser_stays = stays_judged (stays_field 5) (λ q. judges_pick (eqb q 0) (judges_against QuantiserZero tt) (judges_fine q))

spares_after_lem : (more on : Reader ℕ) (pei : ℕ) → Stays more on → Stays (spares_after more pei) (spares_after on pei)
spares_after_lem more on zero h = stays_done
spares_after_lem more on (suc pei) h = stays_then (stays_field 8) (λ spare. h)

spares_from_lem : (n m : ℕ) → n ≤ m → Stays (spares_from n) (spares_from m)
unfolding spares_from
spares_from_lem zero m l = stays_never
spares_from_lem (suc n) zero l = absurd (not-suc-le-zero l)
spares_from_lem (suc n) (suc m) l = stays_then (stays_field 1) (λ pei. spares_after_lem (spares_from n) (spares_from m) pei (spares_from_lem n m (le_of_suc-le-suc l)))

spares_stay : Stays spares spares
unfolding spares
spares_stay = stays_loop spares_from_lem

-- ---- group headers
head_fields_stay : (number : ℕ) → Stays (head_fields number) (head_fields number)
unfolding head_fields Rattle.refusals.specs.Number.number
head_fields_stay number = stays_then (stays_field 17) (λ gbsc. stays_then (expect_stays 5 number OtherGroup tt) (λ gn. stays_then (stays_field 2) (λ gfid. quantiser_stays)))

head_after_stays : (number : ℕ) (a : Ahead) → Stays (head_after number a) (head_after number a)
unfolding Rattle.refusals.specs.Number.number
head_after_stays number (stands zero) = head_fields_stay number
head_after_stays number (stands (suc gstuf)) = stays_then (stays_field (suc gstuf)) (λ dropped. head_fields_stay number)
head_after_stays number absent = stays_done
head_after_stays number cut_off = record { refuses = λ bs at. tt; grows = λ bs more at. tt }

-- zeros alone go on
zeros_on : (bs more : List Bit) → one_ahead bs ≡ false → (one_ahead (bs ++ more) ≡ one_ahead more) × (zeros_ahead (bs ++ more) ≡ zeros_ahead bs + zeros_ahead more)
zeros_on [] more e = (refl, omega arith)
zeros_on (bit0 ∷ bs) more e = let h = zeros_on bs more e in (h.0, omega (arith, h.1))
zeros_on (bit1 ∷ bs) more e = absurd (subst T e tt)

absent_past : (one : Bool) (zeros stuffing : ℕ) → 16 + stuffing < zeros → ahead_of one zeros stuffing ≡ absent
absent_past true zeros stuffing l = rw (ne_eqb zeros 16 (λ e. omega arith), ne_eqb zeros (16 + stuffing) (λ e. omega arith))
absent_past false zeros stuffing l = rw (lt-leb zeros (16 + stuffing) l)

-- what is seen ahead stays as it is, unless the bits end inside a start code
ahead_on : (bs more : List Bit) (at : ℕ) → (ahead bs at ≡ cut_off) ⊎ (ahead (bs ++ more) at ≡ ahead bs at)
unfolding ahead
ahead_on bs more at = go (one_ahead bs) refl
  where
    few : (b : Bool) → one_ahead bs ≡ false → leb (zeros_ahead bs) (16 + to_byte at) ≡ b → (ahead_of (one_ahead bs) (zeros_ahead bs) (to_byte at) ≡ cut_off) ⊎ (ahead_of (one_ahead (bs ++ more)) (zeros_ahead (bs ++ more)) (to_byte at) ≡ ahead_of (one_ahead bs) (zeros_ahead bs) (to_byte at))
    few true e l = inl (rw (e, l))
    few false e l =
        let past : 16 + to_byte at < zeros_ahead bs = leb-false (zeros_ahead bs) (16 + to_byte at) l in
        let more_zeros = (zeros_on bs more e).1 in
        inr (absent_past (one_ahead (bs ++ more)) (zeros_ahead (bs ++ more)) (to_byte at) (omega arith) ∙ sym (absent_past (one_ahead bs) (zeros_ahead bs) (to_byte at) past))

    go : (b : Bool) → one_ahead bs ≡ b → (ahead_of (one_ahead bs) (zeros_ahead bs) (to_byte at) ≡ cut_off) ⊎ (ahead_of (one_ahead (bs ++ more)) (zeros_ahead (bs ++ more)) (to_byte at) ≡ ahead_of (one_ahead bs) (zeros_ahead bs) (to_byte at))
    go true e = let h = one_on bs more (subst (λ (b : Bool). T b) (sym e) tt) in inr (rw (h.0, h.1, e))
    go false e = few (leb (zeros_ahead bs) (16 + to_byte at)) e refl

head_stays : (number : ℕ) → Stays (group_head number) (group_head number)
unfolding group_head Rattle.refusals.specs.Number.number
head_stays number = record {
  refuses = λ bs at. (head_after_stays number (ahead bs at)).refuses bs at;
  grows = λ bs more at. beside bs more at (ahead_on bs more at);
}
  where
    beside : (bs more : List Bit) (at : ℕ) → (ahead bs at ≡ cut_off) ⊎ (ahead (bs ++ more) at ≡ ahead bs at)
        → Grown more (head_after number (ahead bs at) bs at) (head_after number (ahead (bs ++ more) at) (bs ++ more) at)
    beside bs more at (inl e) = subst (λ (a : Ahead). Grown more (head_after number a bs at) (head_after number (ahead (bs ++ more) at) (bs ++ more) at)) (sym e) tt
    beside bs more at (inr e) =
        subst (λ (a : Ahead). Grown more (head_after number (ahead bs at) bs at) (head_after number a (bs ++ more) at)) (sym e) ((head_after_stays number (ahead bs at)).grows bs more at)

-- ---- the slot at an address
opened_after_lem : (more on : ℕ → Reader Opened) (q : ℕ) (f : Found) → Stays (more q) (on q) → Stays (opened_after more q f) (opened_after on q f)
opened_after_lem more on q stuffed h = h
opened_after_lem more on q (slot s) h = stays_done

opened_from_lem : (n m : ℕ) → n ≤ m → (intra : Bool) (number address g : ℕ) → Stays (opened_from n intra number address g) (opened_from m intra number address g)
unfolding opened_from
opened_from_lem zero m l intra number address g = stays_never
opened_from_lem (suc n) zero l intra number address g = absurd (not-suc-le-zero l)
opened_from_lem (suc n) (suc m) l intra number address g =
    stays_then (stays_optional (may_stand number address g) g (head_stays number))
    (λ q. stays_then (found_stays intra) (λ f. opened_after_lem (opened_from n intra number address) (opened_from m intra number address) q f (opened_from_lem n m (le_of_suc-le-suc l) intra number address q)))

opened_stays : (intra : Bool) (number address g : ℕ) → Stays (opened intra number address g) (opened intra number address g)
opened_stays intra number address g = stays_loop (λ n m l. opened_from_lem n m l intra number address g)

-- ---- groups
row_stays : (size : Size) (intra : Bool) (number k address g : ℕ) (vectors : List Vector) → Stays (row_from k size intra number address g vectors) (row_from k size intra number address g vectors)
unfolding row_from
row_stays size intra number zero address g vectors = stays_done
row_stays size intra number (suc k) address g vectors = stays_then (opened_stays intra number address g) (λ o. row_after_lem o o.slot (λ vs. row_stays size intra number k (address + 1) o.gquant vs))
  where
    row_after_lem : (o : Opened) (s : Slot) → ((vs : List Vector) → Stays (row_from k size intra number (address + 1) o.gquant vs) (row_from k size intra number (address + 1) o.gquant vs))
        → Stays (row_after (row_from k size intra number (address + 1)) size number address vectors o s) (row_after (row_from k size intra number (address + 1)) size number address vectors o s)
    row_after_lem o unsent more = more (vectors ++ zero_vector ∷ [])
    row_after_lem o (coded kind) more =
        stays_then (macroblock_stays size number address (predictor (macroblocks_across size) (standing o.gquant) (vectors_of vectors) (length vectors)) kind)
        (λ m. stays_map (λ row. row_with m row) (more (vectors ++ m.vector ∷ [])))

groups_stay : (size : Size) (intra : Bool) (numbers : List ℕ) (vectors : List Vector) → Stays (groups_read size intra numbers vectors) (groups_read size intra numbers vectors)
unfolding groups_read
groups_stay size intra [] vectors = stays_done
groups_stay size intra (number ∷ numbers) vectors =
    stays_then (row_stays size intra number (macroblocks_across size) 1 0 vectors)
    (λ row. stays_map (λ rest. record { gquant = row.gquant; macroblocks = row.macroblocks } ∷ rest) (groups_stay size intra numbers row.vectors))

-- ---- the header
abbrev parts : ℕ → Ptype
parts x = record { ptype = x / 256 % 8; type = x / 16 % 2 }

ptype_stays : (size : Size) → Stays (ptype_read size) (ptype_read size)
unfolding ptype_read number
ptype_stays size = record {
  refuses = λ bs at. refusing_after (modes_of at) (modes_of at) (judged_read (field 13) (format_of size) bs at) (format.refuses bs at) (λ x left p. modes at x left p (eqb (x % 16) 0));
  grows = λ bs more at. grown_after (modes_of at) (modes_of at) more (judged_read (field 13) (format_of size) bs at) (judged_read (field 13) (format_of size) (bs ++ more) at) (format.grows bs more at)
      (λ x left p. beside at x left p more (eqb (x % 16) 0));
}
  where
    format : Stays (judged_read (field 13) (format_of size)) (judged_read (field 13) (format_of size))
    format = stays_judged (stays_field 13) (λ x. judges_pick (both (eqb (x / 2048) 2) (eqb (x / 32 % 8) (format_code size))) (judges_fine x) (judges_against OtherFormat tt))

    modes : (at x : ℕ) (left : List Bit) (p : ℕ) (b : Bool) → Refusing {A = Ptype} (pick b (done (parts x) left p) (bad OptionalMode (at + mode_bit x)))
    modes at x left p true = tt
    modes at x left p false = tt

    beside : (at x : ℕ) (left : List Bit) (p : ℕ) (more : List Bit) (b : Bool)
        → Grown {A = Ptype} more (pick b (done (parts x) left p) (bad OptionalMode (at + mode_bit x))) (pick b (done (parts x) (left ++ more) p) (bad OptionalMode (at + mode_bit x)))
    beside at x left p more true = refl
    beside at x left p more false = grown_alike {A = Ptype} more (refusal OptionalMode (at + mode_bit x)) _ refl

cpm_stays : Stays cpm_read cpm_read
unfolding number
cpm_stays = stays_judged (stays_field 1) (λ cpm. judges_pick (eqb cpm 0) (judges_fine cpm) (judges_against OptionalMode tt))

header_stays : (size : Size) → Stays (header size) (header size)
unfolding header number
header_stays size =
    stays_then (expect_stays 22 0b0000000000000000100000 NoStartCode tt)
    (λ psc. stays_then (stays_field 8)
    (λ tr. stays_then (ptype_stays size)
    (λ ptype. stays_then quantiser_stays
    (λ pquant. stays_then cpm_stays (λ cpm. stays_map (λ dropped. record { tr = tr; ptype = ptype.ptype; type = ptype.type; pquant = pquant }) spares_stay)))))

-- ---- the picture, but its end
pub before_end_stays : (size : Size) → Stays (before_end size) (before_end size)
before_end_stays size =
    stays_then (header_stays size)
    (λ head. stays_map (λ groups. record { tr = head.tr; ptype = head.ptype; type = head.type; pquant = head.pquant; groups = groups })
    (groups_stay size (is_intra_type head.type) (group_numbers size) []))
