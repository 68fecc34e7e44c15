-- Every layer of H.261's grammar, read beside the same bits with more after them. Assumes nothing.
use Prim.Native.Nat.{ℕ, zero, suc, ◌+◌, ◌-◌, ◌/◌, ◌%◌, ◌≤◌, zero-le}
use mathlib.Core.Path.{◌≡◌, refl, ap, subst}
use mathlib.Core.Bool.{Bool, true, false}
use mathlib.Core.List.{List, [], ◌∷◌}
use native.Mathlib.Omega.{arith}
use lib.Dec.{T, eqb, lit≤}
use lib.IntN.{ℤ}
use Rattle.laws.specs.Choice.{pick}
use Rattle.refusals.specs.declared.Reason.{Reason}
use Rattle.refusals.specs.declared.Reason.TheVariants.{NoStartCode, OtherGroup, QuantiserZero, Forbidden, VectorOut}
use Rattle.refusals.specs.declared.Refusal.{Refusal}
use Rattle.refusals.specs.Number.{number}
use Rattle.bits.specs.Bits.{Bit, bit0, bit1, bits_of}
use Rattle.bits.specs.Places.{plain}
use Rattle.bits.specs.Read.{Read, got, refused, endless, Reader, next, ◌>>=◌, done, fine, against, Judged, settle, judged_read}
use Rattle.bits.specs.Code.{CodeTable, word}
use Rattle.bits.proofs.Codes.{each}
use Rattle.fields.specs.Rules.{expect, quantiser, spares_after, spares_from, spares, optional}
use Rattle.h261_words.specs.Tables.{table1, table2, table3, table4, pairs, first_table5, later_table5, end_of_block, escape}
use Rattle.h261_words.specs.Words.{is_intra, is_mc, has_mquant, has_cbp, Event, sent, over, escaped, paired, tcoeff, allowed, coefficient_read}
use Rattle.layout.specs.Value.{coefficient, Vector, zero_vector, Block, Macroblock}
use Rattle.layout.specs.Numbers.{forbidden, signed_code}
use Rattle.h261_groups.specs.Format.{group_numbers}
use Rattle.h261_groups.specs.declared.Format.{Format}
use Rattle.h261_description.specs.Vector.{Before, at_start, preceding, in_picture}
use Rattle.h261_description.specs.Value.{before_next}
use Rattle.h261_layers.specs.Vector.{pair_of, component, component_read, components_read, pointing, vector_read}
use Rattle.h261_layers.specs.Grammar.{fits, coefficients_after, coefficients, dc_read, intra_block, inter_block, blocks_read, macroblock, Mba, step, stuffed, ended, mba_of, mba, macroblocks_after, macroblocks_from, group_head, group, none, groups_read, ptype_of, header, picture}
use Rattle.order.specs.Grammar.{backwards}
use Rattle.order.proofs.Logic.{Moves, Steady, Near, moves_weaker, steady_any, steady_open, moves_done, steady_done, moves_never, moves_bind, steady_then, steady_map, moves_turn, steady_turn, steady_loop, steady_never, steady_none, steady_judged, judged_near, steady_whole, whole_near, steady_field, field_near, moves_or_end, steady_or_end}
use Rattle.order.proofs.Words.{ordered, some, short, steady_word, word_near, word-short}

-- any rule over one field or codeword
judged_one : {A B : Type 0} {bound bound' least : ℕ} {r : Reader A} (rule : A → Judged B) → 1 ≤ least → Near 0 r → Steady backwards false bound bound' least r r
    → Steady backwards false bound bound' least (judged_read r rule) (judged_read r rule)
judged_one rule some n h = steady_judged rule some h n (λ a reason e. zero-le)

-- ---- fields under a rule
expect_stands : {bound bound' : ℕ} (k v : ℕ) (reason : Reason) → 1 ≤ k → Steady backwards false bound bound' k (expect k v reason) (expect k v reason)
expect_stands k v reason l = judged_one (λ x. pick (eqb x v) (fine x) (against reason)) l (field_near k) (steady_field k)

quantiser_stands : {bound bound' : ℕ} → Steady backwards false bound bound' 5 quantiser quantiser
quantiser_stands = judged_one (λ q. pick (eqb q 0) (against QuantiserZero) (fine q)) (lit≤ tt) (field_near 5) (steady_field 5)

spares_after_moves : {bound : ℕ} (r : Reader ℕ) (more : ℕ) → Moves bound 0 r → Moves bound 0 (spares_after r more)
spares_after_moves r zero h = moves_done
spares_after_moves {bound} r (suc more) h = moves_weaker zero-le (moves_bind (λ n l. omega arith) (steady_field {back = backwards} {bound = bound} {bound' = bound} 8).here (λ a. h))

spares_moves : (turns : ℕ) → Moves turns 0 (spares_from turns)
unfolding spares_from
spares_moves zero = moves_never
spares_moves (suc turns) =
    moves_weaker zero-le
    (moves_turn (steady_field {back = backwards} {bound = suc turns} {bound' = suc turns} 1).here (λ more. spares_after_moves (spares_from turns) more (spares_moves turns)))

spares_after_lem : {bound bound' : ℕ} (r r' : Reader ℕ) (more : ℕ) → Steady backwards false bound bound' 0 r r' → Steady backwards false bound bound' 0 (spares_after r more) (spares_after r' more)
spares_after_lem r r' zero h = steady_done
spares_after_lem r r' (suc more) h = steady_any (steady_then (steady_field 8) (λ a. h))

spares_from_lem : (turns turns' : ℕ) → Steady backwards false turns turns' 0 (spares_from turns) (spares_from turns')
unfolding spares_from
spares_from_lem zero turns' = steady_never (spares_moves turns')
spares_from_lem (suc turns) zero = steady_none (spares_moves (suc turns))
spares_from_lem (suc turns) (suc turns') = steady_any (steady_turn (steady_field 1) (λ more. spares_after_lem (spares_from turns) (spares_from turns') more (spares_from_lem turns turns')))

spares_stand : {bound bound' : ℕ} → Steady backwards false bound bound' 0 spares spares
unfolding spares
spares_stand = steady_loop spares_from_lem

optional_stands : {A : Type 0} {bound bound' least : ℕ} {r : Reader A} (t : Bool) (a : A) → Steady backwards false bound bound' least r r
    → Steady backwards false bound bound' 0 (optional t a r) (optional t a r)
optional_stands true a h = steady_any h
optional_stands false a h = steady_done

-- ---- coefficients
abbrev Good : CodeTable → Type 0
Good table = (T (each (λ m. true) table.entries) × T (some table.entries)) × T (ordered table.entries)

first_good : Good first_table5
unfolding first_table5 pairs
first_good = ((tt, tt), tt)

later_good : Good later_table5
unfolding later_table5 pairs
later_good = ((tt, tt), tt)

word_stands : {bound bound' : ℕ} (table : CodeTable) → Good table → Steady backwards false bound bound' 1 (word table) (word table)
word_stands table g = steady_word (λ m. true) table g.0.0 g.0.1 g.1

tcoeff_after : {bound bound' : ℕ} (end esc : Bool) (m : ℕ) → Steady backwards false bound bound' 0 (pick end (done over) (pick esc escaped (paired m))) (pick end (done over) (pick esc escaped (paired m)))
tcoeff_after true esc m = steady_done
tcoeff_after false true m = steady_any (steady_then (steady_field 6) (λ run. steady_map (λ code. sent (coefficient run code)) (steady_field 8)))
tcoeff_after false false m = steady_any (steady_map (λ s. sent (coefficient (m / 16) (signed_code s (m % 16)))) (steady_field 1))

tcoeff_stands : {bound bound' : ℕ} (table : CodeTable) → Good table → Steady backwards false bound bound' 1 (tcoeff table) (tcoeff table)
unfolding tcoeff
tcoeff_stands table g = steady_whole (steady_then (word_stands table g) (λ m. tcoeff_after (eqb m end_of_block) (eqb m escape) m))

tcoeff_near : (table : CodeTable) → Near 0 (tcoeff table)
unfolding tcoeff
tcoeff_near table = whole_near (word table >>= λ m. pick (eqb m end_of_block) (done over) (pick (eqb m escape) escaped (paired m)))

placed_stands : {bound bound' : ℕ} (room : ℕ) (table : CodeTable) → Good table → Steady backwards false bound bound' 1 (judged_read (coefficient_read table) (fits room)) (judged_read (coefficient_read table) (fits room))
unfolding coefficient_read
placed_stands room table g =
    judged_one (fits room) (lit≤ tt) (judged_near allowed (tcoeff_near table)) (judged_one allowed (lit≤ tt) (tcoeff_near table) (tcoeff_stands table g))

coefficients_after_move : {bound : ℕ} (more : ℕ → Reader Block) (room : ℕ) (e : Event) → ((room : ℕ) → Moves bound 0 (more room)) → Moves bound 0 (coefficients_after more room e)
coefficients_after_move {bound} more room (sent c) h = moves_bind {rest = bound} (λ n l. omega arith) (h (room - suc c.run)) (λ rest. moves_done)
coefficients_after_move more room over h = moves_done

coefficients_move : (turns room : ℕ) (table : CodeTable) → Good table → Moves turns 0 (coefficients turns room table)
unfolding coefficients
coefficients_move zero room table g = moves_never
coefficients_move (suc turns) room table g =
    moves_weaker zero-le
    (moves_turn (placed_stands {bound = suc turns} {bound' = suc turns} room table g).here
    (λ e. coefficients_after_move (λ left. coefficients turns left later_table5) room e (λ left. coefficients_move turns left later_table5 later_good)))

coefficients_after_lem : {bound bound' : ℕ} (more more' : ℕ → Reader Block) (room : ℕ) (e : Event) → ((room : ℕ) → Steady backwards false bound bound' 0 (more room) (more' room))
    → Steady backwards false bound bound' 0 (coefficients_after more room e) (coefficients_after more' room e)
coefficients_after_lem more more' room (sent c) h = steady_map (λ rest. c ∷ rest) (h (room - suc c.run))
coefficients_after_lem more more' room over h = steady_done

coefficients_stand : (turns turns' room : ℕ) (table : CodeTable) → Good table → Steady backwards false turns turns' 0 (coefficients turns room table) (coefficients turns' room table)
unfolding coefficients
coefficients_stand zero turns' room table g = steady_never (coefficients_move turns' room table g)
coefficients_stand (suc turns) zero room table g = steady_none (coefficients_move (suc turns) room table g)
coefficients_stand (suc turns) (suc turns') room table g =
    steady_any (steady_turn (placed_stands room table g)
    (λ e. coefficients_after_lem (λ left. coefficients turns left later_table5) (λ left. coefficients turns' left later_table5) room e (λ left. coefficients_stand turns turns' left later_table5 later_good)))

-- ---- blocks
dc_stands : {bound bound' : ℕ} → Steady backwards false bound bound' 8 dc_read dc_read
dc_stands = judged_one (λ code. pick (forbidden code) (against Forbidden) (fine code)) (lit≤ tt) (field_near 8) (steady_field 8)

block_stands : {bound bound' : ℕ} (intra : Bool) → Steady backwards false bound bound' 0 (pick intra intra_block inter_block) (pick intra intra_block inter_block)
unfolding intra_block inter_block
block_stands true = steady_any (steady_then dc_stands (λ dc. steady_map _ (steady_loop (λ turns turns'. coefficients_stand turns turns' 63 later_table5 later_good))))
block_stands false = steady_loop (λ turns turns'. coefficients_stand turns turns' 64 first_table5 first_good)

blocks_stand : {bound bound' : ℕ} (intra : Bool) (pattern : List Bit) → Steady backwards false bound bound' 0 (blocks_read intra pattern) (blocks_read intra pattern)
unfolding blocks_read
blocks_stand intra [] = steady_done
blocks_stand intra (bit0 ∷ pattern) = steady_map _ (blocks_stand intra pattern)
blocks_stand intra (bit1 ∷ pattern) = steady_then (block_stands intra) (λ block. steady_map _ (blocks_stand intra pattern))

-- ---- vectors
table3_good : Good table3
unfolding table3
table3_good = ((tt, tt), tt)

table3-short : T (short 11 table3.entries)
unfolding table3
table3-short = tt

component_stands : {bound bound' : ℕ} (before : ℤ) → Steady backwards false bound bound' 1 (component_read before) (component_read before)
unfolding component_read
component_stands before = judged_one (λ n. component before (pair_of n)) (lit≤ tt) (word_near table3) (word_stands table3 table3_good)

component_near : (before : ℤ) → Near 0 (component_read before)
unfolding component_read
component_near before = judged_near (λ n. component before (pair_of n)) (word_near table3)

-- a component ends within 11 bits
component_short : (before : ℤ) (bs : List Bit) (at : ℕ) (z : ℤ) (left : List Bit) (p : ℕ) → component_read {P = plain} before bs at ≡ got z left p → p ≤ at + 11
unfolding component_read
component_short before bs at z left p e = from (word table3 bs at) refl e
  where
    by : (n : ℕ) (rest : List Bit) (q : ℕ) → q ≤ at + 11 → (j : Judged ℤ) → settle {P = plain} at j rest q ≡ got z left p → p ≤ at + 11
    by n rest q l (fine y) e = let same : q ≡ p = cc in omega arith
    by n rest q l (against reason) e = absurd (let z : ◌≡◌ {A = ℕ} 0 1 = cc in omega arith)

    from : (x : Read ℕ) → word table3 bs at ≡ x → next x (λ n. settle at (component before (pair_of n))) ≡ got z left p → p ≤ at + 11
    from (got n rest q) w e = by n rest q (word-short 11 table3 bs at n rest q table3-short w) (component before (pair_of n)) e
    from (refused why) w e = absurd (let z : ◌≡◌ {A = ℕ} 0 1 = cc in omega arith)
    from endless w e = absurd (let z : ◌≡◌ {A = ℕ} 0 1 = cc in omega arith)

components_stand : {bound bound' : ℕ} (before : Vector) → Steady backwards false bound bound' 1 (components_read before) (components_read before)
unfolding components_read
components_stand before = steady_then (component_stands before.horizontal) (λ h. steady_map _ (component_stands before.vertical))

components_near : (before : Vector) → Near 11 (components_read before)
unfolding components_read
components_near before = record { near = λ bs at why e. from bs at why (component_read before.horizontal bs at) refl e }
  where
    down : (across : ℤ) (at p : ℕ) (left : List Bit) (why : Refusal) → p ≤ at + 11 → (y : Read ℤ) → component_read before.vertical left p ≡ y
        → next {B = Vector} y (λ v. done (record { horizontal = across; vertical = v })) ≡ refused why → why.place ≤ at + 11
    down across at p left why l (got v rest q) w e = absurd (let z : ◌≡◌ {A = ℕ} 0 1 = cc in omega arith)
    down across at p left why l (refused r) w e =
        let same : r ≡ why = cc in let there : r.place ≤ p + 0 = (component_near before.vertical).near left p r w in omega (arith, ap (λ (x : Refusal). x.place) same)
    down across at p left why l endless w e = absurd (let z : ◌≡◌ {A = ℕ} 0 1 = cc in omega arith)

    from : (bs : List Bit) (at : ℕ) (why : Refusal) (x : Read ℤ) → component_read before.horizontal bs at ≡ x
        → next {B = Vector} x (λ h. component_read before.vertical >>= λ v. done (record { horizontal = h; vertical = v })) ≡ refused why → why.place ≤ at + 11
    from bs at why (got h left p) w e =
        down h at p left why (component_short before.horizontal bs at h left p w) (component_read before.vertical left p) refl e
    from bs at why (refused r) w e =
        let same : r ≡ why = cc in let there : r.place ≤ at + 0 = (component_near before.horizontal).near bs at r w in omega (arith, ap (λ (x : Refusal). x.place) same)
    from bs at why endless w e = absurd (let z : ◌≡◌ {A = ℕ} 0 1 = cc in omega arith)

vector_stands : {bound bound' : ℕ} (f : Format) (number address : ℕ) (before : Vector) → Steady backwards false bound bound' 1 (vector_read f number address before) (vector_read f number address before)
unfolding vector_read Rattle.refusals.specs.Number.number
vector_stands f number address before =
    steady_judged (pointing f number address) (lit≤ tt) (components_stand before) (components_near before) (λ v reason e. far (in_picture f number address v) v reason e)
  where
    far : (t : Bool) (v : Vector) (reason : Reason) → pick t (fine v) (against VectorOut) ≡ against reason → 11 ≤ backwards reason
    far true v reason e = absurd (let z : ◌≡◌ {A = ℕ} 0 1 = cc in omega arith)
    far false v reason e = let same : VectorOut ≡ reason = cc in subst (λ (x : Reason). 11 ≤ backwards x) same (lit≤ tt)

-- ---- macroblocks
table1_good : Good table1
unfolding table1
table1_good = ((tt, tt), tt)

table2_good : Good table2
unfolding table2
table2_good = ((tt, tt), tt)

table4_good : Good table4
unfolding table4
table4_good = ((tt, tt), tt)

macroblock_stands : {bound bound' : ℕ} (f : Format) (number : ℕ) (before : Before) (s : ℕ) → Steady backwards false bound bound' 1 (macroblock f number before s) (macroblock f number before s)
unfolding macroblock
macroblock_stands f number before s =
    steady_then (word_stands table2 table2_good)
    (λ type. steady_then (optional_stands (has_mquant type) 0 quantiser_stands)
    (λ mquant. steady_then (optional_stands (is_mc type) zero_vector (vector_stands f number (before.address + s) (preceding before s)))
    (λ vector. steady_then (optional_stands (has_cbp type) (pick (is_intra type) 63 0) (word_stands table4 table4_good))
    (λ pattern. steady_map _ (blocks_stand (is_intra type) (bits_of 6 pattern))))))

mba_stands : {bound bound' : ℕ} (last : Bool) (address : ℕ) → Steady backwards false bound bound' 1 (judged_read (word table1) (mba_of last address)) (judged_read (word table1) (mba_of last address))
mba_stands last address = judged_one (mba_of last address) (lit≤ tt) (word_near table1) (word_stands table1 table1_good)

macroblocks_after_move : {bound : ℕ} (more : Before → Reader (List Macroblock)) (f : Format) (number : ℕ) (before : Before) (x : Mba)
    → ((before : Before) → Moves bound 0 (more before)) → Moves bound 0 (macroblocks_after more f number before x)
macroblocks_after_move {bound} more f number before (step s) h =
    moves_weaker zero-le (moves_bind (λ n l. omega arith) (macroblock_stands {bound = bound} {bound' = bound} f number before s).here
    (λ x. moves_bind {rest = bound} (λ n l. omega arith) (h (before_next x)) (λ xs. moves_done)))
macroblocks_after_move more f number before stuffed h = h before
macroblocks_after_move more f number before ended h = moves_done

macroblocks_move : (turns : ℕ) (f : Format) (last : Bool) (number : ℕ) (before : Before) → Moves turns 0 (macroblocks_from turns f last number before)
unfolding macroblocks_from mba
macroblocks_move zero f last number before = moves_never
macroblocks_move (suc turns) f true number before =
    moves_or_end ended (judged_read (word table1) (mba_of true before.address)) (macroblocks_after (macroblocks_from turns f true number) f number before) moves_done
    (moves_weaker zero-le
    (moves_turn (mba_stands {bound = suc turns} {bound' = suc turns} true before.address).here
    (λ x. macroblocks_after_move (macroblocks_from turns f true number) f number before x (macroblocks_move turns f true number))))
macroblocks_move (suc turns) f false number before =
    moves_weaker zero-le
    (moves_turn (mba_stands {bound = suc turns} {bound' = suc turns} false before.address).here
    (λ x. macroblocks_after_move (macroblocks_from turns f false number) f number before x (macroblocks_move turns f false number)))

macroblocks_after_lem : {bound bound' : ℕ} (more more' : Before → Reader (List Macroblock)) (f : Format) (number : ℕ) (before : Before) (x : Mba)
    → ((before : Before) → Steady backwards true bound bound' 0 (more before) (more' before))
    → Steady backwards true bound bound' 0 (macroblocks_after more f number before x) (macroblocks_after more' f number before x)
macroblocks_after_lem more more' f number before (step s) h =
    steady_any (steady_then (steady_open (macroblock_stands f number before s)) (λ x. steady_map (λ xs. x ∷ xs) (h (before_next x))))
macroblocks_after_lem more more' f number before stuffed h = h before
macroblocks_after_lem more more' f number before ended h = steady_done

macroblocks_stand : (turns turns' : ℕ) (f : Format) (last : Bool) (number : ℕ) (before : Before)
    → Steady backwards true turns turns' 0 (macroblocks_from turns f last number before) (macroblocks_from turns' f last number before)
unfolding macroblocks_from mba
macroblocks_stand zero turns' f last number before = steady_never (macroblocks_move turns' f last number before)
macroblocks_stand (suc turns) zero f last number before = steady_none (macroblocks_move (suc turns) f last number before)
macroblocks_stand (suc turns) (suc turns') f true number before =
    steady_or_end ended (judged_read (word table1) (mba_of true before.address)) (macroblocks_after (macroblocks_from turns f true number) f number before)
    (macroblocks_after (macroblocks_from turns' f true number) f number before) steady_done
    (steady_any (steady_turn (steady_open (mba_stands true before.address))
    (λ x. macroblocks_after_lem (macroblocks_from turns f true number) (macroblocks_from turns' f true number) f number before x (macroblocks_stand turns turns' f true number))))
macroblocks_stand (suc turns) (suc turns') f false number before =
    steady_any (steady_turn (steady_open (mba_stands false before.address))
    (λ x. macroblocks_after_lem (macroblocks_from turns f false number) (macroblocks_from turns' f false number) f number before x (macroblocks_stand turns turns' f false number)))

-- ---- groups, and the picture
group_head_stands : {bound bound' : ℕ} (number : ℕ) → Steady backwards false bound bound' 4 (group_head number) (group_head number)
unfolding group_head
group_head_stands number =
    steady_then (expect_stands 4 number OtherGroup (lit≤ tt)) (λ gn. steady_then quantiser_stands (λ gquant. steady_map _ spares_stand))

group_stands : {bound bound' : ℕ} (f : Format) (last : Bool) (number : ℕ) → Steady backwards true bound bound' 4 (group f last number) (group f last number)
unfolding group
group_stands f last number =
    steady_then (steady_open (group_head_stands number)) (λ gquant. steady_map _ (steady_loop (λ turns turns'. macroblocks_stand turns turns' f last number at_start)))

groups_stand : {bound bound' : ℕ} (f : Format) (numbers : List ℕ) → Steady backwards true bound bound' 0 (groups_read f numbers) (groups_read f numbers)
unfolding groups_read
groups_stand f [] = steady_done
groups_stand f (number ∷ numbers) = steady_any (steady_then (group_stands f (none numbers) number) (λ x. steady_map _ (groups_stand f numbers)))

header_stands : {bound bound' : ℕ} (f : Format) → Steady backwards false bound bound' 20 (header f) (header f)
unfolding header
header_stands f =
    steady_then (expect_stands 20 16 NoStartCode (lit≤ tt))
    (λ psc. steady_then (steady_field 5)
    (λ tr. steady_then (judged_one (ptype_of f) (lit≤ tt) (field_near 6) (steady_field 6))
    (λ ptype. steady_then spares_stand (λ dropped. steady_map _ (expect_stands 16 1 NoStartCode (lit≤ tt))))))

pub picture_stands : {bound bound' : ℕ} (f : Format) → Steady backwards true bound bound' 20 (picture f) (picture f)
unfolding picture
picture_stands f = steady_then (steady_open (header_stands f)) (λ head. steady_map _ (groups_stand f (group_numbers f)))
