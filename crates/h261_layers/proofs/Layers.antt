-- What each layer of the grammar reads, by the logic of reads: every loop ends, every refusal is of the table, and what is accepted is proper. Assumes nothing.
use Prim.Native.Nat.{ℕ, zero, suc, ◌+◌, ◌-◌, ◌/◌, ◌%◌, ◌≤◌, ◌<◌}
use mathlib.Core.Path.{◌≡◌, refl, sym, ap, subst}
use mathlib.Core.Bool.{Bool, true, false}
use mathlib.Core.List.{List, [], ◌∷◌}
use native.Mathlib.Omega.{arith}
use lib.Dec.{T, leb, ltb, eqb, leb→le, lit≤}
use lib.ListN.{length}
use lib.IntN.{ℤ, ◌+ℤ◌}
use borrow.Author.Tests.{leb-false, ltb-false}
use Rattle.laws.specs.Choice.{pick, both, opposite}
use Rattle.laws.proofs.Choice.{both_left, both_right}
use Rattle.refusals.specs.declared.Reason.{Reason}
use Rattle.refusals.specs.declared.Reason.TheVariants.{NoStartCode, OtherFormat, OtherGroup, AddressPast, Forbidden, CoefficientPast, AfterLast, VectorOut}
use Rattle.refusals.specs.Number.{number}
use Rattle.bits.specs.Bits.{Bit, bit0, bit1, bits_of}
use Rattle.bits.specs.Places.{Places}
use Rattle.bits.specs.Read.{field, ReaderIn, AnyReader, fine, against, judged_read}
use Rattle.bits.specs.Code.{CodeTable, word}
use Rattle.bits.proofs.Codes.{each}
use Rattle.bits.proofs.Logic.{Reads, reads_any, reads_done, reads_then, reads_turn, reads_map, reads_loop, reads_never, Judges, Makes, makes_field, makes_word, makes_then, makes_map, makes_judged, reads_judged, reads_judged_both, took_none, no_reads, judges_pick, judges_fine, judges_against, reads_field, reads_word, reads_or_end}
use Rattle.fields.proofs.RuleReads.{expect_reads, quantiser_reads, spares_reads}
use Rattle.h261_words.specs.Tables.{table1, table2, table3, table4, first_table5, later_table5, stuffing, start_code}
use Rattle.h261_words.specs.Words.{is_intra, is_mc, has_mquant, has_cbp, Event, sent, over, coefficient_read}
use Rattle.layout.specs.Value.{coefficient, Vector, zero_vector, Block, Macroblock}
use Rattle.layout.specs.Numbers.{forbidden, is_code, within, is_quantiser}
use Rattle.layout.proofs.Codes.{code_of}
use Rattle.h261_words.proofs.WordReads.{meant, first_meanings, later_meanings, Allowed, makes_coefficient, coefficient_reads}
use Rattle.h261_groups.specs.Format.{format_bit, group_numbers}
use Rattle.h261_groups.specs.declared.Format.{Format}
use Rattle.h261_groups.specs.declared.Format.TheVariants.{Qcif, Cif}
use Rattle.h261_description.specs.Vector.{in_range, in_picture, Before, at_start, preceding}
use Rattle.h261_description.specs.Value.{before_next}
use Rattle.layout.specs.Proper.{If, Each, Fits, Begins, all_empty, RisingTo}
use Rattle.h261_description.specs.Proper.{ProperBlocks, ProperVector, ProperMacroblock, ProperGroup, ProperGroups, Proper}
use Rattle.h261_layers.specs.Vector.{pair_of, landing, component, component_read, components_read, vector_read}
use Rattle.fields.specs.Rules.{optional}
use Rattle.h261_layers.specs.Grammar.{fits, coefficients_after, coefficients, dc_read, intra_block, inter_block, blocks_read, pattern_read, macroblock, Mba, step, stuffed, ended, mba_of, mba, macroblocks_after, macroblocks_from, group_head, group, groups_read, ptype_of, header, picture}

-- a read that the type may leave out
pub optional_reads : {A : Type 0} {bound least : ℕ} {Good : A → Type 0} {r : AnyReader A} (t : Bool) (a : A)
    → (T t → Reads bound least (λ a left. Good a) r) → Reads bound 0 (λ b left. If t (Good b) (b ≡ a)) (λ P. optional t a (r P))
optional_reads true a h = reads_any (h tt)
optional_reads false a h = reads_done (λ left. refl)

-- ---- coefficients
-- an allowed coefficient with room for it; EOB where it may come
abbrev pub Placed : Bool → ℕ → Event → Type 0
Placed ends room (sent c) = (c.run < room) × T (is_code c.code)
Placed ends room over = T ends

judges_fits : (ends : Bool) (room : ℕ) (e : Event) → Allowed ends e → Judges (Placed ends room) (fits room e)
unfolding number
judges_fits ends room (sent c) h =
    judges_pick (leb room c.run) (λ y. judges_against CoefficientPast tt) (λ n. judges_fine (sent c) (leb-false room c.run n, h))
judges_fits ends room over h = judges_fine over h

placed_reads : {bound : ℕ} (ends : Bool) (room : ℕ) (table : CodeTable) → T (each (meant ends) table.entries)
    → Reads bound 1 (λ e left. Placed ends room e) (λ P. judged_read (coefficient_read table) (fits room))
placed_reads ends room table t = reads_judged (makes_coefficient table) (coefficient_reads ends table t) (λ e left g. judges_fits ends room e g)

-- ---- blocks
-- a block that may be empty only where EOB may come first
abbrev Coming : Bool → Block → Type 0
Coming ends [] = T ends
Coming ends (c ∷ cs) = Unit {0}

coefficients_after_lem : {bound : ℕ} (ends : Bool) (more : (P : Places) → ℕ → ReaderIn P Block) (room : ℕ) (e : Event)
    → ((room : ℕ) → Reads bound 0 (λ b left. Fits room b × Coming true b) (λ P. more P room)) → Placed ends room e
    → Reads bound 0 (λ b left. Fits room b × Coming ends b) (λ P. coefficients_after (more P) room e)
coefficients_after_lem ends more room (sent c) h p =
    reads_map (λ rest. c ∷ rest) (h (room - suc c.run)) (λ rest left g. ((p.0, p.1, g.0), tt))
coefficients_after_lem ends more room over h p = reads_done (λ left. (tt, p))

-- a turn reads a codeword
coefficients_read : (turns : ℕ) (ends : Bool) (room : ℕ) (table : CodeTable) → T (each (meant ends) table.entries)
    → Reads turns 0 (λ b left. Fits room b × Coming ends b) (λ P. coefficients turns room table)
unfolding coefficients
coefficients_read zero ends room table t = reads_never
coefficients_read (suc turns) ends room table t =
    reads_any
    (reads_turn (placed_reads ends room table t)
    (λ e left g. coefficients_after_lem ends (λ P left. coefficients turns left later_table5) room e (λ room. coefficients_read turns true room later_table5 later_meanings) g))

-- a block that is sent
abbrev pub Sent : Bool → Block → Type 0
Sent intra b = Fits 64 b × If intra (Begins b) (Coming false b)

dc_reads : {bound : ℕ} → Reads bound 8 (λ code left. T (is_code code)) (λ P. dc_read)
unfolding number
dc_reads =
    reads_judged (makes_field 8) (reads_field 8 tt)
    (λ code left l. judges_pick (forbidden code) (λ y. judges_against Forbidden tt) (λ n. judges_fine code (code_of code (omega arith) n)))

pub intra_reads : {bound : ℕ} → Reads bound 8 (λ b left. Sent true b) (λ P. intra_block)
unfolding intra_block
intra_reads =
    reads_then dc_reads
    (λ dc left d. reads_map (λ rest. coefficient 0 dc ∷ rest) (reads_loop (λ turns. coefficients_read turns true 63 later_table5 later_meanings))
    (λ rest left g. ((lit≤ tt, d, g.0), refl)))

pub inter_reads : {bound : ℕ} → Reads bound 0 (λ b left. Sent false b) (λ P. inter_block)
unfolding inter_block
inter_reads = reads_loop (λ turns. coefficients_read turns false 64 first_table5 first_meanings)

pub block_reads : {bound : ℕ} (intra : Bool) → Reads bound 0 (λ b left. Sent intra b) (λ P. pick intra intra_block inter_block)
block_reads true = reads_any intra_reads
block_reads false = inter_reads

-- the blocks that a pattern names are sent, the others empty
abbrev Patterned : Bool → List Bit → List Block → Type 0
Patterned intra [] [] = Unit {0}
Patterned intra [] (b ∷ bs) = ⊥
Patterned intra (x ∷ ps) [] = ⊥
Patterned intra (bit0 ∷ ps) (b ∷ bs) = (b ≡ []) × Patterned intra ps bs
Patterned intra (bit1 ∷ ps) (b ∷ bs) = Sent intra b × Patterned intra ps bs

pub blocks_read_lem : {bound : ℕ} (intra : Bool) (ps : List Bit) → Reads bound 0 (λ bs left. Patterned intra ps bs) (λ P. blocks_read intra ps)
unfolding blocks_read
blocks_read_lem intra [] = reads_done (λ left. tt)
blocks_read_lem intra (bit0 ∷ ps) = reads_map (λ rest. [] ∷ rest) (blocks_read_lem intra ps) (λ rest left g. (refl, g))
blocks_read_lem intra (bit1 ∷ ps) =
    reads_then (block_reads intra) (λ b left s. reads_map (λ rest. b ∷ rest) (blocks_read_lem intra ps) (λ rest left g. (s, g)))

-- ---- what a pattern says of the blocks
abbrev some : List Bit → Bool
some [] = false
some (bit0 ∷ ps) = some ps
some (bit1 ∷ ps) = true

abbrev every : List Bit → Bool
every [] = true
every (bit0 ∷ ps) = false
every (bit1 ∷ ps) = every ps

patterned_length : (intra : Bool) (ps : List Bit) (bs : List Block) → Patterned intra ps bs → length bs ≡ length ps
patterned_length intra [] [] h = refl
patterned_length intra [] (b ∷ bs) h = absurd h
patterned_length intra (x ∷ ps) [] h = absurd h
patterned_length intra (bit0 ∷ ps) (b ∷ bs) h = ap suc (patterned_length intra ps bs h.1)
patterned_length intra (bit1 ∷ ps) (b ∷ bs) h = ap suc (patterned_length intra ps bs h.1)

patterned_fits : (intra : Bool) (ps : List Bit) (bs : List Block) → Patterned intra ps bs → Each (Fits 64) bs
patterned_fits intra [] [] h = tt
patterned_fits intra [] (b ∷ bs) h = absurd h
patterned_fits intra (x ∷ ps) [] h = absurd h
patterned_fits intra (bit0 ∷ ps) (b ∷ bs) h = (rw h.0 tt, patterned_fits intra ps bs h.1)
patterned_fits intra (bit1 ∷ ps) (b ∷ bs) h = (h.0.0, patterned_fits intra ps bs h.1)

patterned_begins : (ps : List Bit) (bs : List Block) → T (every ps) → Patterned true ps bs → Each Begins bs
patterned_begins [] [] t h = tt
patterned_begins [] (b ∷ bs) t h = absurd h
patterned_begins (x ∷ ps) [] t h = absurd h
patterned_begins (bit0 ∷ ps) (b ∷ bs) t h = absurd t
patterned_begins (bit1 ∷ ps) (b ∷ bs) t h = (h.0.1, patterned_begins ps bs t h.1)

patterned_empty : (ps : List Bit) (bs : List Block) → Patterned false ps bs → all_empty bs ≡ opposite (some ps)
patterned_empty [] [] h = refl
patterned_empty [] (b ∷ bs) h = absurd h
patterned_empty (x ∷ ps) [] h = absurd h
patterned_empty (bit0 ∷ ps) (b ∷ bs) h = rw h.0 (patterned_empty ps bs h.1)
patterned_empty (bit1 ∷ ps) ([] ∷ bs) h = absurd h.0.1
patterned_empty (bit1 ∷ ps) ((c ∷ cs) ∷ bs) h = refl

-- "INTRA sends all six ..; other types those in CBP."
abbrev pub Pattern : ℕ → ℕ → Type 0
Pattern type pattern = If (has_cbp type) (T (some (bits_of 6 pattern))) (pattern ≡ pick (is_intra type) 63 0)

table4_meanings : T (each (λ m. some (bits_of 6 m)) table4.entries)
unfolding table4
table4_meanings = tt

pub pattern_reads : {bound : ℕ} (type : ℕ) → Reads bound 0 (λ pattern left. Pattern type pattern) (λ P. pattern_read type)
pattern_reads type = optional_reads (has_cbp type) (pick (is_intra type) 63 0) (λ t. reads_word (λ m. some (bits_of 6 m)) table4 table4_meanings)

-- an INTRA type has no CBP
abbrev pub typed : ℕ → Bool
typed type = both (within 1 10 type) (pick (is_intra type) (opposite (has_cbp type)) true)

pub table2_meanings : T (each typed table2.entries)
unfolding table2
table2_meanings = tt

opposite_twice : (b : Bool) → T b → T (opposite (opposite b))
opposite_twice true t = t
opposite_twice false t = t

coded_blocks : (intra cbp : Bool) (pattern : ℕ) (bs : List Block) → T (pick intra (opposite cbp) true)
    → If cbp (T (some (bits_of 6 pattern))) (pattern ≡ pick intra 63 0) → Patterned intra (bits_of 6 pattern) bs
    → If intra (Each Begins bs) (If cbp (T (opposite (all_empty bs))) (T (all_empty bs)))
coded_blocks true true pattern bs t p h = absurd t
coded_blocks true false pattern bs t p h = patterned_begins (bits_of 6 63) bs tt (subst (λ (n : ℕ). Patterned true (bits_of 6 n) bs) p h)
coded_blocks false true pattern bs t p h = rw (patterned_empty (bits_of 6 pattern) bs h) (opposite_twice (some (bits_of 6 pattern)) p)
coded_blocks false false pattern bs t p h = rw (patterned_empty (bits_of 6 0) bs (subst (λ (n : ℕ). Patterned false (bits_of 6 n) bs) p h)) tt

blocks_proper : (type pattern : ℕ) (bs : List Block) → T (typed type) → Pattern type pattern → Patterned (is_intra type) (bits_of 6 pattern) bs → ProperBlocks type bs
blocks_proper type pattern bs t p h =
    record {
      six = patterned_length (is_intra type) (bits_of 6 pattern) bs h;
      fitting = patterned_fits (is_intra type) (bits_of 6 pattern) bs h;
      coded = coded_blocks (is_intra type) (has_cbp type) pattern bs (both_right (within 1 10 type) (pick (is_intra type) (opposite (has_cbp type)) true) t) p h;
    }

-- ---- vectors
judges_landing : (a b : ℤ) → Judges (λ z. T (in_range z)) (landing a b)
unfolding number
judges_landing a b =
    judges_pick (in_range a) (λ y. judges_fine a y) (λ n. judges_pick (in_range b) (λ y. judges_fine b y) (λ n. judges_against VectorOut tt))

table3_meanings : T (each (λ m. true) table3.entries)
unfolding table3
table3_meanings = tt

pub component_reads : {bound : ℕ} (before : ℤ) → Reads bound 1 (λ z left. T (in_range z)) (λ P. component_read before)
unfolding component_read
component_reads before =
    reads_judged (makes_word table3) (reads_word (λ m. true) table3 table3_meanings)
    (λ n left g. judges_landing (before +ℤ (pair_of n).printed) (before +ℤ (pair_of n).other))

abbrev pub Ranged : Vector → Type 0
Ranged v = T (in_range v.horizontal) × T (in_range v.vertical)

pub components_read_lem : {bound : ℕ} (before : Vector) → Reads bound 1 (λ v left. Ranged v) (λ P. components_read before)
unfolding components_read
components_read_lem before =
    reads_then (component_reads before.horizontal)
    (λ h left hr. reads_map (λ v. record { horizontal = h; vertical = v }) (component_reads before.vertical) (λ v left vr. (hr, vr)))

-- both components are read
makes_components : (before : Vector) → Makes 2 (λ P. components_read before)
unfolding components_read component_read
makes_components before =
    makes_then (makes_judged (λ n. component before.horizontal (pair_of n)) (makes_word table3))
    (λ h. makes_map (λ v. record { horizontal = h; vertical = v }) (makes_judged (λ n. component before.vertical (pair_of n)) (makes_word table3)))

pub vector_reads : {bound : ℕ} (f : Format) (number address : ℕ) (before : Vector)
    → Reads bound 1 (λ v left. ProperVector f number address v) (λ P. vector_read f number address before)
unfolding vector_read Rattle.refusals.specs.Number.number
vector_reads f number address before =
    reads_judged_both (makes_components before) (components_read_lem before)
    (λ v left g. judges_pick (in_picture f number address v)
    (λ y. judges_fine v (record { horizontally = g.0; vertically = g.1; inside = y })) (λ n. judges_against VectorOut tt))
    (λ v reason e. out (in_picture f number address v) v reason e)
  where
    out : (t : Bool) (v : Vector) (reason : Reason) → pick t (fine v) (against VectorOut) ≡ against reason → Rattle.refusals.specs.Number.number reason ≡ 12
    out true v reason e = let z : ◌≡◌ {A = ℕ} 0 1 = cc in absurd (omega arith)
    out false v reason e = let z : VectorOut ≡ reason = cc in ap Rattle.refusals.specs.Number.number (sym z)

-- ---- macroblocks
pub macroblock_reads : {bound : ℕ} (f : Format) (number : ℕ) (before : Before) (s : ℕ)
    → Reads bound 1 (λ m left. (m.address ≡ before.address + s) × ProperMacroblock f number m) (λ P. macroblock f number before s)
unfolding macroblock
macroblock_reads f number before s =
    reads_then (reads_word typed table2 table2_meanings)
    (λ type left t. reads_then (optional_reads (has_mquant type) 0 (λ y. quantiser_reads))
    (λ mquant left q. reads_then (optional_reads (is_mc type) zero_vector (λ y. vector_reads f number (before.address + s) (preceding before s)))
    (λ vector left v. reads_then (pattern_reads type)
    (λ pattern left p. reads_map
    (λ blocks. record { address = before.address + s; type = type; quant = mquant; vector = vector; blocks = blocks })
    (blocks_read_lem (is_intra type) (bits_of 6 pattern))
    (λ blocks left b. (
      refl,
      record {
        typed = both_left (within 1 10 type) (pick (is_intra type) (opposite (has_cbp type)) true) t;
        quantised = q;
        pointed = v;
        blocked = blocks_proper type pattern blocks t p b;
      },
    ))))))

-- what stands at an MBA place: a step to an address up to 33; the end, but not by a start code in the last group
abbrev pub Met : Bool → ℕ → Mba → Type 0
Met last address (step s) = (1 ≤ s) × (address + s ≤ 33)
Met last address stuffed = Unit {0}
Met last address ended = T (opposite last)

judges_mba : (last : Bool) (address m : ℕ) → 1 ≤ m → Judges (Met last address) (mba_of last address m)
unfolding number
judges_mba last address m some =
    judges_pick (eqb m stuffing) (λ y. judges_fine stuffed tt)
    (λ n. judges_pick (eqb m start_code) (λ y. start last)
    (λ n. judges_pick (ltb 33 (address + m)) (λ y. judges_against AddressPast tt) (λ n. judges_fine (step m) (some, ltb-false 33 (address + m) n))))
  where
    start : (last : Bool) → Judges (Met last address) (pick last (against AfterLast) (fine ended))
    start true = judges_against AfterLast tt
    start false = judges_fine ended tt

table1_meanings : T (each (leb 1) table1.entries)
unfolding table1
table1_meanings = tt

pub mba_reads : {bound : ℕ} (last : Bool) (address : ℕ) → Reads bound 1 (λ x left. Met last address x) (λ P. judged_read (word table1) (mba_of last address))
mba_reads last address = reads_judged (makes_word table1) (reads_word (leb 1) table1 table1_meanings) (λ m left g. judges_mba last address m (leb→le 1 m g))

-- in the last group no bit is left after the macroblocks
abbrev pub Ended : Bool → List Bit → Type 0
Ended last left = If last (left ≡ []) (Unit {0})

-- proper macroblocks at rising addresses, past `last` and up to 33
abbrev pub Rising : Format → ℕ → ℕ → List Macroblock → Type 0
Rising f number = RisingTo (ProperMacroblock f number) 33

macroblocks_after_lem : {bound : ℕ} (more : (P : Places) → Before → ReaderIn P (List Macroblock)) (f : Format) (last : Bool) (number : ℕ) (before : Before) (x : Mba)
    → ((before : Before) → Reads bound 0 (λ ms left. Rising f number before.address ms × Ended last left) (λ P. more P before)) → Met last before.address x
    → Reads bound 0 (λ ms left. Rising f number before.address ms × Ended last left) (λ P. macroblocks_after (more P) f number before x)
macroblocks_after_lem more f last number before (step s) h m =
    reads_any (reads_then (macroblock_reads f number before s)
    (λ x left g. reads_map (λ xs. x ∷ xs) (h (before_next x)) (λ xs left r. ((rise x.address g.0 m.0, limit x.address g.0 m.1, g.1, r.0), r.1))))
  where
    rise : (address : ℕ) → address ≡ before.address + s → 1 ≤ s → before.address < address
    rise address e l = omega arith

    limit : (address : ℕ) → address ≡ before.address + s → before.address + s ≤ 33 → address ≤ 33
    limit address e l = omega arith
macroblocks_after_lem more f last number before stuffed h m = h before
macroblocks_after_lem more f true number before ended h m = absurd m
macroblocks_after_lem more f false number before ended h m = reads_done (λ left. (tt, tt))

-- a turn reads a codeword of Table 1, or ends the last group
macroblocks_from_lem : (turns : ℕ) (f : Format) (last : Bool) (number : ℕ) (before : Before)
    → Reads turns 0 (λ ms left. Rising f number before.address ms × Ended last left) (λ P. macroblocks_from turns f last number before)
unfolding macroblocks_from mba
macroblocks_from_lem zero f last number before = reads_never
macroblocks_from_lem (suc turns) f true number before =
    reads_or_end ended (λ P. judged_read (word table1) (mba_of true before.address)) (λ P. macroblocks_after (macroblocks_from turns f true number) f number before)
    (λ at. (took_none [] at.bit, no_reads at, (tt, refl))) (λ P at. refl)
    (reads_any (reads_turn (mba_reads true before.address) (λ x left g. macroblocks_after_lem (λ P. macroblocks_from turns f true number) f true number before x (macroblocks_from_lem turns f true number) g)))
macroblocks_from_lem (suc turns) f false number before =
    reads_any (reads_turn (mba_reads false before.address) (λ x left g. macroblocks_after_lem (λ P. macroblocks_from turns f false number) f false number before x (macroblocks_from_lem turns f false number) g))

-- ---- groups
pub group_head_reads : {bound : ℕ} (number : ℕ) → Reads bound 4 (λ q left. T (is_quantiser q)) (λ P. group_head number)
unfolding group_head Rattle.refusals.specs.Number.number
group_head_reads number =
    reads_then (expect_reads 4 number OtherGroup tt tt)
    (λ gn left g. reads_then quantiser_reads (λ q left t. reads_map (λ dropped. q) spares_reads (λ dropped left g. t)))

group_reads : {bound : ℕ} (f : Format) (last : Bool) (number : ℕ)
    → Reads bound 4 (λ x left. ProperGroup f number x × Ended last left) (λ P. group f last number)
unfolding group
group_reads f last number =
    reads_then (group_head_reads number)
    (λ q left t. reads_map (λ ms. record { gquant = q; macroblocks = ms }) (reads_loop (λ turns. macroblocks_from_lem turns f last number at_start))
    (λ ms left g. ((t, g.0), g.1)))

-- after the last of the groups no bit is left
groups_read_lem : {bound : ℕ} (f : Format) (number : ℕ) (numbers : List ℕ)
    → Reads bound 0 (λ xs left. ProperGroups f (number ∷ numbers) xs × (left ≡ [])) (λ P. groups_read f (number ∷ numbers))
unfolding groups_read
groups_read_lem f number [] =
    reads_any (reads_map (λ x. x ∷ []) (group_reads f true number) (λ x left g. ((g.0, tt), g.1)))
groups_read_lem f number (second ∷ numbers) =
    reads_any (reads_then (group_reads f false number)
    (λ x left g. reads_map (λ xs. x ∷ xs) (groups_read_lem f second numbers) (λ xs left r. ((g.0, r.0), r.1))))

all_groups_read : {bound : ℕ} (f : Format) → Reads bound 0 (λ xs left. ProperGroups f (group_numbers f) xs × (left ≡ [])) (λ P. groups_read f (group_numbers f))
all_groups_read Qcif = groups_read_lem Qcif 1 (3 ∷ 5 ∷ [])
all_groups_read Cif = groups_read_lem Cif 1 (2 ∷ 3 ∷ 4 ∷ 5 ∷ 6 ∷ 7 ∷ 8 ∷ 9 ∷ 10 ∷ 11 ∷ 12 ∷ [])

-- ---- the picture
pub ptype_reads : {bound : ℕ} (f : Format) → Reads bound 6 (λ x left. x ≤ 7) (λ P. judged_read (field 6) (ptype_of f))
unfolding number
ptype_reads f =
    reads_judged (makes_field 6) (reads_field 6 tt)
    (λ x left l. judges_pick (both (eqb (x / 4 % 2) (format_bit f)) (eqb (x / 2 % 2) 1)) (λ y. judges_fine (x / 8) (eighth x l)) (λ n. judges_against OtherFormat tt))
  where
    eighth : (x : ℕ) → x < 64 → x / 8 ≤ 7
    eighth x l = omega arith

pub header_reads : {bound : ℕ} (f : Format) → Reads bound 20 (λ h left. (h.tr ≤ 31) × (h.ptype ≤ 7)) (λ P. header f)
unfolding header number
header_reads f =
    reads_then (expect_reads 20 16 NoStartCode tt tt)
    (λ psc left g. reads_then (reads_field 5 tt)
    (λ tr left t. reads_then (ptype_reads f)
    (λ ptype left p. reads_then spares_reads
    (λ dropped left g. reads_map (λ gbsc. record { tr = tr; ptype = ptype }) (expect_reads 16 1 NoStartCode tt tt) (λ gbsc left g. (small tr t, p))))))
  where
    small : (x : ℕ) → x < 32 → x ≤ 31
    small x l = omega arith

pub picture_reads : {bound : ℕ} (f : Format) → Reads bound 20 (λ p left. Proper f p × (left ≡ [])) (λ P. picture f)
unfolding picture
picture_reads f =
    reads_then (header_reads f)
    (λ head left h. reads_map (λ groups. record { tr = head.tr; ptype = head.ptype; groups = groups }) (all_groups_read f)
    (λ groups left g. (record { reference = h.0; typed = h.1; grouped = g.0 }, g.1)))
