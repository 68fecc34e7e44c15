-- What each layer of the grammar reads, by the logic of reads: every loop ends, every refusal is of the table, and what is accepted is proper. Assumes nothing.
use Prim.Native.Nat.{ℕ, zero, suc, ◌+◌, ◌-◌, ◌*◌, ◌≤◌, ◌<◌, zero-le}
use mathlib.Core.Path.{◌≡◌, refl, sym, ap, subst, ◌∙◌}
use mathlib.Core.Bool.{Bool, true, false}
use mathlib.Core.List.{List, [], ◌∷◌, ◌++◌}
use native.Mathlib.Omega.{arith}
use borrow.Author.Tests.{leb-false, eqb-false, ne_eqb}
use lib.Dec.{T, leb, eqb, leb→le, le→leb, lit≤}
use lib.IntN.{ℤ, ◌+ℤ◌}
use lib.ListN.{length}
use Rattle.laws.specs.Choice.{pick, either, opposite}
use Rattle.laws.proofs.Choice.{both_right, both_make, either_right}
use Rattle.laws.proofs.Table.{all_at}
use Rattle.refusals.specs.declared.Reason.{Reason}
use Rattle.refusals.specs.declared.Reason.TheVariants.{BitsEnd, OtherGroup, NoCodeword, Forbidden, CoefficientPast, VectorOut}
use Rattle.refusals.specs.declared.Table.TheVariants.{McbpcInter}
use Rattle.refusals.specs.Number.{number}
use Rattle.bits.specs.Bits.{Bit, bit0, bit1, bits_of}
use Rattle.bits.specs.Places.{Places, seen_place, total_width}
use Rattle.bits.specs.Read.{ReaderIn, AnyReader, failed, ◌>>=◌, done, field, loop, fine, against, judged_read}
use Rattle.bits.specs.Code.{word}
use Rattle.bits.proofs.Seen.{seen_bit, seen_failed}
use Rattle.bits.proofs.Logic.{of_bits, Reads, reads_any, reads_weaker, reads_done, reads_then, reads_turn, reads_map, reads_loop, reads_never, Judges, Makes, makes_field, makes_word, makes_then, makes_map, makes_judged, reads_judged, reads_judged_both, judges_pick, judges_fine, judges_against, reads_field}
use Rattle.size.specs.declared.Size.{Size}
use Rattle.size.specs.Place.{macroblocks_across}
use Rattle.layout.specs.Value.{coefficient, Block, Vector, zero_vector, Macroblock}
use Rattle.layout.specs.Numbers.{within, is_quantiser, forbidden, is_code}
use Rattle.layout.specs.Proper.{If, Each, Fits, Begins, RisingTo}
use Rattle.layout.proofs.Codes.{code_of}
use Rattle.fields.specs.Rules.{optional}
use Rattle.fields.proofs.RuleReads.{expect_reads, quantiser_reads}
use Rattle.h263_words.specs.Tables.{mcbpc_of, mvd, stuffing}
use Rattle.h263_words.specs.Words.{is_intra, is_inter, has_dquant, type_in, chroma_in, is_four, turned, dquant_in, is_dquant, Event, event_read}
use Rattle.h263_words.proofs.Meanings.{kind_meant, KindFits, kind_fits}
use Rattle.h263_words.proofs.WordReads.{EventGood, makes_event, event_reads, mcbpc_reads, cbpy_reads, mvd_reads}
use Rattle.h263_description.specs.Vector.{in_range, in_picture, vectors_of, predictor}
use Rattle.h263_description.specs.Fields.{stands as standing}
use Rattle.h263_description.specs.Proper.{ProperVector, ProperMacroblock, ProperGquant, ProperGroups}
use Rattle.h263_description.proofs.Predictor.{Ranged}
use Rattle.h263_layers.specs.Vector.{pair_of, landing, component, component_read, components_read, vector_read}
use Rattle.h263_layers.specs.Start.{Ahead, stands, absent, cut_off, ahead}
use Rattle.h263_layers.specs.Grammar.{fits, events_after, events, dc_read, intra_block, inter_block, blocks_read, macroblock, Slot, unsent, coded, Found, stuffed, slot, found_of, found_after, found_read, head_fields, head_after, group_head, may_stand, Opened, opened_after, opened_from, opened, Row, row_with, row_after, row_from, groups_read}

-- ---- by a test
pub reads_pick : {A : Type 0} {bound least : ℕ} {Good : A → List Bit → Type 0} {r q : AnyReader A} (t : Bool)
    → (T t → Reads bound least Good r) → (t ≡ false → Reads bound least Good q) → Reads bound least Good (λ P. pick t (r P) (q P))
reads_pick true f g = f tt
reads_pick false f g = g refl

-- ---- coefficients
-- an allowed coefficient with room for it
abbrev Fitting : ℕ → Event → Type 0
Fitting room e = (e.sent.run < room) × T (is_code e.sent.code)

judges_fits : (room : ℕ) (e : Event) → EventGood e → Judges (Fitting room) (fits room e)
unfolding number
judges_fits room e h =
    judges_pick (leb room e.sent.run) (λ y. judges_against CoefficientPast tt) (λ n. judges_fine e (leb-false room e.sent.run n, h.code))

fitting_reads : {bound : ℕ} (room : ℕ) → Reads bound 1 (λ e left. Fitting room e) (λ P. judged_read event_read (fits room))
fitting_reads room = reads_judged makes_event event_reads (λ e left g. judges_fits room e g)

events_after_lem : {bound : ℕ} (more : (P : Places) → ℕ → ReaderIn P Block) (room : ℕ) (e : Event) → ((room : ℕ) → Reads bound 0 (λ b left. Fits room b) (λ P. more P room))
    → Fitting room e → Reads bound 0 (λ b left. Fits room b) (λ P. events_after (more P) room e)
events_after_lem more room e h p =
    reads_pick (eqb e.last 1) (λ y. reads_done (λ left. (p.0, p.1, tt)))
    (λ n. reads_map (λ rest. e.sent ∷ rest) (h (room - suc e.sent.run)) (λ rest left g. (p.0, p.1, g)))

-- a turn reads a codeword
events_read : (turns room : ℕ) → Reads turns 0 (λ b left. Fits room b) (λ P. events turns room)
unfolding events
events_read zero room = reads_never
events_read (suc turns) room =
    reads_any (reads_turn (fitting_reads room) (λ e left g. events_after_lem (λ P. events turns) room e (λ room. events_read turns room) g))

-- ---- blocks
pub block_events : {bound : ℕ} (room : ℕ) → Reads bound 0 (λ b left. Fits room b) (λ P. loop (λ turns. events turns room))
block_events room = reads_loop (λ turns. events_read turns room)

dc_reads : {bound : ℕ} → Reads bound 8 (λ code left. T (is_code code)) (λ P. dc_read)
unfolding number
dc_reads =
    reads_judged (makes_field 8) (reads_field 8 tt)
    (λ code left l. judges_pick (forbidden code) (λ y. judges_against Forbidden tt) (λ n. judges_fine code (code_of code (omega arith) n)))

-- a block of 64 places; an INTRA one begins with its DC code
abbrev pub BlockGood : Bool → Block → Type 0
BlockGood intra b = Fits 64 b × If intra (Begins b) (Unit {0})

pub block_reads : {bound : ℕ} (intra : Bool) (x : Bit) → Reads bound 0 (λ b left. BlockGood intra b) (λ P. pick intra (intra_block x) (inter_block x))
unfolding intra_block inter_block
block_reads true bit0 = reads_any (reads_map (λ dc. coefficient 0 dc ∷ []) dc_reads (λ dc left d. ((lit≤ tt, d, tt), refl)))
block_reads true bit1 = reads_any (reads_then dc_reads (λ dc left d. reads_map (λ rest. coefficient 0 dc ∷ rest) (block_events 63) (λ rest left g. ((lit≤ tt, d, g), refl))))
block_reads false bit0 = reads_done (λ left. (tt, tt))
block_reads false bit1 = reads_weaker (block_events 64) zero-le (λ b left g. (g, tt))

pub record BlocksGood (intra : Bool) (pattern : List Bit) (bs : List Block) : Type 0 where
  pub counted : length bs ≡ length pattern
  pub fitting : Each (Fits 64) bs
  pub begun : If intra (Each Begins bs) (Unit {0})

begun_none : (intra : Bool) → If intra (Unit {0}) (Unit {0})
begun_none true = tt
begun_none false = tt

begun_more : (intra : Bool) (b : Block) (bs : List Block) → If intra (Begins b) (Unit {0}) → If intra (Each Begins bs) (Unit {0}) → If intra (Begins b × Each Begins bs) (Unit {0})
begun_more true b bs h g = (h, g)
begun_more false b bs h g = tt

pub blocks_reads : {bound : ℕ} (intra : Bool) (pattern : List Bit) → Reads bound 0 (λ bs left. BlocksGood intra pattern bs) (λ P. blocks_read intra pattern)
unfolding blocks_read
blocks_reads intra [] = reads_done (λ left. record { counted = refl; fitting = tt; begun = begun_none intra })
blocks_reads intra (x ∷ pattern) =
    reads_then (block_reads intra x)
    (λ b left g. reads_map (λ rest. b ∷ rest) (blocks_reads intra pattern)
    (λ rest left h. record { counted = ap suc h.counted; fitting = (g.0, h.fitting); begun = begun_more intra b rest g.1 h.begun }))

-- ---- vectors
judges_landing : (a b : ℤ) → Judges (λ z. T (in_range z)) (landing a b)
unfolding number
judges_landing a b = judges_pick (in_range a) (λ y. judges_fine a y) (λ n. judges_pick (in_range b) (λ y. judges_fine b y) (λ n. judges_against VectorOut tt))

pub component_reads : {bound : ℕ} (predicted : ℤ) → Reads bound 1 (λ z left. T (in_range z)) (λ P. component_read predicted)
unfolding component_read
component_reads predicted =
    reads_judged (makes_word mvd) mvd_reads (λ n left l. judges_landing (predicted +ℤ (pair_of n).printed) (predicted +ℤ (pair_of n).other))

pub components_reads : {bound : ℕ} (predicted : Vector) → Reads bound 1 (λ v left. Ranged v) (λ P. components_read predicted)
unfolding components_read
components_reads predicted =
    reads_then (component_reads predicted.horizontal)
    (λ h left hr. reads_map (λ v. record { horizontal = h; vertical = v }) (component_reads predicted.vertical) (λ v left vr. record { horizontally = hr; vertically = vr }))

-- both components are read
makes_components : (predicted : Vector) → Makes 2 (λ P. components_read predicted)
unfolding components_read component_read
makes_components predicted =
    makes_then (makes_judged (λ n. component predicted.horizontal (pair_of n)) (makes_word mvd))
    (λ h. makes_map (λ v. record { horizontal = h; vertical = v }) (makes_judged (λ n. component predicted.vertical (pair_of n)) (makes_word mvd)))

pub vector_reads : {bound : ℕ} (size : Size) (number address : ℕ) (predicted : Vector)
    → Reads bound 1 (λ v left. ProperVector size number address v) (λ P. vector_read size number address predicted)
unfolding vector_read Rattle.refusals.specs.Number.number
vector_reads size number address predicted =
    reads_judged_both (makes_components predicted) (components_reads predicted)
    (λ v left g. judges_pick (in_picture size number address v)
    (λ y. judges_fine v (record { horizontally = g.horizontally; vertically = g.vertically; inside = y })) (λ n. judges_against VectorOut tt))
    (λ v reason e. out (in_picture size number address v) v reason e)
  where
    out : (t : Bool) (v : Vector) (reason : Reason) → pick t (fine v) (against VectorOut) ≡ against reason → Rattle.refusals.specs.Number.number reason ≡ 12
    out true v reason e = let z : ◌≡◌ {A = ℕ} 0 1 = cc in absurd (omega arith)
    out false v reason e = let z : VectorOut ≡ reason = cc in ap Rattle.refusals.specs.Number.number (sym z)

-- ---- reads that may be left out, and reads that fail
pub optional_reads : {A : Type 0} {bound least : ℕ} {Good : A → Type 0} {r : AnyReader A} (t : Bool) (a : A)
    → (T t → Reads bound least (λ a left. Good a) r) → Reads bound 0 (λ b left. If t (Good b) (b ≡ a)) (λ P. optional t a (r P))
optional_reads true a h = reads_any (h tt)
optional_reads false a h = reads_done (λ left. refl)

reads_failed : {A : Type 0} {bound least : ℕ} {Good : A → List Bit → Type 0} (reason : Reason) → T (of_bits reason) → Reads bound least Good (λ P bs at. failed reason at)
unfolding total_width
reads_failed reason t = record {
  lists = λ bs at b. (
    record { listed = t; within = omega arith },
    record {
      before = [];
      after = (at.bit - at.bit) ∷ [];
      widths = refl;
      few = omega arith;
      placed = omega arith;
      all = omega arith;
      last = tt;
      some = omega arith;
    },
  );
  sees = λ P bs at b. seen_failed P reason at;
}

-- ---- macroblocks
-- a type that the picture's type allows
abbrev pub Typed : Bool → ℕ → Type 0
Typed intra type = T (pick intra (is_intra type) (within 1 4 type))

pub dquant_reads : {bound : ℕ} → Reads bound 2 (λ q left. T (is_dquant q)) (λ P. field 2 >>= λ x. done (dquant_in x))
dquant_reads = reads_map dquant_in (reads_field 2 tt) (λ x left l. all_at 4 (λ x. is_dquant (dquant_in x)) tt x l)

-- a proper macroblock at its address
abbrev pub MacroblockGood : Size → Bool → ℕ → ℕ → Macroblock → Type 0
MacroblockGood size intra number address m = (m.address ≡ address) × ProperMacroblock size intra number m

pub macroblock_reads : {bound : ℕ} (size : Size) (intra : Bool) (number address : ℕ) (predicted : Vector) (kind : ℕ) → Typed intra (type_in kind)
    → Reads bound 1 (λ m left. MacroblockGood size intra number address m) (λ P. macroblock size number address predicted kind)
unfolding macroblock
macroblock_reads size intra number address predicted kind t =
    let type = type_in kind in
    reads_then cbpy_reads
    (λ luminance left g. reads_then (optional_reads (has_dquant type) 0 (λ y. dquant_reads))
    (λ dquant left q. reads_then (optional_reads (is_inter type) zero_vector (λ y. vector_reads size number address predicted))
    (λ vector left v. reads_map (λ blocks. record { address = address; type = type; quant = dquant; vector = vector; blocks = blocks })
    (blocks_reads (is_intra type) (bits_of 6 (turned (is_intra type) luminance * 4 + chroma_in kind)))
    (λ blocks left b. (refl, record { typed = t; quantised = q; pointed = v; blocked = record { six = b.counted; fitting = b.fitting; coded = b.begun } })))))

-- ---- where a macroblock begins
-- only a picture of type INTER has one that is unsent
abbrev pub SlotGood : Bool → Slot → Type 0
SlotGood intra unsent = T (opposite intra)
SlotGood intra (coded kind) = Typed intra (type_in kind)

abbrev pub FoundGood : Bool → Found → Type 0
FoundGood intra stuffed = Unit {0}
FoundGood intra (slot s) = SlotGood intra s

-- a word that is neither stuffing nor INTER4V has a type that the picture may have
kind_typed : (intra : Bool) (m : ℕ) → T (kind_meant intra m) → eqb m stuffing ≡ false → is_four m ≡ false → Typed intra (type_in m)
kind_typed intra m t n f = from intra (kind_fits intra m t (eqb-false m stuffing n))
  where
    other : (type : ℕ) → (type ≡ 5 → ⊥) → type ≤ 5 → type ≤ 4
    other type n l = omega arith

    from : (intra : Bool) → KindFits (pick intra 2 5) m → Typed intra (type_in m)
    from true h = either_right (eqb (type_in m) 0) (is_intra (type_in m)) (ne_eqb (type_in m) 0 (λ e. omega (arith, h.some))) (all_at 3 (λ k. either (eqb k 0) (is_intra k)) tt (type_in m) (omega (arith, h.known)))
    from false h =
        both_make (leb 1 (type_in m)) (leb (type_in m) 4) (le→leb 1 (type_in m) h.some) (le→leb (type_in m) 4 (other (type_in m) (eqb-false (type_in m) 5 f) h.known))

judges_found : (intra : Bool) (m : ℕ) → T (kind_meant intra m) → Judges (FoundGood intra) (found_of m)
unfolding number
judges_found intra m t =
    judges_pick (eqb m stuffing) (λ y. judges_fine stuffed tt)
    (λ n. judges_pick (is_four m) (λ y. judges_against (NoCodeword McbpcInter) tt) (λ f. judges_fine (slot (coded m)) (kind_typed intra m t n f)))

pub kind_found_reads : {bound : ℕ} (intra : Bool) → Reads bound 1 (λ f left. FoundGood intra f) (λ P. judged_read (word (mcbpc_of intra)) found_of)
kind_found_reads intra = reads_judged (makes_word (mcbpc_of intra)) (mcbpc_reads intra) (λ m left t. judges_found intra m t)

-- MCBPC, or COD, is a bit at least
pub found_reads : {bound : ℕ} (intra : Bool) → Reads bound 1 (λ f left. FoundGood intra f) (λ P. found_read intra)
unfolding found_read
found_reads true = kind_found_reads true
found_reads false = reads_then (reads_field 1 tt) (λ cod left l. after cod)
  where
    after : {bound : ℕ} (cod : ℕ) → Reads bound 0 (λ f left. FoundGood false f) (λ P. found_after cod)
    after zero = reads_any (kind_found_reads false)
    after (suc cod) = reads_done (λ left. tt)

-- ---- group headers
pub head_fields_reads : {bound : ℕ} (number : ℕ) → Reads bound 17 (λ q left. T (is_quantiser q)) (λ P. head_fields number)
unfolding head_fields Rattle.refusals.specs.Number.number
head_fields_reads number =
    reads_then (reads_field 17 tt)
    (λ gbsc left g. reads_then (expect_reads 5 number OtherGroup tt tt) (λ gn left g. reads_then (reads_field 2 tt) (λ gfid left g. quantiser_reads)))

head_after_reads : {bound : ℕ} (number : ℕ) (a : Ahead) → Reads bound 0 (λ q left. q ≤ 31) (λ P. head_after number a)
unfolding Rattle.refusals.specs.Number.number
head_after_reads number (stands zero) = reads_weaker (head_fields_reads number) zero-le (λ q left t. leb→le q 31 (both_right (leb 1 q) (leb q 31) t))
head_after_reads number (stands (suc gstuf)) =
    reads_any (reads_then (reads_field (suc gstuf) (le→leb 1 (suc gstuf) (omega arith)))
    (λ dropped left g. reads_weaker (head_fields_reads number) zero-le (λ q left t. leb→le q 31 (both_right (leb 1 q) (leb q 31) t))))
head_after_reads number absent = reads_done (λ left. lit≤ tt)
head_after_reads number cut_off = reads_failed BitsEnd tt

-- where no start code stands no bit is read
pub group_head_reads : {bound : ℕ} (number : ℕ) → Reads bound 0 (λ q left. q ≤ 31) (λ P. group_head number)
unfolding group_head
group_head_reads {bound} number = record {
  lists = λ bs at b. (head_after_reads {bound = bound} number (ahead bs at.bit)).lists bs at b;
  sees = λ P bs at b. ap (λ (q : ℕ). head_after number (ahead bs q) bs (seen_place P at)) (seen_bit P at) ∙ (head_after_reads {bound = bound} number (ahead bs at.bit)).sees P bs at b;
}

-- ---- the slot at an address
headed_good : (number address g q : ℕ) → ProperGquant number g → If (may_stand number address g) (q ≤ 31) (q ≡ g) → ProperGquant number q
headed_good zero address g q p h = h ∙ p
headed_good (suc number) address g q p h = go (may_stand (suc number) address g) h
  where
    go : (b : Bool) → If b (q ≤ 31) (q ≡ g) → q ≤ 31
    go true h = h
    go false h = rw h p

abbrev pub OpenedGood : Bool → ℕ → Opened → Type 0
OpenedGood intra number o = ProperGquant number o.gquant × SlotGood intra o.slot

opened_after_lem : {bound : ℕ} (intra : Bool) (number q : ℕ) (more : (P : Places) → ℕ → ReaderIn P Opened) (f : Found)
    → ((g : ℕ) → ProperGquant number g → Reads bound 0 (λ o left. OpenedGood intra number o) (λ P. more P g)) → ProperGquant number q → FoundGood intra f
    → Reads bound 0 (λ o left. OpenedGood intra number o) (λ P. opened_after (more P) q f)
opened_after_lem intra number q more stuffed h p g = h q p
opened_after_lem intra number q more (slot s) h p g = reads_done (λ left. (p, g))

-- a turn reads MCBPC, or COD
opened_from_lem : (turns : ℕ) (intra : Bool) (number address g : ℕ) → ProperGquant number g
    → Reads turns 0 (λ o left. OpenedGood intra number o) (λ P. opened_from turns intra number address g)
unfolding opened_from
opened_from_lem zero intra number address g p = reads_never
opened_from_lem (suc turns) intra number address g p =
    reads_then (optional_reads (may_stand number address g) g (λ y. group_head_reads number))
    (λ q left h. reads_turn (found_reads intra)
    (λ f left k. opened_after_lem intra number q (λ P. opened_from turns intra number address) f (λ g p. opened_from_lem turns intra number address g p) (headed_good number address g q p h) k))

pub opened_reads : {bound : ℕ} (intra : Bool) (number address g : ℕ) → ProperGquant number g → Reads bound 0 (λ o left. OpenedGood intra number o) (λ P. opened intra number address g)
opened_reads intra number address g p = reads_loop (λ turns. opened_from_lem turns intra number address g p)

-- ---- groups
-- the macroblocks of a group that are sent from an address on, where k addresses are left
pub record Coming (size : Size) (intra : Bool) (number address k : ℕ) (ms : List Macroblock) : Type 0 where
  pub last : ℕ
  pub first : last + 1 ≡ address
  pub end : last + k ≡ macroblocks_across size
  pub rising : RisingTo (ProperMacroblock size intra number) (macroblocks_across size) last ms
  pub complete : If intra (length ms ≡ k) (Unit {0})

module _ (size : Size) (intra : Bool) (number : ℕ) where
  abbrev pub RowGood : ℕ → ℕ → Row → Type 0
  RowGood address k row = ProperGquant number row.gquant × Coming size intra number address k row.macroblocks

  none_left : (i : Bool) → If i (◌≡◌ {A = ℕ} 0 0) (Unit {0})
  none_left true = refl
  none_left false = tt

  rising_lower : (last next : ℕ) (ms : List Macroblock) → last < next → RisingTo (ProperMacroblock size intra number) (macroblocks_across size) next ms
      → RisingTo (ProperMacroblock size intra number) (macroblocks_across size) last ms
  rising_lower last next [] l h = tt
  rising_lower last next (m ∷ ms) l h = (omega (arith, h.0), h.1, h.2, h.3)

  module _ (address last k : ℕ) (first : last + 1 ≡ address) (end : last + suc k ≡ macroblocks_across size) where
    coming_unsent : (ms : List Macroblock) → T (opposite intra) → Coming size intra number (address + 1) k ms → Coming size intra number address (suc k) ms
    coming_unsent ms t c = record {
      last = last;
      first = first;
      end = end;
      rising = rising_lower last c.last ms (omega (arith, c.first)) c.rising;
      complete = go intra t;
    }
      where
        go : (i : Bool) → T (opposite i) → If i (length ms ≡ suc k) (Unit {0})
        go true t = absurd t
        go false t = tt

    coming_coded : (m : Macroblock) (ms : List Macroblock) → MacroblockGood size intra number address m → Coming size intra number (address + 1) k ms
        → Coming size intra number address (suc k) (m ∷ ms)
    coming_coded m ms g c =
        let here = g.0 in
        let next : c.last ≡ m.address = omega (arith, c.first) in
        record {
          last = last;
          first = first;
          end = end;
          rising = (omega arith, omega arith, g.1, subst (λ (a : ℕ). RisingTo (ProperMacroblock size intra number) (macroblocks_across size) a ms) next c.rising);
          complete = go intra c.complete;
        }
      where
        go : (i : Bool) → If i (length ms ≡ k) (Unit {0}) → If i (suc (length ms) ≡ suc k) (Unit {0})
        go true e = ap suc e
        go false e = tt

  pub row_reads : {bound : ℕ} (k address last g : ℕ) (vectors : List Vector) → last + 1 ≡ address → last + k ≡ macroblocks_across size → ProperGquant number g
      → Reads bound 0 (λ row left. RowGood address k row) (λ P. row_from k size intra number address g vectors)
  unfolding row_from
  row_reads zero address last g vectors first end p = reads_done (λ left. (p, record { last = last; first = first; end = end; rising = tt; complete = none_left intra }))
  row_reads (suc k) address last g vectors first end p =
      reads_then (opened_reads intra number address g p)
      (λ o left h. row_after_lem o o.slot h.1 (λ vs. row_reads k (address + 1) (last + 1) o.gquant vs (omega arith) (omega arith) h.0))
    where
      row_after_lem : {bound : ℕ} (o : Opened) (s : Slot) → SlotGood intra s
          → ((vs : List Vector) → Reads bound 0 (λ row left. RowGood (address + 1) k row) (λ P. row_from k size intra number (address + 1) o.gquant vs))
          → Reads bound 0 (λ row left. RowGood address (suc k) row) (λ P. row_after (row_from k size intra number (address + 1)) size number address vectors o s)
      row_after_lem o unsent t more = reads_weaker (more (vectors ++ zero_vector ∷ [])) zero-le (λ row left h. (h.0, coming_unsent address last k first end row.macroblocks t h.1))
      row_after_lem o (coded kind) t more =
          reads_any (reads_then (macroblock_reads size intra number address (predictor (macroblocks_across size) (standing o.gquant) (vectors_of vectors) (length vectors)) kind t)
          (λ m left g. reads_map (λ row. row_with m row) (more (vectors ++ m.vector ∷ [])) (λ row left h. (h.0, coming_coded address last k first end m row.macroblocks g h.1))))

-- 0 is the GQUANT of any group before its header
pub no_header : (number : ℕ) → ProperGquant number 0
no_header zero = refl
no_header (suc number) = lit≤ tt

pub groups_reads : {bound : ℕ} (size : Size) (intra : Bool) (numbers : List ℕ) (vectors : List Vector)
    → Reads bound 0 (λ gs left. ProperGroups size intra numbers gs) (λ P. groups_read size intra numbers vectors)
unfolding groups_read
groups_reads size intra [] vectors = reads_done (λ left. tt)
groups_reads size intra (number ∷ numbers) vectors =
    reads_then (row_reads size intra number (macroblocks_across size) 1 0 0 vectors refl (omega arith) (no_header number))
    (λ row left g. reads_map (λ rest. record { gquant = row.gquant; macroblocks = row.macroblocks } ∷ rest) (groups_reads size intra numbers row.vectors)
    (λ rest left h. (record { good = (g.0, from row g.1); complete = g.1.complete }, h)))
  where
    from : (row : Row) (c : Coming size intra number 1 (macroblocks_across size) row.macroblocks) → RisingTo (ProperMacroblock size intra number) (macroblocks_across size) 0 row.macroblocks
    from row c =
        let start : c.last ≡ 0 = omega (arith, c.first) in
        subst (λ (a : ℕ). RisingTo (ProperMacroblock size intra number) (macroblocks_across size) a row.macroblocks) start c.rising
