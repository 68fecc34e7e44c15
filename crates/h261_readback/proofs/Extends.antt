-- What is read is read where more bits follow, which are left: one law for each way to read, and for each layer but the last group, which ends with the bits. Assumes nothing.
use mathlib.Core.Path.{◌≡◌, refl, sym, ap, subst, ◌∙◌}
use mathlib.Core.Bool.{Bool, true, false, true≢false, false≢true}
use mathlib.Core.List.{List, [], ◌∷◌, ◌++◌}
use Prim.Native.Nat.{ℕ, zero, suc, ◌+◌, ◌-◌, ◌/◌, ◌%◌, ◌≤◌}
use native.Mathlib.Nat.{le_of_suc-le-suc, not-suc-le-zero}
use native.Mathlib.Omega.{arith}
use lib.Dec.{T, eqb}
use lib.IntN.{ℤ}
use lib.ListN.{length, length-append}
use lib.Seq.{drop-append-le}
use Rattle.laws.specs.Choice.{pick, both, opposite}
use Rattle.laws.proofs.Choice.{both_left, both_right, opposite_no}
use Rattle.refusals.specs.declared.Reason.{Reason}
use Rattle.refusals.specs.declared.Reason.TheVariants.{NoStartCode, OtherGroup, QuantiserZero, Forbidden}
use Rattle.refusals.specs.declared.Refusal.{Refusal}
use Rattle.bits.specs.Bits.{Bit, bit0, bit1, bits_of}
use Rattle.bits.specs.Read.{Read, got, refused, endless, Reader, next, ◌>>=◌, done, field_from, field, Judged, fine, against, settle, judged_read, moved_read, whole, loop}
use Rattle.bits.specs.Code.{Entry, entry, CodeTable, starts, lookup, word}
use Rattle.bits.proofs.Tree.{hit, miss}
use Rattle.fields.specs.Rules.{expect, quantiser, spares_from, spares, spares_after, optional}
use Rattle.h261_words.specs.Tables.{table1, table2, table3, table4, pairs, first_table5, later_table5, end_of_block, escape}
use Rattle.h261_words.specs.Words.{is_intra, is_mc, has_mquant, has_cbp, allowed, Event, sent, over, tcoeff, coefficient_read}
use Rattle.h261_groups.specs.declared.Format.{Format}
use Rattle.h261_description.specs.Vector.{Before, at_start, preceding}
use Rattle.layout.specs.Value.{coefficient, Vector, zero_vector}
use Rattle.layout.specs.Numbers.{forbidden, signed_code}
use Rattle.h261_layers.specs.Vector.{pair_of, component, pointing, component_read, components_read, vector_read}
use Rattle.h261_layers.specs.Grammar.{fits, coefficients_after, coefficients, intra_block, inter_block, blocks_read, macroblock, Mba, step, stuffed, ended, mba_of, mba, macroblocks_after, macroblocks_from, group_head, group, ptype_of, header}

-- ---- one read
abbrev pub Goes : {A : Type 0} → List Bit → Read A → Read A → Type 0
Goes more (got a left p) y = y ≡ got a (left ++ more) p
Goes more (refused r) y = Unit {0}
Goes more endless y = Unit {0}

-- what the one reads, the other reads with more bits after
pub record Extends {A : Type 0} (r s : Reader A) : Type 0 where
  pub goes : (bs : List Bit) (at : ℕ) (more : List Bit) → Goes more (r bs at) (s (bs ++ more) at)

-- ---- the ways to read
ext_done : {A : Type 0} (a : A) → Extends (done a) (done a)
ext_done a = record { goes = λ bs at more. refl }

then_goes : {A B : Type 0} (more : List Bit) (x y : Read A) (k l : A → Reader B) → Goes more x y → ((a : A) (left : List Bit) (p : ℕ) → Goes more (k a left p) (l a (left ++ more) p))
    → Goes more (next x k) (next y l)
then_goes more (got a left p) y k l h f = subst (λ (z : Read _). Goes more (k a left p) (next z l)) (sym h) (f a left p)
then_goes more (refused r) y k l h f = tt
then_goes more endless y k l h f = tt

settle_goes : {B : Type 0} (more : List Bit) (start : ℕ) (j : Judged B) (left : List Bit) (p : ℕ) → Goes more (settle start j left p) (settle start j (left ++ more) p)
settle_goes more start (fine b) left p = refl
settle_goes more start (against reason) left p = tt

module _ {A B : Type 0} {r s : Reader A} where
  ext_then : {k l : A → Reader B} → Extends r s → ((a : A) → Extends (k a) (l a)) → Extends (r >>= k) (s >>= l)
  ext_then {k} {l} h f = record { goes = λ bs at more. then_goes more (r bs at) (s (bs ++ more) at) k l (h.goes bs at more) (λ a left p. (f a).goes left p more) }

  pub ext_judged : (rule : A → Judged B) → Extends r s → Extends (judged_read r rule) (judged_read s rule)
  ext_judged rule h =
      record { goes = λ bs at more. then_goes more (r bs at) (s (bs ++ more) at) (λ a. settle at (rule a)) (λ a. settle at (rule a)) (h.goes bs at more) (λ a left p. settle_goes more at (rule a) left p) }

ext_whole : {A : Type 0} {r s : Reader A} → Extends r s → Extends (whole r) (whole s)
ext_whole {r = r} {s} h = record { goes = λ bs at more. moved_goes more at (r bs at) (s (bs ++ more) at) (h.goes bs at more) }
  where
    moved_goes : {A : Type 0} (more : List Bit) (at : ℕ) (x y : Read A) → Goes more x y → Goes more (moved_read at x) (moved_read at y)
    moved_goes more at (got a left p) y h = ap (moved_read at) h
    moved_goes more at (refused r) y h = tt
    moved_goes more at endless y h = tt

ext_pick : {A : Type 0} {r s u v : Reader A} (b : Bool) → Extends r s → Extends u v → Extends (pick b r u) (pick b s v)
ext_pick true h g = h
ext_pick false h g = g

ext_optional : {A : Type 0} {r s : Reader A} (b : Bool) (a : A) → Extends r s → Extends (optional b a r) (optional b a s)
ext_optional true a h = h
ext_optional false a h = ext_done a

-- a loop has more turns where there are more bits
ext_loop : {A : Type 0} (turn : ℕ → Reader A) → ((n m : ℕ) → n ≤ m → Extends (turn n) (turn m)) → Extends (loop turn) (loop turn)
ext_loop turn h = record { goes = λ bs at more. (h (suc (length bs)) (suc (length (bs ++ more))) (omega (arith, length-append bs more))).goes bs at more }

ext_never : {A : Type 0} {s : Reader A} → Extends (λ bs at. endless) s
ext_never = record { goes = λ bs at more. tt }

-- ---- fields
ext_field : (k : ℕ) → Extends (field k) (field k)
unfolding field_from
ext_field k = record { goes = λ bs at more. from k at 0 bs at more }
  where
    from : (k at v : ℕ) (bs : List Bit) (p : ℕ) (more : List Bit) → Goes more (field_from k at v bs p) (field_from k at v (bs ++ more) p)
    from zero at v bs p more = refl
    from (suc k) at v [] p more = tt
    from (suc k) at v (b ∷ bs) p more = from k at _ bs _ more

-- ---- codewords
starts_more : (w bs more : List Bit) → starts w bs ≡ true → (starts w (bs ++ more) ≡ true) × (length w ≤ length bs)
starts_more [] bs more e = (refl, omega arith)
starts_more (x ∷ w) [] more e = absurd (false≢true e)
starts_more (bit0 ∷ w) (bit0 ∷ bs) more e = let h = starts_more w bs more e in (h.0, omega (arith, h.1))
starts_more (bit0 ∷ w) (bit1 ∷ bs) more e = absurd (false≢true e)
starts_more (bit1 ∷ w) (bit0 ∷ bs) more e = absurd (false≢true e)
starts_more (bit1 ∷ w) (bit1 ∷ bs) more e = let h = starts_more w bs more e in (h.0, omega (arith, h.1))

-- where one begins the bits, another that neither begins it nor is begun by it doesn't
starts_one : (w v bs : List Bit) → starts v bs ≡ true → starts w v ≡ false → starts v w ≡ false → starts w bs ≡ false
starts_one w [] bs e a b = absurd (true≢false b)
starts_one [] (y ∷ v) bs e a b = absurd (true≢false a)
starts_one (x ∷ w) (y ∷ v) [] e a b = absurd (false≢true e)
starts_one (bit0 ∷ w) (bit0 ∷ v) (bit0 ∷ bs) e a b = starts_one w v bs e a b
starts_one (bit0 ∷ w) (bit0 ∷ v) (bit1 ∷ bs) e a b = refl
starts_one (bit0 ∷ w) (bit1 ∷ v) (bit0 ∷ bs) e a b = absurd (false≢true e)
starts_one (bit0 ∷ w) (bit1 ∷ v) (bit1 ∷ bs) e a b = refl
starts_one (bit1 ∷ w) (bit0 ∷ v) (bit0 ∷ bs) e a b = refl
starts_one (bit1 ∷ w) (bit0 ∷ v) (bit1 ∷ bs) e a b = absurd (false≢true e)
starts_one (bit1 ∷ w) (bit1 ∷ v) (bit0 ∷ bs) e a b = refl
starts_one (bit1 ∷ w) (bit1 ∷ v) (bit1 ∷ bs) e a b = starts_one w v bs e a b

abbrev apart : List Bit → List Entry → Bool
apart w [] = true
apart w (entry v m ∷ tab) = both (opposite (starts w v)) (both (opposite (starts v w)) (apart w tab))

abbrev prefix_free : List Entry → Bool
prefix_free [] = true
prefix_free (entry w m ∷ tab) = both (apart w tab) (prefix_free tab)

abbrev IsGot : {A : Type 0} → Read A → Type 0
IsGot (got a left p) = Unit {0}
IsGot (refused r) = ⊥
IsGot endless = ⊥

goes_if : {A : Type 0} (more : List Bit) (x y : Read A) → (IsGot x → Goes more x y) → Goes more x y
goes_if more (got a left p) y h = h tt
goes_if more (refused r) y h = tt
goes_if more endless y h = tt

module _ (at : ℕ) (more : List Bit) where
  others_no : (w : List Bit) (tab : List Entry) (bs : List Bit) (r : Refusal) → T (apart w tab) → IsGot (lookup tab bs at (refused r)) → starts w (bs ++ more) ≡ false
  unfolding lookup
  others_no w [] bs r t g = absurd g
  others_no w (entry v m ∷ tab) bs r t g = go (starts v bs) refl (λ h. others_no w tab bs r (both_right (opposite (starts v w)) (apart w tab) (both_right (opposite (starts w v)) _ t)) h)
    where
      go : (b : Bool) → starts v bs ≡ b → (IsGot (lookup tab bs at (refused r)) → starts w (bs ++ more) ≡ false) → starts w (bs ++ more) ≡ false
      go true e on =
          starts_one w v (bs ++ more) (starts_more v bs more e).0 (opposite_no (starts w v) (both_left (opposite (starts w v)) _ t))
          (opposite_no (starts v w) (both_left (opposite (starts v w)) (apart w tab) (both_right (opposite (starts w v)) _ t)))
      go false e on = on (subst (λ (x : Read ℕ). IsGot x) (miss v m tab bs at (refused r) e) g)

  looked : (tab : List Entry) (bs : List Bit) (r s : Refusal) → T (prefix_free tab) → Goes more (lookup tab bs at (refused r)) (lookup tab (bs ++ more) at (refused s))
  unfolding lookup
  looked [] bs r s t = tt
  looked (entry w m ∷ tab) bs r s t = go (starts w bs) refl (looked tab bs r s (both_right (apart w tab) (prefix_free tab) t))
    where
      go : (b : Bool) → starts w bs ≡ b → Goes more (lookup tab bs at (refused r)) (lookup tab (bs ++ more) at (refused s))
          → Goes more (lookup (entry w m ∷ tab) bs at (refused r)) (lookup (entry w m ∷ tab) (bs ++ more) at (refused s))
      go true e on =
          let h = starts_more w bs more e in
          subst (λ (x : Read ℕ). Goes more x (lookup (entry w m ∷ tab) (bs ++ more) at (refused s))) (sym (hit w m tab bs at (refused r) e))
          (hit w m tab (bs ++ more) at (refused s) h.0 ∙ ap (λ (l : List Bit). got m l (at + length w)) (drop-append-le (length w) bs more h.1))
      go false e on =
          subst (λ (x : Read ℕ). Goes more x (lookup (entry w m ∷ tab) (bs ++ more) at (refused s))) (sym (miss w m tab bs at (refused r) e))
          (goes_if more (lookup tab bs at (refused r)) (lookup (entry w m ∷ tab) (bs ++ more) at (refused s))
          (λ g. subst (λ (y : Read ℕ). Goes more (lookup tab bs at (refused r)) y) (sym (miss w m tab (bs ++ more) at (refused s) (others_no w tab bs r (both_left (apart w tab) (prefix_free tab) t) g))) on))

ext_word : (table : CodeTable) → T (prefix_free table.entries) → Extends (word table) (word table)
unfolding word
ext_word table t = record { goes = λ bs at more. looked at more table.entries bs _ _ t }

pub ext_mba_word : Extends (word table1) (word table1)
unfolding table1
ext_mba_word = ext_word table1 tt

ext_mtype : Extends (word table2) (word table2)
unfolding table2
ext_mtype = ext_word table2 tt

ext_mvd : Extends (word table3) (word table3)
unfolding table3
ext_mvd = ext_word table3 tt

ext_cbp : Extends (word table4) (word table4)
unfolding table4
ext_cbp = ext_word table4 tt

ext_first : Extends (word first_table5) (word first_table5)
unfolding first_table5 pairs
ext_first = ext_word first_table5 tt

ext_later : Extends (word later_table5) (word later_table5)
unfolding later_table5 pairs
ext_later = ext_word later_table5 tt

-- ---- blocks
ext_coefficient : (table : CodeTable) → Extends (word table) (word table) → Extends (coefficient_read table) (coefficient_read table)
unfolding coefficient_read tcoeff
ext_coefficient table h =
    ext_judged allowed
    (ext_whole
    (ext_then h
    (λ m. ext_pick (eqb m end_of_block) (ext_done over)
    (ext_pick (eqb m escape) (ext_then (ext_field 6) (λ run. ext_then (ext_field 8) (λ code. ext_done (sent (coefficient run code))))) (ext_then (ext_field 1) (λ s. ext_done (sent (coefficient (m / 16) (signed_code s (m % 16))))))))))

ext_coefficients : (n m : ℕ) → n ≤ m → (room : ℕ) (table : CodeTable) → Extends (word table) (word table) → Extends (coefficients n room table) (coefficients m room table)
unfolding coefficients
ext_coefficients zero m l room table h = ext_never
ext_coefficients (suc n) zero l room table h = absurd (not-suc-le-zero l)
ext_coefficients (suc n) (suc m) l room table h =
    ext_then (ext_judged (fits room) (ext_coefficient table h)) (after (λ left. ext_coefficients n m (le_of_suc-le-suc l) left later_table5 ext_later))
  where
    after : ((left : ℕ) → Extends (coefficients n left later_table5) (coefficients m left later_table5)) → (e : Event)
        → Extends (coefficients_after (λ left. coefficients n left later_table5) room e) (coefficients_after (λ left. coefficients m left later_table5) room e)
    after on over = ext_done []
    after on (sent c) = ext_then (on (room - suc c.run)) (λ rest. ext_done (c ∷ rest))

ext_intra : Extends intra_block intra_block
unfolding intra_block
ext_intra =
    ext_then (ext_judged (λ code. pick (forbidden code) (against Forbidden) (fine code)) (ext_field 8))
    (λ dc. ext_then (ext_loop (λ turns. coefficients turns 63 later_table5) (λ n m l. ext_coefficients n m l 63 later_table5 ext_later)) (λ rest. ext_done (coefficient 0 dc ∷ rest)))

ext_inter : Extends inter_block inter_block
unfolding inter_block
ext_inter = ext_loop (λ turns. coefficients turns 64 first_table5) (λ n m l. ext_coefficients n m l 64 first_table5 ext_first)

ext_blocks : (intra : Bool) (pattern : List Bit) → Extends (blocks_read intra pattern) (blocks_read intra pattern)
unfolding blocks_read
ext_blocks intra [] = ext_done []
ext_blocks intra (bit0 ∷ pattern) = ext_then (ext_blocks intra pattern) (λ rest. ext_done ([] ∷ rest))
ext_blocks intra (bit1 ∷ pattern) = ext_then (ext_pick intra ext_intra ext_inter) (λ block. ext_then (ext_blocks intra pattern) (λ rest. ext_done (block ∷ rest)))

-- ---- macroblocks
ext_quantiser : Extends quantiser quantiser
ext_quantiser = ext_judged (λ q. pick (eqb q 0) (against QuantiserZero) (fine q)) (ext_field 5)

ext_component : (preceding : ℤ) → Extends (component_read preceding) (component_read preceding)
unfolding component_read
ext_component preceding = ext_judged (λ n. component preceding (pair_of n)) ext_mvd

ext_vector : (f : Format) (group address : ℕ) (v : Vector) → Extends (vector_read f group address v) (vector_read f group address v)
unfolding vector_read components_read
ext_vector f group address v =
    ext_judged (pointing f group address)
    (ext_then (ext_component v.horizontal) (λ h. ext_then (ext_component v.vertical) (λ w. ext_done (record { horizontal = h; vertical = w }))))

pub ext_macroblock : (f : Format) (number : ℕ) (before : Before) (s : ℕ) → Extends (macroblock f number before s) (macroblock f number before s)
unfolding macroblock
ext_macroblock f number before s =
    ext_then ext_mtype
    (λ type. ext_then (ext_optional (has_mquant type) 0 ext_quantiser)
    (λ mquant. ext_then (ext_optional (is_mc type) zero_vector (ext_vector f number (before.address + s) (preceding before s)))
    (λ vector. ext_then (ext_optional (has_cbp type) (pick (is_intra type) 63 0) ext_cbp)
    (λ pattern. ext_then (ext_blocks (is_intra type) (bits_of 6 pattern))
    (λ blocks. ext_done (record { address = before.address + s; type = type; quant = mquant; vector = vector; blocks = blocks }))))))

ext_macroblocks : (n m : ℕ) → n ≤ m → (f : Format) (number : ℕ) (before : Before) → Extends (macroblocks_from n f false number before) (macroblocks_from m f false number before)
unfolding macroblocks_from mba
ext_macroblocks zero m l f number before = ext_never
ext_macroblocks (suc n) zero l f number before = absurd (not-suc-le-zero l)
ext_macroblocks (suc n) (suc m) l f number before = ext_then (ext_judged (mba_of false before.address) ext_mba_word) (after (λ b. ext_macroblocks n m (le_of_suc-le-suc l) f number b))
  where
    after : ((b : Before) → Extends (macroblocks_from n f false number b) (macroblocks_from m f false number b)) → (x : Mba)
        → Extends (macroblocks_after (macroblocks_from n f false number) f number before x) (macroblocks_after (macroblocks_from m f false number) f number before x)
    after on (step s) = ext_then (ext_macroblock f number before s) (λ x. ext_then (on (record { address = x.address; vector = x.vector })) (λ xs. ext_done (x ∷ xs)))
    after on stuffed = on before
    after on ended = ext_done []

-- ---- headers and groups
ext_spares : Extends spares spares
unfolding spares spares_from
ext_spares = ext_loop spares_from from
  where
    from : (n m : ℕ) → n ≤ m → Extends (spares_from n) (spares_from m)
    from zero m l = ext_never
    from (suc n) zero l = absurd (not-suc-le-zero l)
    from (suc n) (suc m) l = ext_then (ext_field 1) (after (from n m (le_of_suc-le-suc l)))
      where
        after : Extends (spares_from n) (spares_from m) → (x : ℕ) → Extends (spares_after (spares_from n) x) (spares_after (spares_from m) x)
        after on zero = ext_done 0
        after on (suc x) = ext_then (ext_field 8) (λ spare. on)

ext_expect : (k v : ℕ) (reason : Reason) → Extends (expect k v reason) (expect k v reason)
ext_expect k v reason = ext_judged (λ x. pick (eqb x v) (fine x) (against reason)) (ext_field k)

pub ext_head : (number : ℕ) → Extends (group_head number) (group_head number)
unfolding group_head
ext_head number = ext_then (ext_expect 4 number OtherGroup) (λ gn. ext_then ext_quantiser (λ q. ext_then ext_spares (λ dropped. ext_done q)))

pub ext_group : (f : Format) (number : ℕ) → Extends (group f false number) (group f false number)
unfolding group
ext_group f number =
    ext_then (ext_head number)
    (λ q. ext_then (ext_loop (λ turns. macroblocks_from turns f false number at_start) (λ n m l. ext_macroblocks n m l f number at_start)) (λ ms. ext_done (record { gquant = q; macroblocks = ms })))

pub ext_header : (f : Format) → Extends (header f) (header f)
unfolding header
ext_header f =
    ext_then (ext_expect 20 0b00000000000000010000 NoStartCode)
    (λ psc. ext_then (ext_field 5)
    (λ tr. ext_then (ext_judged (ptype_of f) (ext_field 6))
    (λ ptype. ext_then ext_spares (λ dropped. ext_then (ext_expect 16 0b0000000000000001 NoStartCode) (λ gbsc. ext_done (record { tr = tr; ptype = ptype }))))))
