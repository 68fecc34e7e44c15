-- No other number of bits is read as the picture that was written: fewer end inside a field or a codeword, or give fewer macroblocks; more are read on from an MBA place. Assumes nothing.
use mathlib.Core.Path.{◌≡◌, refl, sym, ap, subst, ◌∙◌}
use mathlib.Core.Bool.{true, false}
use mathlib.Core.Logic.{◌⊎◌, inl, inr}
use mathlib.Core.List.{List, [], ◌∷◌, ◌++◌, append_assoc, append-nil}
use Prim.Native.Nat.{ℕ, zero, suc, ◌+◌, ◌-◌, ◌≤◌, ◌<◌}
use native.Mathlib.Nat.{not-suc-le-zero}
use native.Mathlib.Omega.{arith}
use lib.Dec.{T, ltb, ltb→lt}
use lib.ListN.{length, take, drop, length-append, length-drop, take-append-drop}
use lib.Seq.{take-append-le, take-append-add, length-take-le}
use Rattle.laws.proofs.Choice.{both_left, both_right}
use Rattle.laws.proofs.Rows.{lt-or-ge}
use Rattle.bits.specs.Bits.{Bit}
use Rattle.bits.specs.Places.{plain}
use Rattle.bits.specs.Read.{Read, got, refused, endless, Reader, next, ◌>>=◌, done, settle, judged_read, or_end, loop}
use Rattle.bits.specs.Code.{word, word_of}
use Rattle.bits.proofs.ReadBack.{Back}
use Rattle.h261_words.specs.Tables.{table1}
use Rattle.h261_words.specs.Words.{is_mc}
use Rattle.h261_groups.specs.declared.Format.{Format}
use Rattle.h261_groups.specs.declared.Format.TheVariants.{Qcif, Cif}
use Rattle.h261_groups.specs.Format.{group_numbers}
use Rattle.h261_description.specs.Vector.{Before, at_start}
use Rattle.layout.specs.Value.{Macroblock, Group}
use Rattle.layout.specs.Numbers.{all as all_of, is_quantiser}
use Rattle.h261_description.specs.Value.{Picture, before_next}
use Rattle.h261_description.specs.Proper.{Proper, ProperMacroblock, ProperGroups}
use Rattle.h261_layers.proofs.Layers.{Rising}
use Rattle.h261_layers.specs.Grammar.{Mba, step, ended, mba_of, mba, macroblocks_after, macroblocks_from, group, groups_read, picture}
use Rattle.h261_writer.specs.Write.{macroblock_of, macroblocks_of, picture_of}
use Rattle.h261_readback.proofs.Extends.{Goes, Extends, ext_judged, ext_mba_word, ext_macroblock, ext_head, ext_group, ext_header}
use Rattle.h261_readback.proofs.Vectors.{Ranged, ranged_vector, ranged_zero}
use Rattle.h261_readback.proofs.Macroblocks.{body_of, back_body, not-ended, back_step, ending}
use Rattle.h261_readback.proofs.Groups.{head_of, back_head, back_group, unstarted}
use Rattle.h261_readback.proofs.Pictures.{back_header, numbers_small, unstarted-picture}

-- ---- of reads
got_left : {A : Type 0} {a b : A} {l m : List Bit} {p q : ℕ} → ◌≡◌ {A = Read A} (got a l p) (got b m q) → l ≡ m
got_left e = cc

got_same : {A : Type 0} {a b : A} {l m : List Bit} {p q : ℕ} → ◌≡◌ {A = Read A} (got a l p) (got b m q) → a ≡ b
got_same e = cc

-- ---- fewer bits
-- of fewer than these bits nothing is read
record Short {A : Type 0} (r : Reader A) (w : List Bit) : Type 0 where
  none : (k at : ℕ) (b : A) (left : List Bit) (p : ℕ) → k < length w → r (take k w) at ≡ got b left p → ⊥

-- or not this
record Cut {A : Type 0} (r : Reader A) (w : List Bit) (a : A) : Type 0 where
  none : (k at : ℕ) (left : List Bit) (p : ℕ) → k < length w → r (take k w) at ≡ got a left p → ⊥

module _ {A : Type 0} {r : Reader A} {w : List Bit} {a : A} where
  short : Extends r r → Back r w [] a → Short r w
  short h g = record {
    none = λ k at b left p l e.
        let more : r (take k w ++ drop k w) at ≡ got b (left ++ drop k w) p = subst (λ (x : Read A). Goes (drop k w) x (r (take k w ++ drop k w) at)) e (h.goes (take k w) at (drop k w)) in
        let whole : r (take k w ++ drop k w) at ≡ got a [] (at + length w) = ap (λ (bs : List Bit). r bs at) (take-append-drop k w ∙ sym (append-nil w)) ∙ g.reads at in
        let q : length (left ++ drop k w) ≡ 0 = ap length (got_left (sym more ∙ whole)) in
        omega (arith, l, q, length-append left (drop k w), length-drop k w);
  }

  cut_as : {v : List Bit} → w ≡ v → Cut r w a → Cut r v a
  cut_as e c = rw e at c

  cut_then : {B : Type 0} {v : List Bit} {b : B} (k : A → Reader B) → Short r w → ((rest : List Bit) → Back r w rest a) → Cut (k a) v b → Cut (r >>= k) (w ++ v) b
  cut_then {B} {v} {b} k s h c = record { none = λ j at left p l e. go j at left p l e (lt-or-ge j (length w)) }
    where
      first : (j at : ℕ) (left : List Bit) (p : ℕ) (x : Read A) → j < length w → r (take j w) at ≡ x → next x k ≡ got b left p → ⊥
      first j at left p (got a' l' p') i q e = s.none j at a' l' p' i q
      first j at left p (refused why) i q e = let z : ◌≡◌ {A = ℕ} 0 1 = cc in omega arith
      first j at left p endless i q e = let z : ◌≡◌ {A = ℕ} 0 1 = cc in omega arith

      go : (j at : ℕ) (left : List Bit) (p : ℕ) → j < length (w ++ v) → next (r (take j (w ++ v)) at) k ≡ got b left p → (j < length w) ⊎ (length w ≤ j) → ⊥
      go j at left p l e (inl i) =
          first j at left p (r (take j w) at) i refl (ap (λ (bs : List Bit). next (r bs at) k) (sym (take-append-le j w v (omega arith))) ∙ e)
      go j at left p l e (inr i) =
          let n : ℕ = j - length w in
          let q : length w + n ≡ j = omega arith in
          let cutting : take j (w ++ v) ≡ w ++ take n v = ap (λ (m : ℕ). take m (w ++ v)) (sym q) ∙ take-append-add w v n in
          c.none n (at + length w) left p (omega (arith, l, length-append w v)) (ap (λ (x : Read A). next x k) (sym ((h (take n v)).reads at)) ∙ ap (λ (bs : List Bit). next (r bs at) k) (sym cutting) ∙ e)

  cut_map : {B : Type 0} (f : A → B) → ((x : A) → f x ≡ f a → x ≡ a) → Cut r w a → Cut (r >>= λ x. done (f x)) w (f a)
  cut_map {B} f one c = record { none = λ k at left p l e. go k at left p l (r (take k w) at) refl e }
    where
      go : (k at : ℕ) (left : List Bit) (p : ℕ) → k < length w → (x : Read A) → r (take k w) at ≡ x → next x (λ y. done (f y)) ≡ got (f a) left p → ⊥
      go k at left p l (got x l' p') q e = c.none k at l' p' l (q ∙ ap (λ (y : A). got y l' p') (one x (got_same e)))
      go k at left p l (refused why) q e = let z : ◌≡◌ {A = ℕ} 0 1 = cc in omega arith
      go k at left p l endless q e = let z : ◌≡◌ {A = ℕ} 0 1 = cc in omega arith

cut_loop : {A : Type 0} {w : List Bit} {a : A} (turn : ℕ → Reader A) → ((n : ℕ) → Cut (turn n) w a) → Cut (loop turn) w a
cut_loop {w = w} turn h = record { none = λ k at left p l e. (h (suc (length (take k w)))).none k at left p l e }

-- ---- more bits
-- nothing is read of these bits with those after them
record Past {A : Type 0} (r : Reader A) (w rest : List Bit) : Type 0 where
  none : (at : ℕ) (b : A) (left : List Bit) (p : ℕ) → r (w ++ rest) at ≡ got b left p → ⊥

past_as : {A : Type 0} {r : Reader A} {w v rest : List Bit} → w ≡ v → Past r w rest → Past r v rest
past_as e h = rw e at h

past_loop : {A : Type 0} {w rest : List Bit} (turn : ℕ → Reader A) → ((n : ℕ) → Past (turn n) w rest) → Past (loop turn) w rest
past_loop {w = w} {rest} turn h = record { none = λ at b left p e. (h (suc (length (w ++ rest)))).none at b left p e }

module _ {A B : Type 0} {r : Reader A} {w rest : List Bit} (k : A → Reader B) where
  past_then : {v : List Bit} {a : A} → Back r w (v ++ rest) a → Past (k a) v rest → Past (r >>= k) (w ++ v) rest
  past_then {v} {a} h g = record {
    none = λ at b left p e. g.none (at + length w) b left p (ap (λ (x : Read A). next x k) (sym (h.reads at)) ∙ ap (λ (bs : List Bit). next (r bs at) k) (sym (append_assoc w v rest)) ∙ e);
  }

  past_first : Past r w rest → Past (r >>= k) w rest
  past_first h = record { none = λ at b left p e. go at b left p (r (w ++ rest) at) refl e }
    where
      go : (at : ℕ) (b : B) (left : List Bit) (p : ℕ) (x : Read A) → r (w ++ rest) at ≡ x → next x k ≡ got b left p → ⊥
      go at b left p (got a l q) i e = h.none at a l q i
      go at b left p (refused why) i e = let z : ◌≡◌ {A = ℕ} 0 1 = cc in omega arith
      go at b left p endless i e = let z : ◌≡◌ {A = ℕ} 0 1 = cc in omega arith

-- a macroblock of the last group, and the others
module _ (f : Format) (number : ℕ) (before : Before) (m : Macroblock) (ms : List Macroblock) (turns : ℕ) (l : before.address < m.address) (u : m.address ≤ 33) (p : ProperMacroblock f number m) (r : Ranged before.vector) where
  abbrev address : ℕ
  address = before.address

  abbrev step_of : ℕ
  step_of = m.address - address

  abbrev others : List Bit
  others = macroblocks_of (before_next m) ms

  abbrev all : List Bit
  all = (word_of table1 step_of ++ body_of before m) ++ others

  abbrev mba_read : Reader Mba
  mba_read = judged_read (word table1) (mba_of true address)

  abbrev on : Mba → Reader (List Macroblock)
  on = macroblocks_after (macroblocks_from turns f true number) f number before

  back_mba_step : (rest : List Bit) → Back mba_read (word_of table1 step_of) rest (step step_of)
  back_mba_step rest = back_step address step_of rest (omega arith) (omega arith) true

  tail_once : (xs : List Macroblock) → m ∷ xs ≡ m ∷ ms → xs ≡ ms
  tail_once xs e = cc

  cut_inner : Cut (macroblocks_from turns f true number (before_next m)) others ms → Cut (mba_read >>= on) all (m ∷ ms)
  cut_inner c =
      cut_as (sym (append_assoc (word_of table1 step_of) (body_of before m) others))
      (cut_then _ (short (ext_judged (mba_of true address) ext_mba_word) (back_mba_step [])) back_mba_step
      (cut_then _ (short (ext_macroblock f number before step_of) (back_body f number before m l p r [])) (back_body f number before m l p r) (cut_map (λ xs. m ∷ xs) tail_once c)))

  cut_step : Cut (macroblocks_from turns f true number (before_next m)) others ms → Cut (macroblocks_from (suc turns) f true number before) all (m ∷ ms)
  unfolding macroblocks_from mba
  cut_step c = record { none = λ k at left q i e. by k at left q i e }
    where
      by : (k at : ℕ) (left : List Bit) (q : ℕ) → k < length all → next (or_end ended mba_read (take k all) at) on ≡ got (m ∷ ms) left q → ⊥
      by zero at left q i e = let z : ◌≡◌ {A = ℕ} 0 1 = cc in omega arith
      by (suc k) at left q i e =
          (cut_inner c).none (suc k) at left q i
          (ap (λ (x : Read Mba). next x on) (sym (not-ended ended mba_read (take (suc k) all) at (omega (arith, length-take-le (suc k) all (omega arith))))) ∙ e)

  past_step : (rest : List Bit) → 1 ≤ length rest → Past (macroblocks_from turns f true number (before_next m)) others rest → Past (macroblocks_from (suc turns) f true number before) all rest
  unfolding macroblocks_from mba
  past_step rest some h =
      let inner : Past (mba_read >>= on) all rest =
      past_as (sym (append_assoc (word_of table1 step_of) (body_of before m) others))
      (past_then _ (back_mba_step ((body_of before m ++ others) ++ rest)) (past_then _ (back_body f number before m l p r (others ++ rest)) (past_first _ h))) in
      record {
        none = λ at b left q e.
            inner.none at b left q (ap (λ (x : Read Mba). next x on) (sym (not-ended ended mba_read (all ++ rest) at (omega (arith, some, length-append all rest)))) ∙ e);
      }

-- the macroblocks of the last group
cut_macroblocks : (ms : List Macroblock) (turns : ℕ) (f : Format) (number : ℕ) (before : Before) → Rising f number before.address ms → Ranged before.vector
    → Cut (macroblocks_from turns f true number before) (macroblocks_of before ms) ms
unfolding macroblocks_from macroblocks_of macroblock_of
cut_macroblocks [] turns f number before p r = record { none = λ k at left q l e. not-suc-le-zero l }
cut_macroblocks (m ∷ ms) zero f number before p r = record { none = λ k at left q l e. let z : ◌≡◌ {A = ℕ} 0 1 = cc in omega arith }
cut_macroblocks (m ∷ ms) (suc turns) f number before p r =
    cut_step f number before m ms turns p.0 p.1 p.2 r
    (cut_macroblocks ms turns f number (before_next m) p.3 (ranged_vector f number m.address (is_mc m.type) m.vector p.2.pointed))

cut_group : (f : Format) (number : ℕ) (g : Group) → number < 16 → T (is_quantiser g.gquant) → Rising f number 0 g.macroblocks
    → Cut (group f true number) (head_of number g.gquant ++ macroblocks_of at_start g.macroblocks) g
unfolding group
cut_group f number g l q p =
    cut_then _ (short (ext_head number) (back_head number g.gquant [] l q)) (λ rest. back_head number g.gquant rest l q)
    (cut_map (λ ms. record { gquant = g.gquant; macroblocks = ms }) (λ ms e. ap (λ (x : Group). x.macroblocks) e)
    (cut_loop (λ turns. macroblocks_from turns f true number at_start) (λ n. cut_macroblocks g.macroblocks n f number at_start p ranged_zero)))

-- the groups
cut_groups : (f : Format) (numbers : List ℕ) (gs : List Group) → T (all_of (λ number. ltb number 16) numbers) → ProperGroups f numbers gs → Cut (groups_read f numbers) (unstarted numbers gs) gs
unfolding groups_read
cut_groups f [] gs l p = record { none = λ k at left q i e. not-suc-le-zero i }
cut_groups f (number ∷ numbers) [] l p = absurd p
cut_groups f (number ∷ []) (g ∷ (h ∷ gs)) l p = absurd p.1
cut_groups f (number ∷ []) (g ∷ []) l p =
    let small = ltb→lt number 16 (both_left (ltb number 16) _ l) in
    cut_as (sym (append-nil (head_of number g.gquant ++ (macroblocks_of at_start g.macroblocks ++ []))))
    (cut_as (ap (λ (w : List Bit). head_of number g.gquant ++ w) (sym (append-nil (macroblocks_of at_start g.macroblocks))))
    (cut_map (λ x. x ∷ []) (λ x e. let y : x ≡ g = cc in y) (cut_group f number g small p.0.0 p.0.1)))
cut_groups f (number ∷ (second ∷ numbers)) (g ∷ gs) l p =
    let small = ltb→lt number 16 (both_left (ltb number 16) _ l) in
    let back : (rest : List Bit) → Back (group f false number) (head_of number g.gquant ++ (macroblocks_of at_start g.macroblocks ++ ending false)) rest g =
    λ rest. back_group f false number g rest small p.0.0 p.0.1 tt in
    cut_then _ (short (ext_group f number) (back [])) back
    (cut_map (λ xs. g ∷ xs) (λ xs e. let y : xs ≡ gs = cc in y) (cut_groups f (second ∷ numbers) gs (both_right (ltb number 16) _ l) p.1))

-- THE LAW: of fewer bits than were written the picture isn't read
pub fewer_bits : (f : Format) (p : Picture) → Proper f p → (k : ℕ) (left : List Bit) (q : ℕ) → k < length (picture_of f p) → picture {P = plain} f (take k (picture_of f p)) 0 ≡ got p left q → ⊥
unfolding picture
fewer_bits f p h k left q l e =
    (cut_as (unstarted-picture f p h)
    (cut_then _ (short (ext_header f) (back_header f p [] (omega (arith, h.reference)) (omega (arith, h.typed)))) (λ rest. back_header f p rest (omega (arith, h.reference)) (omega (arith, h.typed)))
    (cut_map (λ gs. record { tr = p.tr; ptype = p.ptype; groups = gs }) (λ gs e. ap (λ (x : Picture). x.groups) e) (cut_groups f (group_numbers f) p.groups (numbers_small f) h.grouped)))
    ).none k 0 left q l e

-- bits that no codeword of Table 1 begins
pub record Unread (rest : List Bit) : Type 0 where
  pub some : 1 ≤ length rest
  pub none : (at m : ℕ) (left : List Bit) (p : ℕ) → word {P = plain} table1 rest at ≡ got m left p → ⊥

module _ (rest : List Bit) (u : Unread rest) where
  past_macroblocks : (ms : List Macroblock) (turns : ℕ) (f : Format) (number : ℕ) (before : Before) → Rising f number before.address ms → Ranged before.vector
      → Past (macroblocks_from turns f true number before) (macroblocks_of before ms) rest
  unfolding macroblocks_from macroblocks_of macroblock_of mba
  past_macroblocks ms zero f number before p r = record { none = λ at b left q e. let z : ◌≡◌ {A = ℕ} 0 1 = cc in omega arith }
  past_macroblocks [] (suc turns) f number before p r = record {
    none = λ at b left q e.
        first at b left q (word table1 rest at) refl (ap (λ (x : Read Mba). next x (macroblocks_after (macroblocks_from turns f true number) f number before)) (sym (not-ended ended (judged_read (word table1) (mba_of true before.address)) rest at u.some)) ∙ e);
  }
    where
      first : (at : ℕ) (b : List Macroblock) (left : List Bit) (q : ℕ) (x : Read ℕ) → word table1 rest at ≡ x
          → next (next x (λ a. settle at (mba_of true before.address a))) (macroblocks_after (macroblocks_from turns f true number) f number before) ≡ got b left q → ⊥
      first at b left q (got m l k) i e = u.none at m l k i
      first at b left q (refused why) i e = let z : ◌≡◌ {A = ℕ} 0 1 = cc in omega arith
      first at b left q endless i e = let z : ◌≡◌ {A = ℕ} 0 1 = cc in omega arith
  past_macroblocks (m ∷ ms) (suc turns) f number before p r =
      past_step f number before m ms turns p.0 p.1 p.2 r rest u.some
      (past_macroblocks ms turns f number (before_next m) p.3 (ranged_vector f number m.address (is_mc m.type) m.vector p.2.pointed))

  past_group : (f : Format) (number : ℕ) (g : Group) → number < 16 → T (is_quantiser g.gquant) → Rising f number 0 g.macroblocks
      → Past (group f true number) (head_of number g.gquant ++ macroblocks_of at_start g.macroblocks) rest
  unfolding group
  past_group f number g l q p =
      past_then _ (back_head number g.gquant (macroblocks_of at_start g.macroblocks ++ rest) l q)
      (past_first (λ ms. done (record { gquant = g.gquant; macroblocks = ms }))
      (past_loop (λ turns. macroblocks_from turns f true number at_start) (λ n. past_macroblocks g.macroblocks n f number at_start p ranged_zero)))

  past_groups : (f : Format) (number : ℕ) (numbers : List ℕ) (gs : List Group) → T (all_of (λ number. ltb number 16) (number ∷ numbers)) → ProperGroups f (number ∷ numbers) gs
      → Past (groups_read f (number ∷ numbers)) (unstarted (number ∷ numbers) gs) rest
  unfolding groups_read
  past_groups f number numbers [] l p = absurd p
  past_groups f number [] (g ∷ gs) l p =
      past_as (sym (append-nil (head_of number g.gquant ++ (macroblocks_of at_start g.macroblocks ++ []))))
      (past_as (ap (λ (w : List Bit). head_of number g.gquant ++ w) (sym (append-nil (macroblocks_of at_start g.macroblocks))))
      (past_first _ (past_group f number g (ltb→lt number 16 (both_left (ltb number 16) _ l)) p.0.0 p.0.1)))
  past_groups f number (second ∷ numbers) (g ∷ gs) l p =
      past_then _ (back_group f false number g (unstarted (second ∷ numbers) gs ++ rest) (ltb→lt number 16 (both_left (ltb number 16) _ l)) p.0.0 p.0.1 tt)
      (past_first _ (past_groups f second numbers gs (both_right (ltb number 16) _ l) p.1))

  past_all : (f : Format) (p : Picture) → Proper f p → Past (groups_read f (group_numbers f)) (unstarted (group_numbers f) p.groups) rest
  past_all Qcif p h = past_groups Qcif 1 (3 ∷ 5 ∷ []) p.groups (numbers_small Qcif) h.grouped
  past_all Cif p h = past_groups Cif 1 (2 ∷ 3 ∷ 4 ∷ 5 ∷ 6 ∷ 7 ∷ 8 ∷ 9 ∷ 10 ∷ 11 ∷ 12 ∷ []) p.groups (numbers_small Cif) h.grouped

  -- THE LAW: of more bits than were written, if they don't go on with a codeword, nothing is read
  pub more_bits : (f : Format) (p : Picture) → Proper f p → (b : Picture) (left : List Bit) (q : ℕ) → picture {P = plain} f (picture_of f p ++ rest) 0 ≡ got b left q → ⊥
  unfolding picture
  more_bits f p h b left q e =
      (past_as (unstarted-picture f p h)
      (past_then _ (back_header f p (unstarted (group_numbers f) p.groups ++ rest) (omega (arith, h.reference)) (omega (arith, h.typed))) (past_first _ (past_all f p h)))
      ).none 0 b left q e
