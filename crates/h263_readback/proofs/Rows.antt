-- The macroblocks of a group are read back in order, sent or unsent, over any predictor that is in range where the vectors before are. Assumes nothing.
use mathlib.Core.Path.{◌≡◌, refl, sym, subst}
use mathlib.Core.List.{List, [], ◌∷◌, ◌++◌, append_assoc}
use mathlib.Core.Bool.{Bool, true, false}
use Prim.Native.Nat.{ℕ, zero, suc, ◌+◌, ◌%◌, ◌≤◌, ◌<◌}
use native.Mathlib.Omega.{arith}
use borrow.Author.Tests.{ne_eqb, eqb-true, eqb-false}
use lib.Dec.{eqb, ltb}
use lib.ListN.{length}
use Rattle.laws.specs.Choice.{pick, both}
use Rattle.bits.specs.Bits.{Bit, bits_of}
use Rattle.bits.proofs.ReadBack.{Back, back_done, back_next, back_end, back_as}
use Rattle.size.specs.declared.Size.{Size}
use Rattle.size.specs.Place.{macroblocks_across}
use Rattle.layout.specs.Value.{Vector, zero_vector, Macroblock}
use Rattle.layout.specs.Proper.{If, Each, RisingTo}
use Rattle.h263_words.specs.Tables.{kind}
use Rattle.h263_words.specs.Words.{is_inter, type_in, chroma_in}
use Rattle.h263_description.specs.Vector.{vectors_of, predictor}
use Rattle.h263_description.specs.Fields.{stands}
use Rattle.h263_description.specs.Proper.{ProperMacroblock}
use Rattle.h263_description.proofs.Predictor.{Ranged, zero_ranged}
use Rattle.h263_layers.specs.Grammar.{unsent, coded, macroblock, may_stand, Row, row_from}
use Rattle.h263_layers.proofs.Layers.{Coming}
use Rattle.h263_writer.specs.Write.{mcbpc_of, macroblock_of, vector_at_head, after_head, row_of, row_vectors}
use Rattle.h263_readback.proofs.Vectors.{ranged_vector}
use Rattle.h263_readback.proofs.Macroblocks.{pattern_in, body_of, back_body}
use Rattle.h263_readback.proofs.Slots.{Begun, begun_coded, begun_unsent, Headed, headed_none, back_opened}

-- ---- vectors in range
pub each_more : {A : Type 0} (P : A → Type 0) (xs : List A) (x : A) → Each P xs → P x → Each P (xs ++ x ∷ [])
each_more P [] x h p = (p, tt)
each_more P (y ∷ xs) x h p = (h.0, each_more P xs x h.1 p)

-- ---- rising addresses
-- as many as there are addresses, at most
rising_few : (Good : Macroblock → Type 0) (each last : ℕ) (ms : List Macroblock) → last ≤ each → RisingTo Good each last ms → last + length ms ≤ each
rising_few Good each last [] l h = omega arith
rising_few Good each last (m ∷ ms) l h = omega (arith, h.0, h.1, rising_few Good each m.address ms h.1 h.3)

module _ (size : Size) (number address k : ℕ) where
  -- in a picture of type INTRA the next one is sent
  intra_first : (m : Macroblock) (ms : List Macroblock) → Coming size true number address (suc k) (m ∷ ms) → m.address ≡ address
  intra_first m ms c =
      let few = rising_few (ProperMacroblock size true number) (macroblocks_across size) m.address ms c.rising.1 c.rising.3 in
      let n = c.complete in
      omega (arith, c.first, c.end, c.rising.0)

  coming_next : (intra : Bool) (ms : List Macroblock) → Coming size intra number address (suc k) ms → Coming size intra number (address + 1) k (after_head address ms)
  coming_next true [] c = absurd (let n = c.complete in omega arith)
  coming_next false [] c = record { last = c.last + 1; first = omega (arith, c.first); end = omega (arith, c.end); rising = tt; complete = tt }
  coming_next intra (m ∷ ms) c = go intra c (eqb m.address address) refl
    where
      fewer : (intra : Bool) → If intra (suc (length ms) ≡ suc k) (Unit {0}) → If intra (length ms ≡ k) (Unit {0})
      fewer true h = omega arith
      fewer false h = tt

      later : (last a : ℕ) → (a ≡ address → ⊥) → last + 1 ≡ address → last < a → last + 1 < a
      later last a n e l = omega arith

      go : (intra : Bool) → Coming size intra number address (suc k) (m ∷ ms) → (b : Bool) → eqb m.address address ≡ b → Coming size intra number (address + 1) k (pick b ms (m ∷ ms))
      go intra c true e =
          let same : m.address ≡ address = eqb-true m.address address e in
          record {
            last = m.address;
            first = omega (arith, same);
            end = omega (arith, same, c.first, c.end);
            rising = c.rising.3;
            complete = fewer intra c.complete;
          }
      go true c false e = absurd (eqb-false m.address address e (intra_first m ms c))
      go false c false e =
          let other = eqb-false m.address address e in
          record {
            last = c.last + 1;
            first = omega (arith, c.first);
            end = omega (arith, c.end);
            rising = (later c.last m.address other c.first c.rising.0, c.rising.1, c.rising.2, c.rising.3);
            complete = tt;
          }

-- ---- the vectors then
abbrev vectors_after : ℕ → List Vector → List Macroblock → List Vector
vectors_after address vectors ms = vectors ++ vector_at_head address ms ∷ []

module _ (size : Size) (intra : Bool) (number : ℕ) where
  ranged_next : (k address : ℕ) (vectors : List Vector) (ms : List Macroblock) → Each Ranged vectors → Coming size intra number address (suc k) ms → Each Ranged (vectors_after address vectors ms)
  ranged_next k address vectors [] r c = each_more Ranged vectors zero_vector r zero_ranged
  ranged_next k address vectors (m ∷ ms) r c = each_more Ranged vectors _ r (go (eqb m.address address))
    where
      go : (b : Bool) → Ranged (pick b m.vector zero_vector)
      go true = ranged_vector size number m.address (is_inter m.type) m.vector c.rising.2.pointed
      go false = zero_ranged

  pub ranged_row : (k address : ℕ) (vectors : List Vector) (ms : List Macroblock) → Each Ranged vectors → Coming size intra number address k ms → Each Ranged (row_vectors k address vectors ms)
  unfolding row_vectors
  ranged_row zero address vectors ms r c = r
  ranged_row (suc k) address vectors ms r c =
      ranged_row k (address + 1) (vectors_after address vectors ms) (after_head address ms) (ranged_next k address vectors ms r c) (coming_next size number address k intra ms c)

-- ---- one macroblock of a group, and the others
-- a predictor in range
abbrev pub Predicts : ℕ → Type 0
Predicts across = (headed : Bool) (vectors : List Vector) → Each Ranged vectors → Ranged (predictor across headed (vectors_of vectors) (length vectors))

module _ (size : Size) (predicts : Predicts (macroblocks_across size)) (intra : Bool) (number q : ℕ) where
  abbrev across : ℕ
  across = macroblocks_across size

  abbrev predicted : List Vector → Vector
  predicted vectors = predictor across (stands q) (vectors_of vectors) (length vectors)

  module _ (k address g : ℕ) (h : List Bit) (vectors : List Vector) (head : Headed number address g q h) (rest : List Bit) where
    unsent_slot : (v : List Bit) (row : Row) → intra ≡ false → Back (row_from k size intra number (address + 1) q (vectors ++ zero_vector ∷ [])) v rest row
        → Back (row_from (suc k) size intra number address g vectors) (h ++ (bits_of 1 1 ++ v)) rest row
    unfolding row_from
    unsent_slot v row e more =
        let begun : Begun intra (bits_of 1 1) unsent = subst (λ (i : Bool). Begun i (bits_of 1 1) unsent) (sym e) begun_unsent in
        back_as (append_assoc h (bits_of 1 1) v) (back_next _ (back_opened intra number address g q h (bits_of 1 1) unsent (v ++ rest) head begun) more)

    coded_slot : (m : Macroblock) (v : List Bit) (ms : List Macroblock) (after : List Vector) → Each Ranged vectors → m.address ≡ address → ProperMacroblock size intra number m
        → Back (row_from k size intra number (address + 1) q (vectors ++ m.vector ∷ [])) v rest (record { gquant = q; macroblocks = ms; vectors = after })
        → Back (row_from (suc k) size intra number address g vectors) (h ++ (macroblock_of intra (predicted vectors) m ++ v)) rest (record { gquant = q; macroblocks = m ∷ ms; vectors = after })
    unfolding row_from macroblock_of
    coded_slot m v ms after ranged e p more =
        let x = pattern_in m in
        let kinds = kind m.type (x % 4) in
        let w = mcbpc_of intra m.type x in
        let body = body_of (predicted vectors) m in
        let type : type_in kinds ≡ m.type = omega arith in
        let chroma : chroma_in kinds ≡ x % 4 = omega arith in
        let there : Back (macroblock size number address (predicted vectors) kinds) body (v ++ rest) m =
        subst (λ (a : ℕ). Back (macroblock size number a (predicted vectors) kinds) body (v ++ rest) m) e
        (back_body size intra number (predicted vectors) m p (predicts (stands q) vectors ranged) kinds (v ++ rest) type chroma) in
        back_as (regroup h w body v)
        (back_next _ (back_opened intra number address g q h w (coded kinds) ((body ++ v) ++ rest) head (begun_coded intra m.type x p.typed))
        (back_next _ there (back_end _ more refl)))
      where
        regroup : (a b c d : List Bit) → (a ++ b) ++ (c ++ d) ≡ a ++ ((b ++ c) ++ d)
        regroup a b c d = simp append_assoc

  -- the others as they come, by whether the next one is sent
  module _ (k address g : ℕ) (h : List Bit) (vectors : List Vector) (head : Headed number address g q h) (ranged : Each Ranged vectors) (rest : List Bit) where
    back_slot : (ms : List Macroblock) → Coming size intra number address (suc k) ms
        → Back (row_from k size intra number (address + 1) q (vectors_after address vectors ms)) (row_of k across intra q (address + 1) (vectors_after address vectors ms) (after_head address ms)) rest
        (record { gquant = q; macroblocks = after_head address ms; vectors = row_vectors k (address + 1) (vectors_after address vectors ms) (after_head address ms) })
        → Back (row_from (suc k) size intra number address g vectors) (h ++ row_of (suc k) across intra q address vectors ms) rest
        (record { gquant = q; macroblocks = ms; vectors = row_vectors (suc k) address vectors ms })
    unfolding row_of row_vectors
    back_slot [] c more = unsent_slot k address g h vectors head rest _ _ (inter intra c.complete) more
      where
        inter : (i : Bool) → If i (0 ≡ suc k) (Unit {0}) → i ≡ false
        inter true e = absurd (omega arith)
        inter false e = refl
    back_slot (m ∷ ms) c more = go (eqb m.address address) refl more
      where
        inter : (i : Bool) → Coming size i number address (suc k) (m ∷ ms) → (m.address ≡ address → ⊥) → i ≡ false
        inter true c n = absurd (n (intra_first size number address k m ms c))
        inter false c n = refl

        bits : Bool → List Bit
        bits b = row_of k across intra q (address + 1) (vectors ++ pick b m.vector zero_vector ∷ []) (pick b ms (m ∷ ms))

        vectors_then : Bool → List Vector
        vectors_then b = row_vectors k (address + 1) (vectors ++ pick b m.vector zero_vector ∷ []) (pick b ms (m ∷ ms))

        go : (b : Bool) → eqb m.address address ≡ b
            → Back (row_from k size intra number (address + 1) q (vectors ++ pick b m.vector zero_vector ∷ [])) (bits b) rest (record { gquant = q; macroblocks = pick b ms (m ∷ ms); vectors = vectors_then b })
            → Back (row_from (suc k) size intra number address g vectors) (h ++ (pick b (macroblock_of intra (predicted vectors) m) (bits_of 1 1) ++ bits b)) rest
            (record { gquant = q; macroblocks = m ∷ ms; vectors = vectors_then b })
        go true e more = coded_slot k address g h vectors head rest m (bits true) ms (vectors_then true) ranged (eqb-true m.address address e) c.rising.2 more
        go false e more = unsent_slot k address g h vectors head rest (bits false) _ (inter intra c (eqb-false m.address address e)) more

  -- ---- the macroblocks after the first, before which no header may stand
  later_address : (address : ℕ) → 1 ≤ address → may_stand number (address + 1) q ≡ false
  later_address address l = go (ltb 0 number)
    where
      go : (b : Bool) → both (both b (eqb (address + 1) 1)) (eqb q 0) ≡ false
      go true = rw (ne_eqb (address + 1) 1 (λ e. omega arith))
      go false = refl

  back_later : (k address : ℕ) (vectors : List Vector) (ms : List Macroblock) (rest : List Bit) → 1 ≤ address → Each Ranged vectors → Coming size intra number (address + 1) k ms
      → Back (row_from k size intra number (address + 1) q vectors) (row_of k across intra q (address + 1) vectors ms) rest (record { gquant = q; macroblocks = ms; vectors = row_vectors k (address + 1) vectors ms })
  unfolding row_from row_of row_vectors
  back_later zero address vectors [] rest l r c = back_done _ rest
  back_later zero address vectors (m ∷ ms) rest l r c = absurd (omega (arith, c.end, c.rising.0, c.rising.1))
  back_later (suc k) address vectors ms rest l r c =
      back_slot k (address + 1) q [] vectors (headed_none number (address + 1) q (later_address address l)) r rest ms c
      (back_later k (address + 1) (vectors_after (address + 1) vectors ms) (after_head (address + 1) ms) rest (omega arith) (ranged_next size intra number k (address + 1) vectors ms r c)
      (coming_next size number (address + 1) k intra ms c))

  -- ---- and all of them, with what stands before the first
  pub back_row : (n : ℕ) (h : List Bit) (vectors : List Vector) (ms : List Macroblock) (rest : List Bit) → 1 ≤ n → Headed number 1 0 q h → Each Ranged vectors → Coming size intra number 1 n ms
      → Back (row_from n size intra number 1 0 vectors) (h ++ row_of n across intra q 1 vectors ms) rest (record { gquant = q; macroblocks = ms; vectors = row_vectors n 1 vectors ms })
  back_row zero h vectors ms rest some head r c = absurd (omega arith)
  back_row (suc k) h vectors ms rest some head r c =
      back_slot k 1 0 h vectors head r rest ms c
      (back_later k 1 (vectors_after 1 vectors ms) (after_head 1 ms) rest (omega arith) (ranged_next size intra number k 1 vectors ms r c) (coming_next size number 1 k intra ms c))
