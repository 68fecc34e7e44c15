-- The vectors that the macroblocks laid out so far say, and what predicts the next. Assumes nothing.
use Prim.Native.Nat.{ℕ, zero, suc, ◌+◌, ◌*◌, ◌%◌, ◌≤◌, ◌<◌}
use mathlib.Core.Path.{◌≡◌, refl, sym, ap, subst, ◌∙◌}
use mathlib.Core.Bool.{Bool, true, false}
use mathlib.Core.Logic.{◌⊎◌, inl, inr}
use mathlib.Core.List.{List, [], ◌∷◌, ◌++◌}
use native.Mathlib.Omega.{arith}
use native.Mathlib.Nat.{mod-eq_of_lt, mul-add-mod_self_right}
use lib.Dec.{lit<}
use lib.ListN.{length, get_or, set, replicate, length-set}
use lib.Seq.{sets, get_or-set_same, get_or-set_other, length-sets}
use Rattle.laws.proofs.Rows.{lt-or-ge, rows_less}
use Rattle.size.specs.declared.Size.{Size}
use Rattle.size.specs.Place.{macroblocks_across, macroblocks_down}
use Rattle.layout.specs.Value.{Vector, zero_vector, Macroblock}
use Rattle.layout.specs.Flat.{number_of, byte_of, fields_of}
use Rattle.layout.specs.Proper.{If}
use Rattle.h263_words.specs.Words.{is_inter}
use Rattle.h263_description.specs.declared.predicted.Kept.{Kept}
use Rattle.h263_description.specs.Vector.{vectors_of, predictor}
use Rattle.h263_description.specs.Value.{macroblocks_length, levels_length}
use Rattle.h263_description.specs.Proper.{ProperVector, ProperMacroblock}
use Rattle.h263_description.specs.Kept.{kept_vector, vectors_in, first_vectors, PredictorAsked}
use Rattle.h263_description.proofs.Groups.{some_across}
use Rattle.h263_description.proofs.Landing.{residue_low, component_residue}
use Rattle.h263_description.proofs.Predictor.{Ranged, zero_ranged, predictor_ranged}
use Rattle.h263_description.proofs.FirstVectors.{first_more, first_same, predictor_first}
use Rattle.h263_description.proofs.Described.{proper_storable}
use Rattle.h263_layers.specs.Answer.{vector_kept}

-- ---- what is laid out before macroblock n: vectors in range, and none from there on
pub record LaidSoFar (size : Size) (ms ls : List ℕ) (n : ℕ) : Type 0 where
  pub ms_long : length ms ≡ macroblocks_length size
  pub ls_long : length ls ≡ levels_length size
  pub ranged : (k : ℕ) → Ranged (vectors_in ms k)
  pub later : (k : ℕ) → n ≤ k → vectors_in ms k ≡ zero_vector

zeros_at : (m k : ℕ) → get_or {A = ℕ} (replicate m 0) k 0 ≡ 0
zeros_at zero k = refl
zeros_at (suc m) zero = refl
zeros_at (suc m) (suc k) = zeros_at m k

blank_vector : (ms : List ℕ) (m k : ℕ) → ms ≡ replicate m 0 → vectors_in ms k ≡ zero_vector
blank_vector ms m k e =
    let at : (j : ℕ) → get_or ms j 0 ≡ 0 = λ j. ap (λ (l : List ℕ). get_or l j 0) e ∙ zeros_at m j in
    λ i. record { horizontal = number_of (at (k * 4 + 2) i); vertical = number_of (at (k * 4 + 3) i) }

pub laid_none : (size : Size) (ms ls : List ℕ) → ms ≡ replicate (macroblocks_length size) 0 → length ms ≡ macroblocks_length size → length ls ≡ levels_length size → LaidSoFar size ms ls 0
laid_none size ms ls e lm ll = record {
  ms_long = lm;
  ls_long = ll;
  ranged = λ k. subst Ranged (sym (blank_vector ms (macroblocks_length size) k e)) zero_ranged;
  later = λ k h. blank_vector ms (macroblocks_length size) k e;
}

-- ---- four bytes, stored one after the other
module _ (l : List ℕ) (i a b c d : ℕ) where
  abbrev one : List ℕ
  one = set l i a

  abbrev two : List ℕ
  two = set one (suc i) b

  abbrev three : List ℕ
  three = set two (suc (suc i)) c

  two_long : length two ≡ length l
  two_long = length-set one (suc i) b ∙ length-set l i a

  three_long : length three ≡ length l
  three_long = length-set two (suc (suc i)) c ∙ two_long

  other_byte : (j : ℕ) → (j ≡ i → ⊥) → (j ≡ suc i → ⊥) → (j ≡ suc (suc i) → ⊥) → (j ≡ suc (suc (suc i)) → ⊥) → get_or (sets l i (a ∷ b ∷ c ∷ d ∷ [])) j 0 ≡ get_or l j 0
  other_byte j e f g h =
      get_or-set_other three (suc (suc (suc i))) j d 0 h ∙ get_or-set_other two (suc (suc i)) j c 0 g ∙ get_or-set_other one (suc i) j b 0 f ∙ get_or-set_other l i j a 0 e

  third_byte : i + 4 ≤ length l → get_or (sets l i (a ∷ b ∷ c ∷ d ∷ [])) (suc (suc i)) 0 ≡ c
  third_byte room =
      get_or-set_other three (suc (suc (suc i))) (suc (suc i)) d 0 (λ e. omega arith) ∙ get_or-set_same two (suc (suc i)) c 0 (omega (arith, two_long))

  fourth_byte : i + 4 ≤ length l → get_or (sets l i (a ∷ b ∷ c ∷ d ∷ [])) (suc (suc (suc i))) 0 ≡ d
  fourth_byte room = get_or-set_same three (suc (suc (suc i))) d 0 (omega (arith, three_long))

-- ---- a macroblock's
module _ (ms : List ℕ) (n : ℕ) (m : Macroblock) where
  abbrev stored : List ℕ
  stored = sets ms (n * 4) (fields_of m)

  pub vector_other : (k : ℕ) → (k ≡ n → ⊥) → vectors_in stored k ≡ vectors_in ms k
  vector_other k f = λ i. record { horizontal = number_of (at 2 (lit< tt) i); vertical = number_of (at 3 (lit< tt) i) }
    where
      far : (j b : ℕ) → j < 4 → b < 4 → k * 4 + j ≡ n * 4 + b → ⊥
      far j b l h e = f (omega arith)

      at : (j : ℕ) → j < 4 → get_or stored (k * 4 + j) 0 ≡ get_or ms (k * 4 + j) 0
      at j l =
          other_byte ms (n * 4) m.type m.quant (byte_of m.vector.horizontal) (byte_of m.vector.vertical) (k * 4 + j) (λ e. far j 0 l (lit< tt) (omega arith))
          (λ e. far j 1 l (lit< tt) (omega arith)) (λ e. far j 2 l (lit< tt) (omega arith)) (λ e. far j 3 l (lit< tt) (omega arith))

  module _ (room : n * 4 + 4 ≤ length ms) where
    across_byte : get_or stored (n * 4 + 2) 0 ≡ byte_of m.vector.horizontal
    across_byte =
        let at : n * 4 + 2 ≡ suc (suc (n * 4)) = omega arith in
        ap (λ (j : ℕ). get_or stored j 0) at ∙ third_byte ms (n * 4) m.type m.quant (byte_of m.vector.horizontal) (byte_of m.vector.vertical) room

    down_byte : get_or stored (n * 4 + 3) 0 ≡ byte_of m.vector.vertical
    down_byte =
        let at : n * 4 + 3 ≡ suc (suc (suc (n * 4))) = omega arith in
        ap (λ (j : ℕ). get_or stored j 0) at ∙ fourth_byte ms (n * 4) m.type m.quant (byte_of m.vector.horizontal) (byte_of m.vector.vertical) room

    module _ (size : Size) (intra : Bool) (number : ℕ) (p : ProperMacroblock size intra number m) where
      pub vector_own : vectors_in stored n ≡ m.vector
      vector_own =
          let s = proper_storable size intra number m p in
          let h = ap number_of across_byte ∙ s.horizontally in
          let v = ap number_of down_byte ∙ s.vertically in
          λ i. record { horizontal = h i; vertical = v i }

ranged_vector : (size : Size) (number address : ℕ) (inter : Bool) (v : Vector) → If inter (ProperVector size number address v) (v ≡ zero_vector) → Ranged v
ranged_vector size number address true v h = record { horizontally = h.horizontally; vertically = h.vertically }
ranged_vector size number address false v h = rw h zero_ranged

module _ {size : Size} {ms ls : List ℕ} {n : ℕ} (h : LaidSoFar size ms ls n) where
  -- ---- an unsent macroblock more
  pub laid_unsent : {n' : ℕ} → n + 1 ≡ n' → LaidSoFar size ms ls n'
  laid_unsent e = record { ms_long = h.ms_long; ls_long = h.ls_long; ranged = h.ranged; later = λ k l. h.later k (omega arith) }

  pub vectors_unsent : {n' : ℕ} → n + 1 ≡ n' → first_vectors ms n ++ zero_vector ∷ [] ≡ first_vectors ms n'
  vectors_unsent e = ap (λ (v : Vector). first_vectors ms n ++ v ∷ []) (sym (h.later n (omega arith))) ∙ first_more ms n ∙ ap (first_vectors ms) e

  -- ---- a macroblock more that is sent
  module _ (room : n * 4 + 4 ≤ length ms) {intra : Bool} {number : ℕ} {m : Macroblock} (p : ProperMacroblock size intra number m) {n' : ℕ} (e : n + 1 ≡ n') where
    pub laid_sent : {ls' : List ℕ} → length ls' ≡ length ls → LaidSoFar size (sets ms (n * 4) (fields_of m)) ls' n'
    laid_sent ll = record {
      ms_long = length-sets ms (n * 4) (fields_of m) ∙ h.ms_long;
      ls_long = ll ∙ h.ls_long;
      ranged = λ k. at k (lt-or-ge k n) (lt-or-ge n k);
      later = λ k l. vector_other ms n m k (λ z. omega arith) ∙ h.later k (omega arith);
    }
      where
        other : (k : ℕ) → (k ≡ n → ⊥) → Ranged (vectors_in (sets ms (n * 4) (fields_of m)) k)
        other k f = subst Ranged (sym (vector_other ms n m k f)) (h.ranged k)

        at : (k : ℕ) → (k < n) ⊎ (n ≤ k) → (n < k) ⊎ (k ≤ n) → Ranged (vectors_in (sets ms (n * 4) (fields_of m)) k)
        at k (inl l) b = other k (λ z. omega arith)
        at k (inr l) (inl b) = other k (λ z. omega arith)
        at k (inr l) (inr b) =
            let same : n ≡ k = omega arith in
            subst Ranged (sym (vector_own ms n m room size intra number p) ∙ ap (vectors_in (sets ms (n * 4) (fields_of m))) same)
            (ranged_vector size number m.address (is_inter m.type) m.vector p.pointed)

    pub vectors_sent : first_vectors ms n ++ m.vector ∷ [] ≡ first_vectors (sets ms (n * 4) (fields_of m)) n'
    vectors_sent =
        let stored = sets ms (n * 4) (fields_of m) in
        (λ i. first_same ms stored n (λ k l. sym (vector_other ms n m k (λ z. omega arith))) i ++ sym (vector_own ms n m room size intra number p) i ∷ [])
        ∙ first_more stored n ∙ ap (first_vectors stored) e

  -- ---- what predicts the next
  module _ (number column : ℕ) (at : number * macroblocks_across size + column ≡ n) (l : number < macroblocks_down size) (c : column < macroblocks_across size) where
    pub macroblock_room : n * 4 + 4 ≤ length ms
    macroblock_room = omega (arith, h.ms_long, rows_less (macroblocks_across size) l)

    pub predictor_asked : PredictorAsked ms (macroblocks_across size) n column
    predictor_asked = record {
      wide = some_across size;
      columned = sym (ap (λ (k : ℕ). k % macroblocks_across size) (sym at) ∙ mul-add-mod_self_right number (macroblocks_across size) column ∙ mod-eq_of_lt c);
      before = λ k b. record { whole = omega (arith, macroblock_room); horizontally = (h.ranged k).horizontally; vertically = (h.ranged k).vertically };
    }

    module _ (headed : Bool) {predicted : Kept} (is : predicted ≡ kept_vector (predictor (macroblocks_across size) headed (vectors_in ms) n)) where
      abbrev across : ℕ
      across = macroblocks_across size

      vector_ranged : Ranged (predictor across headed (vectors_in ms) n)
      vector_ranged = predictor_ranged across (some_across size) headed n (vectors_in ms) (λ k b. h.ranged k)

      pub predicted_low : (predicted.horizontal ≤ 63) × (predicted.vertical ≤ 63)
      predicted_low =
          let v = predictor across headed (vectors_in ms) n in
          let a = residue_low v.horizontal vector_ranged.horizontally in
          let b = residue_low v.vertical vector_ranged.vertically in
          (omega (arith, a, ap (λ (k : Kept). k.horizontal) is), omega (arith, b, ap (λ (k : Kept). k.vertical) is))

      pub predicted_is : vector_kept predicted ≡ predictor across headed (vectors_of (first_vectors ms n)) (length (first_vectors ms n))
      predicted_is =
          let v = predictor across headed (vectors_in ms) n in
          ap vector_kept is
          ∙ (λ i. record { horizontal = component_residue v.horizontal vector_ranged.horizontally i; vertical = component_residue v.vertical vector_ranged.vertically i })
          ∙ sym (predictor_first across headed ms n (some_across size))
