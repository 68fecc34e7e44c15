-- The rows of a picture as they are written, on plain values. Assumes nothing.
use mathlib.Core.Path.{◌≡◌, refl, sym, ap, ap₂, subst, ◌∙◌}
use mathlib.Core.Bool.{Bool, true, false}
use mathlib.Core.Logic.{◌⊎◌, inl, inr}
use mathlib.Core.List.{List, [], ◌∷◌, ◌++◌, append_assoc, append-nil}
use Prim.Native.Nat.{ℕ, zero, suc, ◌+◌, ◌-◌, ◌*◌, ◌≤◌, ◌<◌}
use native.Mathlib.Omega.{arith}
use native.Mathlib.Nat.{pos_of_ne-zero, mod-eq_of_lt, mul-add-mod_self_right}
use borrow.Author.Tests.{eq-eqb, ne_eqb}
use lib.Dec.{eqb}
use lib.ListN.{length, get_or, take, drop}
use lib.Seq.{drop-drop, get_or-drop}
use Rattle.laws.specs.Choice.{pick}
use Rattle.laws.proofs.Rows.{lt-or-ge}
use Rattle.bits.specs.Bits.{Bit, bits_of}
use Rattle.bits.specs.Appended.{WroteBits, CountablePlace}
use Rattle.bits.proofs.Appended.{wrote_none, wrote_as, wrote_then, next_countable}
use Rattle.layout.specs.Value.{Vector, zero_vector, Macroblock}
use Rattle.layout.specs.Flat.{number_of, vector_in, gathers, macroblock_in, macroblocks_in}
use Rattle.layout.proofs.Levels.{gathers-take}
use Rattle.layout.proofs.Gathered.{piece}
use Rattle.layout.proofs.Sent.{macroblocks_sent, macroblocks_not}
use Rattle.layout.proofs.Turns.{piece_length}
use Rattle.h263_description.specs.Vector.{predictor}
use Rattle.h263_description.specs.Fields.{stands}
use Rattle.h263_description.specs.Kept.{vectors_in, first_vectors}
use Rattle.h263_description.proofs.FirstVectors.{first_more, predictor_first}
use Rattle.h263_writer.specs.Write.{macroblock_of, vector_at_head, after_head, bits_at_head, row_of, row_vectors}
use Rattle.h263_writer.specs.Sound.{macroblock_at, SoundMacroblock, SoundPicture, row_bits}
use Rattle.h263_writer.specs.Asked.{MacroblockAsked, RowAsked}

-- ---- the next macroblock that is sent, at an address or after it
NotAt : ℕ → List Macroblock → Type 0
NotAt address [] = Unit {0}
NotAt address (m ∷ ms) = eqb m.address address ≡ false

not_before : (l a address : ℕ) (fields levels : List ℕ) → address < a → NotAt address (macroblocks_in l a fields levels)
unfolding macroblocks_in NotAt
not_before zero a address fields levels h = tt
not_before (suc l) a address fields levels h =
    go (get_or fields 0 0) (macroblock_in a fields levels) (macroblocks_in l (a + 1) (drop 4 fields) (drop 384 levels)) (not_before l (a + 1) address (drop 4 fields) (drop 384 levels) (omega arith))
    (ne_eqb a address (λ e. omega arith))
  where
    go : (type : ℕ) (m : Macroblock) (rest : List Macroblock) → NotAt address rest → eqb m.address address ≡ false → NotAt address (elim type as (λ n. List Macroblock) [ zero ↦ rest | suc n ↦ m ∷ rest ])
    go zero m rest r e = r
    go (suc type) m rest r e = e

module _ (address : ℕ) where
  bits_none : (intra : Bool) (p : Vector) (ms : List Macroblock) → NotAt address ms → bits_at_head intra p address ms ≡ bits_of 1 1
  unfolding NotAt
  bits_none intra p [] n = refl
  bits_none intra p (m ∷ ms) n = ap (λ (b : Bool). pick b (macroblock_of intra p m) (bits_of 1 1)) n

  vector_none : (ms : List Macroblock) → NotAt address ms → vector_at_head address ms ≡ zero_vector
  unfolding NotAt
  vector_none [] n = refl
  vector_none (m ∷ ms) n = ap (λ (b : Bool). pick b m.vector zero_vector) n

  after_none : (ms : List Macroblock) → NotAt address ms → after_head address ms ≡ ms
  unfolding NotAt
  after_none [] n = refl
  after_none (m ∷ ms) n = ap (λ (b : Bool). pick b ms (m ∷ ms)) n

-- ---- one macroblock of a row: its slot
module _ (l address : ℕ) (fields levels : List ℕ) where
  abbrev slot : List Macroblock
  slot = macroblocks_in (suc l) address fields levels

  abbrev others : List Macroblock
  others = macroblocks_in l (address + 1) (drop 4 fields) (drop 384 levels)

  later : NotAt address others
  later = not_before l (address + 1) address (drop 4 fields) (drop 384 levels) (omega arith)

  here : eqb address address ≡ true
  here = eq-eqb address address refl

  slot_unsent : (intra : Bool) (p : Vector) → get_or fields 0 0 ≡ 0 → bits_at_head intra p address slot ≡ bits_of 1 1
  slot_unsent intra p e = ap (bits_at_head intra p address) (macroblocks_not l address fields levels e) ∙ bits_none address intra p others later

  slot_sent : (intra : Bool) (p : Vector) → (get_or fields 0 0 ≡ 0 → ⊥) → bits_at_head intra p address slot ≡ macroblock_of intra p (macroblock_in address fields levels)
  slot_sent intra p n =
      ap (bits_at_head intra p address) (macroblocks_sent l address fields levels n) ∙ ap (λ (b : Bool). pick b (macroblock_of intra p (macroblock_in address fields levels)) (bits_of 1 1)) here

  by_type : {A : Type 0} → (get_or fields 0 0 ≡ 0 → A) → ((get_or fields 0 0 ≡ 0 → ⊥) → A) → A
  by_type {A} f g = go (lt-or-ge 0 (get_or fields 0 0))
    where
      go : (0 < get_or fields 0 0) ⊎ (get_or fields 0 0 ≤ 0) → A
      go (inl h) = g (λ e. omega arith)
      go (inr h) = f (omega arith)

  slot_vector : (get_or fields 0 0 ≡ 0 → vector_in fields ≡ zero_vector) → vector_at_head address slot ≡ vector_in fields
  slot_vector still =
      by_type (λ e. ap (vector_at_head address) (macroblocks_not l address fields levels e) ∙ vector_none address others later ∙ sym (still e))
      (λ n. ap (vector_at_head address) (macroblocks_sent l address fields levels n) ∙ ap (λ (b : Bool). pick b (vector_in fields) zero_vector) here)

  slot_after : after_head address slot ≡ others
  slot_after =
      by_type (λ e. ap (after_head address) (macroblocks_not l address fields levels e) ∙ after_none address others later)
      (λ n. ap (after_head address) (macroblocks_sent l address fields levels n) ∙ ap (λ (b : Bool). pick b others (macroblock_in address fields levels ∷ others)) here)

-- ---- a row, from macroblock n of a sound picture on
module _ {count : ℕ} {intra : Bool} {macroblocks levels : List ℕ} (ok : SoundPicture count intra macroblocks levels) where
  -- l macroblocks from an address on
  abbrev from : ℕ → ℕ → ℕ → List Macroblock
  from n l address = macroblocks_in l address (drop (n * 4) macroblocks) (drop (n * 384) levels)

  module _ (n : ℕ) where
    byte_at : (j : ℕ) → get_or (drop (n * 4) macroblocks) j 0 ≡ get_or macroblocks (n * 4 + j) 0
    byte_at j = get_or-drop (n * 4) macroblocks j 0

    type_at : get_or (drop (n * 4) macroblocks) 0 0 ≡ get_or macroblocks (n * 4) 0
    type_at = let z : n * 4 + 0 ≡ n * 4 = omega arith in byte_at 0 ∙ ap (λ (k : ℕ). get_or macroblocks k 0) z

    vector_at_lem : vector_in (drop (n * 4) macroblocks) ≡ vectors_in macroblocks n
    vector_at_lem = λ i. record { horizontal = number_of (byte_at 2 i); vertical = number_of (byte_at 3 i) }

    next_bytes : drop 4 (drop (n * 4) macroblocks) ≡ drop ((n + 1) * 4) macroblocks
    next_bytes = let e : n * 4 + 4 ≡ (n + 1) * 4 = omega arith in drop-drop 4 (n * 4) macroblocks ∙ ap (λ (k : ℕ). drop k macroblocks) e

    next_levels : drop 384 (drop (n * 384) levels) ≡ drop ((n + 1) * 384) levels
    next_levels = let e : n * 384 + 384 ≡ (n + 1) * 384 = omega arith in drop-drop 384 (n * 384) levels ∙ ap (λ (k : ℕ). drop k levels) e

    module _ (h : n < count) (l address : ℕ) where
      after_is : after_head address (from n (suc l) address) ≡ from (n + 1) l (address + 1)
      after_is = slot_after l address (drop (n * 4) macroblocks) (drop (n * 384) levels) ∙ ap₂ (macroblocks_in l (address + 1)) next_bytes next_levels

      vectors_are : first_vectors macroblocks n ++ (vector_at_head address (from n (suc l) address) ∷ []) ≡ first_vectors macroblocks (n + 1)
      vectors_are =
          ap (λ (v : Vector). first_vectors macroblocks n ++ (v ∷ []))
          (slot_vector l address (drop (n * 4) macroblocks) (drop (n * 384) levels) (λ e. vector_at_lem ∙ ok.unsent n h (sym type_at ∙ e)) ∙ vector_at_lem)
          ∙ first_more macroblocks n

      row_step : (across gquant : ℕ) → 1 ≤ across
          → row_of (suc l) across intra gquant address (first_vectors macroblocks n) (from n (suc l) address)
          ≡ bits_at_head intra (predictor across (stands gquant) (vectors_in macroblocks) n) address (from n (suc l) address)
          ++ row_of l across intra gquant (address + 1) (first_vectors macroblocks (n + 1)) (from (n + 1) l (address + 1))
      unfolding row_of
      row_step across gquant w =
          λ i. bits_at_head intra (predictor_first across (stands gquant) macroblocks n w i) address (from n (suc l) address) ++ row_of l across intra gquant (address + 1) (vectors_are i) (after_is i)

      vectors_step : row_vectors (suc l) address (first_vectors macroblocks n) (from n (suc l) address) ≡ row_vectors l (address + 1) (first_vectors macroblocks (n + 1)) (from (n + 1) l (address + 1))
      unfolding row_vectors
      vectors_step = λ i. row_vectors l (address + 1) (vectors_are i) (after_is i)

  pub row_vectors_lem : (l n address : ℕ) → n + l ≤ count → row_vectors l address (first_vectors macroblocks n) (from n l address) ≡ first_vectors macroblocks (n + l)
  unfolding row_vectors
  row_vectors_lem zero n address h = let e : n ≡ n + 0 = omega arith in ap (first_vectors macroblocks) e
  row_vectors_lem (suc l) n address h =
      let e : n + 1 + l ≡ n + suc l = omega arith in
      vectors_step n (omega arith) l address ∙ row_vectors_lem l (n + 1) (address + 1) (omega arith) ∙ ap (first_vectors macroblocks) e

-- ---- the macroblocks of a row: k are behind
-- so many of them, from an address and a number in the picture on
abbrev row_from : ℕ → ℕ → Bool → ℕ → ℕ → ℕ → List ℕ → List ℕ → List Bit
row_from left across intra gquant address n macroblocks levels =
    row_of left across intra gquant address (first_vectors macroblocks n) (macroblocks_in left address (drop (n * 4) macroblocks) (drop (n * 384) levels))

pub record RowSoFar (whole : List Bit) (macroblocks levels : List ℕ) (across number gquant : ℕ) (intra : Bool) (s : List ℕ) (at : ℕ) (t : List ℕ) (place k : ℕ) : Type 0 where
  pub left : ℕ
  pub count : k + left ≡ across
  pub bits : List Bit
  pub wrote : WroteBits bits s at t place
  pub same : whole ≡ bits ++ row_from left across intra gquant (k + 1) (number * across + k) macroblocks levels

pub row_begin : (macroblocks levels : List ℕ) (across number gquant : ℕ) (intra : Bool) (s : List ℕ) (at : ℕ)
    → RowSoFar (row_bits across intra gquant number macroblocks levels) macroblocks levels across number gquant intra s at s at 0
row_begin macroblocks levels across number gquant intra s at =
    let z : number * across ≡ number * across + 0 = omega arith in
    record {
      left = across;
      count = omega arith;
      bits = [];
      wrote = wrote_none s at;
      same = ap (λ (n : ℕ). row_from across across intra gquant 1 n macroblocks levels) z;
    }

row_none : (n across : ℕ) (intra : Bool) (gquant address : ℕ) (vectors : List Vector) (ms : List Macroblock) → n ≡ 0 → row_of n across intra gquant address vectors ms ≡ []
unfolding row_of
row_none zero across intra gquant address vectors ms e = refl
row_none (suc n) across intra gquant address vectors ms e = absurd (omega arith)

module _ {whole : List Bit} {macroblocks levels : List ℕ} {across number gquant : ℕ} {intra : Bool} {s : List ℕ} {at : ℕ} {t : List ℕ} {place k : ℕ}
    (h : RowSoFar whole macroblocks levels across number gquant intra s at t place k)
  where
    pub row_done : across ≤ k → WroteBits whole s at t place
    row_done l =
        wrote_as h.wrote (sym (h.same ∙ ap (λ (x : List Bit). h.bits ++ x) (row_none h.left across intra gquant (k + 1) _ _ (omega (arith, h.count))) ∙ append-nil h.bits))

    module _ {tables : List ℕ} (a : RowAsked tables macroblocks levels across number gquant intra at) (l : k < across) where
      -- its number in the picture
      abbrev own : ℕ
      own = number * across + k

      own_inside : own < a.count
      own_inside = omega (arith, a.inside)

      pub row_room : own * 4 + 4 ≤ length macroblocks
      row_room = omega (arith, own_inside, a.sound.macroblocks_long)

      pub levels_room : own * 384 + 384 ≤ length levels
      levels_room = omega (arith, own_inside, a.sound.levels_long)

      abbrev predicted : Vector
      predicted = predictor across (stands gquant) (vectors_in macroblocks) own

      abbrev rest : List Bit
      rest = row_from (across - suc k) across intra gquant (k + 1 + 1) (number * across + (k + 1)) macroblocks levels

      row_on : whole ≡ h.bits ++ (bits_at_head intra predicted (k + 1) (macroblocks_in (suc (across - suc k)) (k + 1) (drop (own * 4) macroblocks) (drop (own * 384) levels)) ++ rest)
      row_on =
          let one : h.left ≡ suc (across - suc k) = omega (arith, h.count) in
          let more : own + 1 ≡ number * across + (k + 1) = omega arith in
          h.same
          ∙ ap (λ (x : List Bit). h.bits ++ x)
          (ap (λ (n : ℕ). row_from n across intra gquant (k + 1) own macroblocks levels) one
          ∙ row_step a.sound own own_inside (across - suc k) (k + 1) across gquant a.wide
          ∙ ap (λ (n : ℕ). bits_at_head intra predicted (k + 1) (macroblocks_in (suc (across - suc k)) (k + 1) (drop (own * 4) macroblocks) (drop (own * 384) levels))
          ++ row_from (across - suc k) across intra gquant (k + 1 + 1) n macroblocks levels) more)

      -- these bits, and the rest
      row_with : (w : List Bit) → whole ≡ h.bits ++ (w ++ rest) → {u : List ℕ} {q : ℕ} → WroteBits w t place u q → RowSoFar whole macroblocks levels across number gquant intra s at u q (k + 1)
      row_with w e g = record {
        left = across - suc k;
        count = omega arith;
        bits = h.bits ++ w;
        wrote = wrote_then h.wrote g;
        same = e ∙ sym (append_assoc h.bits w rest);
      }

      module _ (e : get_or macroblocks (own * 4) 0 ≡ 0) where
        unsent_on : whole ≡ h.bits ++ (bits_of 1 1 ++ rest)
        unsent_on =
            row_on
            ∙ ap (λ (w : List Bit). h.bits ++ (w ++ rest))
            (slot_unsent (across - suc k) (k + 1) (drop (own * 4) macroblocks) (drop (own * 384) levels) intra predicted (type_at a.sound own ∙ e))

        pub unsent_counts : CountablePlace at whole → CountablePlace place (bits_of 1 1)
        unsent_counts c = next_countable h.wrote (bits_of 1 1) rest unsent_on c

        pub row_unsent : {u : List ℕ} {q : ℕ} → WroteBits (bits_of 1 1) t place u q → RowSoFar whole macroblocks levels across number gquant intra s at u q (k + 1)
        row_unsent g = row_with (bits_of 1 1) unsent_on g

      module _ (e : get_or macroblocks (own * 4) 0 ≡ 0 → ⊥) {headed : Bool} (f : headed ≡ stands gquant) where
        abbrev own_levels : List ℕ
        own_levels = take (own * 384 + 384 - own * 384) (drop (own * 384) levels)

        abbrev own_bits : List Bit
        own_bits = macroblock_of intra (predictor across headed (vectors_in macroblocks) own) (macroblock_at (k + 1) macroblocks own own_levels)

        macroblock_is : macroblock_in (k + 1) (drop (own * 4) macroblocks) (drop (own * 384) levels) ≡ macroblock_at (k + 1) macroblocks own own_levels
        macroblock_is = λ i. record {
          address = k + 1;
          type = type_at a.sound own i;
          quant = byte_at a.sound own 1 i;
          vector = vector_at_lem a.sound own i;
          blocks = sym (ap (gathers 6) (piece levels (own * 384) 384) ∙ gathers-take 6 (drop (own * 384) levels)) i;
        }

        sent_on : whole ≡ h.bits ++ (own_bits ++ rest)
        sent_on =
            row_on
            ∙ ap (λ (w : List Bit). h.bits ++ (w ++ rest))
            (slot_sent (across - suc k) (k + 1) (drop (own * 4) macroblocks) (drop (own * 384) levels) intra predicted (λ z. e (sym (type_at a.sound own) ∙ z))
            ∙ (λ i. macroblock_of intra (predictor across (sym f i) (vectors_in macroblocks) own) (macroblock_is i)))

        -- what the macroblock asks
        pub macroblock_asked : CountablePlace at whole → MacroblockAsked tables macroblocks own_levels across own k intra headed place
        macroblock_asked c = record {
          tables = a.tables;
          before = record {
            wide = a.wide;
            columned = sym (mul-add-mod_self_right number across k ∙ mod-eq_of_lt l);
            before = λ j m. a.sound.near j (omega (arith, own_inside));
          };
          own = a.sound.near own own_inside;
          levels_long = piece_length levels (own * 384) 384 levels_room;
          sound = subst (SoundMacroblock intra (get_or macroblocks (own * 4) 0) (get_or macroblocks (own * 4 + 1) 0)) (sym (piece levels (own * 384) 384)) (a.sound.sent own own_inside (pos_of_ne-zero e));
          counts = next_countable h.wrote own_bits rest sent_on c;
        }

        pub row_sent : {u : List ℕ} {q : ℕ} → WroteBits own_bits t place u q → RowSoFar whole macroblocks levels across number gquant intra s at u q (k + 1)
        row_sent g = row_with own_bits sent_on g
