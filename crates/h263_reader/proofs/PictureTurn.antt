-- The nested loops over groups and macroblocks: what holds at each turn, and each way out. Assumes nothing.
use Rattle.std.specs.Prelude.{Option, None, Some}
use Prim.Native.Nat.{ℕ, zero, suc, ◌+◌, ◌*◌, ◌≤◌, ◌<◌}
use mathlib.Core.Path.{◌≡◌, refl, sym, ap, subst, ◌∙◌}
use mathlib.Core.Bool.{Bool, true, false}
use mathlib.Core.List.{List, []}
use native.Mathlib.Omega.{arith}
use lib.Dec.{leb, leb→le, lit≤}
use lib.ListN.{length, set, drop, length-set, length-replicate, drop_of_length-le}
use lib.Seq.{sets}
use Rattle.laws.proofs.Choice.{both_right}
use Rattle.laws.proofs.Rows.{rows_in}
use Rattle.bits.specs.Bits.{bits_left}
use Rattle.bits.specs.Places.{counted}
use Rattle.bits.specs.Read.{ReadIn, got, refused}
use Rattle.bits.specs.Answer.{Placed}
use Rattle.bits.specs.declared.Place.{Place}
use Rattle.bits.specs.declared.Stopped.{Stopped}
use Rattle.fields.specs.Answer.{map_read, leaving, stopped_of}
use Rattle.fields.specs.declared.CountedRead.{CountedRead}
use Rattle.fields.specs.declared.CountedRead.TheVariants.{Got, Refused}
use Rattle.fields.proofs.Meaning.{was_got, was_refused, onward}
use Rattle.fields.proofs.Told.{within_next, no_place, is_place}
use Rattle.size.specs.declared.Size.{Size}
use Rattle.size.specs.declared.Size.TheVariants.{SubQcif, Qcif, Cif}
use Rattle.size.specs.Place.{macroblocks_across, macroblocks_down}
use Rattle.layout.specs.Value.{Vector, Macroblock}
use Rattle.layout.specs.Flat.{Flat, flat, index, fields_of, put_groups}
use Rattle.h263_words.specs.Words.{type_in}
use Rattle.h263_description.specs.declared.predicted.Kept.{Kept}
use Rattle.h263_description.specs.Vector.{vectors_of, predictor}
use Rattle.h263_description.specs.Value.{shape, group_numbers, head_length, macroblocks_length, levels_length}
use Rattle.h263_description.specs.Fields.{stands}
use Rattle.h263_description.specs.Kept.{kept_vector, vectors_in, first_vectors, PredictorAsked}
use Rattle.h263_description.specs.Proper.{ProperGquant}
use Rattle.h263_description.proofs.Groups.{groups_listed}
use Rattle.h263_description.proofs.Parts.{intra_type}
use Rattle.h263_layers.specs.Answer.{vector_kept, slot_in, opened_of, as_opened, Sent, sent_in, put_sent}
use Rattle.h263_layers.specs.Ready.{MacroblockReady}
use Rattle.h263_layers.specs.Grammar.{unsent, coded, macroblock, Opened, opened, groups_read}
use Rattle.h263_layers.specs.declared.Opened as O
use Rattle.h263_layers.proofs.Layers.{Typed, MacroblockGood, macroblock_reads, OpenedGood, opened_reads}
use Rattle.h263_reader.specs.Described.{GroupsReady}
use Rattle.h263_reader.proofs.Vectors.{LaidSoFar, laid_none, laid_unsent, vectors_unsent, laid_sent, vectors_sent, macroblock_room, predictor_asked, predicted_low, predicted_is}
use Rattle.h263_reader.proofs.RowTurn.{groups_on, row_on, groups_none, groups_row, row_none, row_no_slot, row_unsent, row_no_macroblock, row_sent}

-- ---- small facts
no_gquant : (number : ℕ) → ProperGquant number 0
no_gquant zero = refl
no_gquant (suc number) = lit≤ tt

pub gquant_low : (number gquant : ℕ) → ProperGquant number gquant → gquant ≤ 31
gquant_low zero gquant h = omega arith
gquant_low (suc number) gquant h = h

-- a kind whose type may stand is below 24
type_low : (intra : Bool) (type : ℕ) → Typed intra type → type ≤ 4
type_low true type t = let l = (intra_type type t).1 in omega arith
type_low false type t = leb→le type 4 (both_right (leb 1 type) (leb type 4) t)

kind_low : (intra : Bool) (kind : ℕ) → Typed intra (type_in kind) → kind ≤ 23
kind_low intra kind t = let l = type_low intra (type_in kind) t in omega arith

-- the number of the macroblock in a column of a row
abbrev number_in : Size → ℕ → ℕ → ℕ
number_in size number column = number * macroblocks_across size + column

count_most : (size : Size) → macroblocks_down size * macroblocks_across size ≤ 396
count_most SubQcif = lit≤ tt
count_most Qcif = lit≤ tt
count_most Cif = lit≤ tt

-- the code's own numbers of the size
pub below : (k all c : ℕ) → k < all → all ≡ c → k < c
below k all c l e = omega arith

pub number_low : (size : Size) (number column across : ℕ) → number < macroblocks_down size → column < macroblocks_across size → across ≡ macroblocks_across size → number * across + column < 396
number_low size number column across l c e =
    let inside = rows_in (macroblocks_down size) (macroblocks_across size) number column l c in
    let same : number * across ≡ number * macroblocks_across size = ap (λ (w : ℕ). number * w) e in
    omega (arith, count_most size)

-- ---- inside a group: the columns from this one on are to come
pub record InRow (start : ReadIn counted Flat) (s : List ℕ) (n : ℕ) (size : Size) (intra : Bool) (number : ℕ) (head ms ls : List ℕ) (gquant column : ℕ) (p : Place) : Type 0 where
  pub placed : Placed s n p
  pub left : ℕ
  pub count : column + left ≡ macroblocks_across size
  pub quantised : ProperGquant number gquant
  pub laid : LaidSoFar size ms ls (number_in size number column)
  pub same : start ≡ row_on size intra number left (column + 1) gquant (flat head ms ls) (first_vectors ms (number_in size number column)) (bits_left s n p.bit) p

module _ {start : ReadIn counted Flat} {s : List ℕ} {n : ℕ} {size : Size} {intra : Bool} {number : ℕ} {head ms ls : List ℕ} {gquant column : ℕ} {p : Place} (h : InRow start s n size intra number head ms ls gquant column p) (c : column < macroblocks_across size) where
  -- one is to come
  some : (rest : ℕ) × (h.left ≡ suc rest)
  some = from h.left h.count
    where
      from : (left : ℕ) → column + left ≡ macroblocks_across size → (rest : ℕ) × (left ≡ suc rest)
      from zero e = absurd (omega arith)
      from (suc rest) e = (rest, refl)

  turn : start ≡ row_on size intra number (suc some.0) (column + 1) gquant (flat head ms ls) (first_vectors ms (number_in size number column)) (bits_left s n p.bit) p
  turn = h.same ∙ ap (λ (k : ℕ). row_on size intra number k (column + 1) gquant (flat head ms ls) (first_vectors ms (number_in size number column)) (bits_left s n p.bit) p) some.1

  counted_on : column + 1 + some.0 ≡ macroblocks_across size
  counted_on = omega (arith, h.count, some.1)

  following : number_in size number column + 1 ≡ number_in size number (column + 1)
  following = omega arith

  module _ (r : CountedRead O.Opened) (w : as_opened s n r ≡ opened intra number (column + 1) gquant (bits_left s n p.bit) p) where
    is_opened : (x : CountedRead O.Opened) → r ≡ x → opened {P = counted} intra number (column + 1) gquant (bits_left s n p.bit) p ≡ as_opened s n x
    is_opened x e = sym w ∙ ap (as_opened s n) e

    -- ---- refused there
    pub row_unopened : {why : Stopped} → r ≡ Refused why → refused (stopped_of r) ≡ start
    row_unopened {why} e =
        ap (λ (x : CountedRead O.Opened). refused (stopped_of x)) e
        ∙ sym (turn ∙ row_no_slot size intra number (column + 1) gquant (flat head ms ls) _ (bits_left s n p.bit) p some.0 why (is_opened (Refused why) e))

    module _ (o : O.Opened) (z : Place) (e : r ≡ Got o z) where
      slot_is : (m : Option ℕ) → o.mcbpc ≡ m → opened {P = counted} intra number (column + 1) gquant (bits_left s n p.bit) p ≡ got (opened_of o.gquant (slot_in m)) (bits_left s n z.bit) z
      slot_is m k = is_opened (Got o z) e ∙ ap (λ (x : Option ℕ). got (opened_of o.gquant (slot_in x)) (bits_left s n z.bit) z) k

      slot_led : (m : Option ℕ) → o.mcbpc ≡ m → Placed s n z × OpenedGood intra number (opened_of o.gquant (slot_in m))
      slot_led m k =
          let reads = opened_reads intra number (column + 1) gquant h.quantised in
          (within_next s n p _ z reads h.placed (slot_is m k), (onward s n p _ z reads h.placed.within.inside (slot_is m k)).good)

    -- ---- an unsent macroblock
    pub row_skipped : (o : O.Opened) (z : Place) → r ≡ Got o z → o.mcbpc ≡ None → InRow start s n size intra number head ms ls o.gquant (column + 1) z
    row_skipped o z e k =
        let led = slot_led o z e None k in
        record {
          placed = led.0;
          left = some.0;
          count = counted_on;
          quantised = led.1.0;
          laid = laid_unsent h.laid following;
          same =
              turn ∙ row_unsent size intra number (column + 1) gquant (flat head ms ls) _ (bits_left s n p.bit) p some.0 o.gquant (bits_left s n z.bit) z (slot_is o z e None k)
              ∙ ap (λ (vs : List Vector). row_on size intra number some.0 (column + 1 + 1) o.gquant (flat head ms ls) vs (bits_left s n z.bit) z) (vectors_unsent h.laid following);
        }

    -- ---- one that is sent; the code has its own number of macroblocks across
    module _ (o : O.Opened) (kind : ℕ) (z : Place) (e : r ≡ Got o z) (k : o.mcbpc ≡ Some kind) (l : number < macroblocks_down size) {across : ℕ} (ae : across ≡ macroblocks_across size) where
      abbrev q : ℕ
      q = o.gquant

      is_sent : opened {P = counted} intra number (column + 1) gquant (bits_left s n p.bit) p ≡ got (opened_of q (coded kind)) (bits_left s n z.bit) z
      is_sent = slot_is o z e (Some kind) k

      led : Placed s n z × OpenedGood intra number (opened_of q (coded kind))
      led = slot_led o z e (Some kind) k

      pub slot_placed : Placed s n z
      slot_placed = led.0

      pub row_asked : PredictorAsked ms across (number * across + column) column
      row_asked = subst (λ (w : ℕ). PredictorAsked ms w (number * w + column) column) (sym ae) (predictor_asked h.laid number column refl l c)

      module _ (headed : Bool) (he : headed ≡ stands q) (predicted : Kept) (kept : predicted ≡ kept_vector (predictor across headed (vectors_in ms) (number * across + column))) where
        is : predicted ≡ kept_vector (predictor (macroblocks_across size) headed (vectors_in ms) (number_in size number column))
        is = kept ∙ ap (λ (w : ℕ). kept_vector (predictor w headed (vectors_in ms) (number * w + column))) ae

        pub macroblock_ready : MacroblockReady size number (column + 1) predicted kind ms ls
        macroblock_ready =
            let low = predicted_low h.laid number column refl l c headed is in
            record {
              vectored = record { last_group = l; first_address = omega arith; last_address = omega arith; horizontally = low.0; vertically = low.1 };
              typed = kind_low intra kind led.1.1;
              macroblocks_long = h.laid.ms_long;
              levels_long = h.laid.ls_long;
            }

        abbrev vectors : List Vector
        vectors = first_vectors ms (number_in size number column)

        abbrev aim : Vector
        aim = predictor (macroblocks_across size) (stands q) (vectors_of vectors) (length vectors)

        aimed : vector_kept predicted ≡ aim
        aimed =
            predicted_is h.laid number column refl l c headed is
            ∙ ap (λ (b : Bool). predictor (macroblocks_across size) b (vectors_of vectors) (length vectors)) he

        module _ (t : CountedRead (Unit {0})) (ms' ls' : List ℕ)
            (v : leaving s n t (sent_in ms' ls') ≡ map_read (put_sent (macroblocks_across size) number ms ls) (macroblock size number (column + 1) (vector_kept predicted) kind (bits_left s n z.bit) z)) where
          read_is : leaving s n t (sent_in ms' ls') ≡ map_read (put_sent (macroblocks_across size) number ms ls) (macroblock size number (column + 1) aim kind (bits_left s n z.bit) z)
          read_is = v ∙ ap (λ (a : Vector). map_read (put_sent (macroblocks_across size) number ms ls) (macroblock size number (column + 1) a kind (bits_left s n z.bit) z)) aimed

          pub row_unsaid : {why : Stopped} → t ≡ Refused why → refused (stopped_of t) ≡ start
          row_unsaid y =
              let no = was_refused (put_sent (macroblocks_across size) number ms ls) (macroblock size number (column + 1) aim kind (bits_left s n z.bit) z) (stopped_of t)
              (no_place s n (sent_in ms' ls') t y read_is) in
              sym (turn ∙ row_no_macroblock size intra number (column + 1) gquant (flat head ms ls) vectors (bits_left s n p.bit) p some.0 q kind (bits_left s n z.bit) z is_sent (stopped_of t) no)

          module _ (y : Place) (d : t ≡ Got tt y) where
            was : (m : Macroblock) × (macroblock {P = counted} size number (column + 1) aim kind (bits_left s n z.bit) z ≡ got m (bits_left s n y.bit) y) × (put_sent (macroblocks_across size) number ms ls m ≡ sent_in ms' ls')
            was = was_got (put_sent (macroblocks_across size) number ms ls) (macroblock size number (column + 1) aim kind (bits_left s n z.bit) z) (sent_in ms' ls') (bits_left s n y.bit) y
                (is_place s n (sent_in ms' ls') t y read_is d)

            abbrev m : Macroblock
            m = was.0

            good : MacroblockGood size intra number (column + 1) m
            good = (onward s n z m y (macroblock_reads size intra number (column + 1) aim kind led.1.1) led.0.within.inside was.1).good

            numbered : index (macroblocks_across size) number m.address ≡ number_in size number column
            numbered = let e = good.0 in omega arith

            room : number_in size number column * 4 + 4 ≤ length ms
            room = macroblock_room h.laid number column refl l c

            stored : ms' ≡ sets ms (number_in size number column * 4) (fields_of m)
            stored = sym (ap (λ (x : Sent). x.macroblocks) was.2) ∙ ap (λ (k : ℕ). sets ms (k * 4) (fields_of m)) numbered

            pub row_laid_lem : length ls' ≡ length ls → InRow start s n size intra number head ms' ls' q (column + 1) y
            row_laid_lem ll = record {
              placed = within_next s n z m y (macroblock_reads size intra number (column + 1) aim kind led.1.1) led.0 was.1;
              left = some.0;
              count = counted_on;
              quantised = led.1.0;
              laid = subst (λ (x : List ℕ). LaidSoFar size x ls' (number_in size number (column + 1))) (sym stored) (laid_sent h.laid room good.1 following ll);
              same =
                  turn ∙ row_sent size intra number (column + 1) gquant (flat head ms ls) vectors (bits_left s n p.bit) p some.0 q kind (bits_left s n z.bit) z is_sent m (bits_left s n y.bit) y was.1
                  ∙ (λ i. row_on size intra number some.0 (column + 1 + 1) q (flat head (was.2 i).macroblocks (was.2 i).levels) (vectors_sent h.laid room good.1 following i) (bits_left s n y.bit) y)
                  ∙ ap (λ (x : List ℕ). row_on size intra number some.0 (column + 1 + 1) q (flat head ms' ls') (first_vectors x (number_in size number (column + 1))) (bits_left s n y.bit) y) (sym stored);
            }

-- ---- between groups: the groups from this number on are to come
pub record PictureSoFar (start : ReadIn counted Flat) (s : List ℕ) (n : ℕ) (size : Size) (intra : Bool) (head ms ls : List ℕ) (number : ℕ) (p : Place) : Type 0 where
  pub placed : Placed s n p
  pub most : number ≤ macroblocks_down size
  pub head_long : length head ≡ head_length size
  pub laid : LaidSoFar size ms ls (number * macroblocks_across size)
  pub same : start ≡ groups_on size intra number (flat head ms ls) (first_vectors ms (number * macroblocks_across size)) (bits_left s n p.bit) p

-- all groups, laid out over what the buffers hold
abbrev pub groups_laid : Size → Bool → List ℕ → ℕ → Place → Flat → ReadIn counted Flat
groups_laid size intra s n at d = map_read (put_groups (shape size) 0 d) (groups_read size intra (group_numbers size) [] (bits_left s n at.bit) at)

-- a group's macroblocks and the groups after it, over what the buffers hold as it begins
abbrev pub row_laid : Size → Bool → List ℕ → ℕ → ℕ → Place → Flat → ReadIn counted Flat
row_laid size intra s n number at d =
    row_on size intra number (macroblocks_across size) 1 0 d (first_vectors d.macroblocks (number * macroblocks_across size)) (bits_left s n at.bit) at

pub picture_first : {tables s : List ℕ} {n : ℕ} {p : Place} {size : Size} {head ms ls : List ℕ} (intra : Bool) → GroupsReady tables s n p size head ms ls
    → PictureSoFar (groups_laid size intra s n p (flat head ms ls)) s n size intra head ms ls 0 p
unfolding first_vectors
picture_first {s = s} {n} {p} {size} {head} {ms} {ls} intra a =
    let none : 0 ≡ 0 * macroblocks_across size = omega arith in
    let long : length ms ≡ macroblocks_length size = ap length a.ms_blank ∙ length-replicate (macroblocks_length size) 0 in
    record {
      placed = a.reading.placed;
      most = omega arith;
      head_long = a.head_long;
      laid = subst (λ (k : ℕ). LaidSoFar size ms ls k) none (laid_none size ms ls a.ms_blank long a.ls_long);
      same = ap (λ (k : ℕ). groups_on size intra 0 (flat head ms ls) (first_vectors ms k) (bits_left s n p.bit) p) none;
    }

-- ---- the first column
pub row_first : {start : ReadIn counted Flat} {s : List ℕ} {n : ℕ} {size : Size} {intra : Bool} {head ms ls : List ℕ} {number : ℕ} {p : Place} → PictureSoFar start s n size intra head ms ls number p
    → InRow (row_laid size intra s n number p (flat head ms ls)) s n size intra number head ms ls 0 0 p
row_first {s = s} {n} {size} {intra} {head} {ms} {ls} {number} {p} h =
    let at : number * macroblocks_across size ≡ number_in size number 0 = omega arith in
    record {
      placed = h.placed;
      left = macroblocks_across size;
      count = omega arith;
      quantised = no_gquant number;
      laid = subst (λ (k : ℕ). LaidSoFar size ms ls k) at h.laid;
      same = ap (λ (k : ℕ). row_on size intra number (macroblocks_across size) 1 0 (flat head ms ls) (first_vectors ms k) (bits_left s n p.bit) p) at;
    }

-- ---- after the last column
pub row_done : {start : ReadIn counted Flat} {s : List ℕ} {n : ℕ} {size : Size} {intra : Bool} {number : ℕ} {head ms ls : List ℕ} {gquant column : ℕ} {p : Place} → InRow start s n size intra number head ms ls gquant column p
    → macroblocks_across size ≤ column → number < macroblocks_down size → length head ≡ head_length size → PictureSoFar start s n size intra (set head (5 + number) gquant) ms ls (number + 1) p
row_done {start} {s} {n} {size} {intra} {number} {head} {ms} {ls} {gquant} {column} {p} h l m long =
    let none : h.left ≡ 0 = omega (arith, h.count) in
    let at : number_in size number column ≡ (number + 1) * macroblocks_across size = omega (arith, h.count) in
    record {
      placed = h.placed;
      most = omega arith;
      head_long = length-set head (5 + number) gquant ∙ long;
      laid = subst (λ (k : ℕ). LaidSoFar size ms ls k) at h.laid;
      same =
          h.same ∙ (λ i. row_on size intra number (none i) (column + 1) gquant (flat head ms ls) (first_vectors ms (at i)) (bits_left s n p.bit) p)
          ∙ row_none size intra number (column + 1) gquant (flat head ms ls) (first_vectors ms ((number + 1) * macroblocks_across size)) (bits_left s n p.bit) p;
    }

-- what is so of a group's start is so of the picture's
module _ {start : ReadIn counted Flat} {s : List ℕ} {n : ℕ} {size : Size} {intra : Bool} {head ms ls : List ℕ} {number : ℕ} {p : Place} (h : PictureSoFar start s n size intra head ms ls number p) where
  pub row_start : number < macroblocks_down size → start ≡ row_laid size intra s n number p (flat head ms ls)
  row_start l = h.same ∙ groups_row size intra number (flat head ms ls) (first_vectors ms (number * macroblocks_across size)) (bits_left s n p.bit) p l

  pub picture_more : (l : number < macroblocks_down size) {head' ms' ls' : List ℕ} {number' : ℕ} {z : Place} → PictureSoFar (row_laid size intra s n number p (flat head ms ls)) s n size intra head' ms' ls' number' z
      → PictureSoFar start s n size intra head' ms' ls' number' z
  picture_more l g = record { placed = g.placed; most = g.most; head_long = g.head_long; laid = g.laid; same = row_start l ∙ g.same }

  pub picture_done : macroblocks_down size ≤ number → got (flat head ms ls) (bits_left s n p.bit) p ≡ start
  picture_done l =
      let all : length (group_numbers size) ≤ number = omega (arith, groups_listed size) in
      let past : drop number (group_numbers size) ≡ [] = drop_of_length-le (group_numbers size) all in
      sym (h.same ∙ groups_none size intra number (flat head ms ls) (first_vectors ms (number * macroblocks_across size)) (bits_left s n p.bit) p past)

  -- ---- the ways out: from inside a group with the refusal that was kept, or after the last one, with what the buffers hold
  pub out_refused : number < macroblocks_down size → {o : Option Stopped} {x y z : Stopped} → o ≡ Some x → o ≡ Some y → y ≡ z → refused z ≡ row_laid size intra s n number p (flat head ms ls) → refused x ≡ start
  out_refused l {x = x} {z = z} e f g r = let same : x ≡ z = cc in ap refused same ∙ r ∙ sym (row_start l)

  pub out_done : macroblocks_down size ≤ number → {head' ms' ls' : List ℕ} {p' : Place} → head' ≡ head → ms' ≡ ms → ls' ≡ ls → p' ≡ p → got (flat head' ms' ls') (bits_left s n p'.bit) p' ≡ start
  out_done l a b c d = (λ i. got (flat (a i) (b i) (c i)) (bits_left s n (d i).bit) (d i)) ∙ picture_done l

-- a refusal is kept only by a break
pub not_kept : {o : Option Stopped} {x : Stopped} → o ≡ None → o ≡ Some x → ⊥
not_kept e f = cc
