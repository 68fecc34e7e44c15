-- The groups of a picture as they are written, on plain values. Assumes nothing.
use mathlib.Core.Path.{◌≡◌, refl, sym, ap, ap₂, subst, ◌∙◌}
use mathlib.Core.Bool.{Bool, true, false}
use mathlib.Core.List.{List, [], ◌∷◌, ◌++◌, append_assoc, append-nil}
use Prim.Native.Nat.{ℕ, zero, suc, ◌+◌, ◌*◌, ◌≤◌, ◌<◌}
use native.Mathlib.Omega.{arith}
use native.Mathlib.Nat.{zero-mul}
use lib.Dec.{T, lit≤}
use lib.ListN.{length, get_or, drop, drop_of_length-le}
use lib.Seq.{drop-drop}
use Rattle.laws.specs.Choice.{pick}
use Rattle.laws.proofs.Lists.{drop_on}
use Rattle.laws.proofs.Rows.{rows_less}
use Rattle.bits.specs.Bits.{Bit, bits_of}
use Rattle.bits.specs.Write.{bits_if}
use Rattle.bits.specs.Appended.{FieldFits, WroteBits, CountablePlace}
use Rattle.bits.proofs.Appended.{wrote_none, wrote_as, wrote_then, first_countable, then_countable, next_countable, sent_counts, sent_wrote, CountableParts}
use Rattle.size.specs.declared.Size.{Size}
use Rattle.size.specs.declared.Size.TheVariants.{SubQcif, Qcif, Cif}
use Rattle.size.specs.Place.{macroblocks_across, macroblocks_down}
use Rattle.layout.specs.Value.{Vector, zero_vector, Group}
use Rattle.layout.specs.Flat.{Flat, flat, macroblocks_in, groups_in}
use Rattle.layout.specs.Numbers.{is_zero}
use Rattle.layout.proofs.Levels.{is_quantiser_lem}
use Rattle.h263_words.specs.Lookup.{Tables}
use Rattle.h263_words.specs.Words.{is_inter, has_dquant, is_dquant}
use Rattle.h263_description.specs.Vector.{in_range}
use Rattle.h263_description.specs.Value.{numbers_from, format_code, picture_in}
use Rattle.h263_description.specs.Fields.{stands, is_intra_type}
use Rattle.h263_description.specs.Valid.{valid_type, valid}
use Rattle.h263_description.specs.Kept.{vectors_in, first_vectors, BytesNear}
use Rattle.h263_description.proofs.Groups.{numbers_count, numbers_at, some_across, down_most}
use Rattle.h263_description.proofs.Parts.{ValidLists, valid_lists}
use Rattle.h263_description.proofs.ValidAt.{gquant_at, type_is, quant_is, Fine, fine_at, still_vector}
use Rattle.h263_writer.specs.Write.{row_of, row_vectors, head_of, groups_of, ptype_of, picture_of, picture_bits}
use Rattle.h263_writer.specs.Sound.{SoundPicture, row_bits, group_bits, groups_bits}
use Rattle.h263_writer.specs.Asked.{RowAsked, GroupAsked, GroupsAsked}
use Rattle.h263_writer.proofs.RowTurn.{row_vectors_lem}
use Rattle.h263_writer.proofs.Longest.{picture_counts}

-- ---- a header
module _ (number gquant : ℕ) {at : ℕ} {b : Bool} (e : b ≡ stands gquant) where
  pub header_none : b ≡ false → {s : List ℕ} → WroteBits (head_of number gquant) s at s at
  header_none n {s} = wrote_as (wrote_none s at) (sym (ap (λ (x : Bool). bits_if x (bits_of 17 1 ++ (bits_of 5 number ++ (bits_of 2 0 ++ bits_of 5 gquant)))) (sym e ∙ n)))

  module _ (y : b ≡ true) where
    pub header_parts : CountablePlace at (head_of number gquant) → CountableParts at (bits_of 17 1 ∷ bits_of 5 number ∷ bits_of 2 0 ∷ bits_of 5 gquant ∷ [])
    header_parts c = record { counts = sent_counts (stands gquant) (sym e ∙ y) c }

    pub header_whole : {s : List ℕ} {t₁ t₂ t₃ t₄ : List ℕ} {p₁ p₂ p₃ p₄ : ℕ} → WroteBits (bits_of 17 1) s at t₁ p₁ → WroteBits (bits_of 5 number) t₁ p₁ t₂ p₂
        → WroteBits (bits_of 2 0) t₂ p₂ t₃ p₃ → WroteBits (bits_of 5 gquant) t₃ p₃ t₄ p₄ → WroteBits (head_of number gquant) s at t₄ p₄
    header_whole a b c d = sent_wrote (stands gquant) (sym e ∙ y) (wrote_then a (wrote_then b (wrote_then c d)))

-- five bits hold a number up to 31
pub five_fits : (value : ℕ) → value ≤ 31 → FieldFits 5 value
five_fits value l = record { some = lit≤ tt; short = lit≤ tt; small = omega arith }

-- ---- a group: its header, then its macroblocks
module _ {t macroblocks levels : List ℕ} {across number gquant : ℕ} {intra : Bool} {at : ℕ} (a : GroupAsked t macroblocks levels across number gquant intra at) where
  pub head_counts : CountablePlace at (head_of number gquant)
  head_counts = first_countable (head_of number gquant) (row_bits across intra gquant number macroblocks levels) a.counts

  pub row_asked : {s u : List ℕ} {p : ℕ} → WroteBits (head_of number gquant) s at u p → RowAsked t macroblocks levels across number gquant intra p
  row_asked w = record {
    tables = a.tables;
    wide = a.wide;
    count = a.count;
    sound = a.sound;
    inside = a.inside;
    counts = then_countable w (row_bits across intra gquant number macroblocks levels) a.counts;
  }

-- ---- what a valid description has
module _ (size : Size) (head macroblocks levels : List ℕ) (t : T (valid size (flat head macroblocks levels))) where
  abbrev d : Flat
  d = flat head macroblocks levels

  abbrev across : ℕ
  across = macroblocks_across size

  abbrev count : ℕ
  count = macroblocks_down size * macroblocks_across size

  abbrev intra : Bool
  intra = is_intra_type (get_or head 3 0)

  pub lists : ValidLists size d
  lists = valid_lists size d t

  whole_bytes : length macroblocks ≡ count * 4
  whole_bytes = lists.macroblocks_length ∙ regroup (macroblocks_down size) (macroblocks_across size) 4
    where
      regroup : (a b c : ℕ) → a * (b * c) ≡ a * b * c
      regroup a b c = omega arith

  whole_levels : length levels ≡ count * 384
  whole_levels = lists.levels_length ∙ regroup (macroblocks_down size) (macroblocks_across size) 384
    where
      regroup : (a b c : ℕ) → a * (b * c) ≡ a * b * c
      regroup a b c = omega arith

  module _ (n : ℕ) (l : n < count) where
    fine : Fine size d n
    fine = fine_at size d t n l

    -- every vector is in range: one that isn't sent is zero
    near_at : BytesNear macroblocks n
    near_at = go (is_inter (get_or macroblocks (n * 4) 0)) refl
      where
        in_room : n * 4 + 4 ≤ length macroblocks
        in_room = omega (arith, whole_bytes)

        zero_near : (v : Vector) → v ≡ zero_vector → T (in_range v.horizontal) × T (in_range v.vertical)
        zero_near v e = (subst (λ (v : Vector). T (in_range v.horizontal)) (sym e) tt, subst (λ (v : Vector). T (in_range v.vertical)) (sym e) tt)

        go : (b : Bool) → is_inter (get_or macroblocks (n * 4) 0) ≡ b → BytesNear macroblocks n
        go true e = record { whole = in_room; horizontally = fine.horizontally e; vertically = fine.vertically e }
        go false e =
            let z = zero_near (vectors_in macroblocks n) (still_vector size d t n l e) in
            record { whole = in_room; horizontally = z.0; vertically = z.1 }

    unsent_at : get_or macroblocks (n * 4) 0 ≡ 0 → vectors_in macroblocks n ≡ zero_vector
    unsent_at e = still_vector size d t n l (ap is_inter e)

    type_at : T (valid_type intra (get_or macroblocks (n * 4) 0))
    type_at = type_is size d t n l

    quant_at : T (pick (has_dquant (get_or macroblocks (n * 4) 0)) (is_dquant (get_or macroblocks (n * 4 + 1) 0)) (is_zero (get_or macroblocks (n * 4 + 1) 0)))
    quant_at = quant_is size d t n l

  pub sound : SoundPicture count intra macroblocks levels
  sound = record {
    macroblocks_long = whole_bytes;
    levels_long = whole_levels;
    near = near_at;
    unsent = unsent_at;
    sent = λ n l s. record { some = s; typed = type_at n l; quantised = quant_at n l; levelled = (fine n l).blocks };
  }

-- ---- the groups of a picture: g are behind
abbrev groups_from : ℕ → ℕ → Bool → List ℕ → List ℕ → List ℕ → List ℕ → List Bit
groups_from g across intra numbers head macroblocks levels =
    groups_of across intra (drop g numbers) (first_vectors macroblocks (g * across)) (groups_in across (drop (g + 5) head) (drop (g * (across * 4)) macroblocks) (drop (g * (across * 384)) levels))

pub record GroupsSoFar (whole : List Bit) (across down : ℕ) (intra : Bool) (head macroblocks levels : List ℕ) (s : List ℕ) (at : ℕ) (t : List ℕ) (place g : ℕ) : Type 0 where
  pub inside : g ≤ down
  pub bits : List Bit
  pub wrote : WroteBits bits s at t place
  pub same : whole ≡ bits ++ groups_from g across intra (numbers_from 0 down) head macroblocks levels

no_vectors : (macroblocks : List ℕ) (n : ℕ) → n ≡ 0 → [] ≡ first_vectors macroblocks n
unfolding first_vectors
no_vectors macroblocks zero e = refl
no_vectors macroblocks (suc n) e = absurd (omega arith)

pub groups_begin : (across down : ℕ) (intra : Bool) (head macroblocks levels : List ℕ) (s : List ℕ) (at : ℕ)
    → GroupsSoFar (groups_bits across down intra head macroblocks levels) across down intra head macroblocks levels s at s at 0
groups_begin across down intra head macroblocks levels s at = record {
  inside = omega arith;
  bits = [];
  wrote = wrote_none s at;
  same = λ i. groups_of across intra (numbers_from 0 down) (no_vectors macroblocks (0 * across) (zero-mul across) i)
      (groups_in across (drop 5 head) (drop (sym (zero-mul (across * 4)) i) macroblocks) (drop (sym (zero-mul (across * 384)) i) levels));
}

groups_none : (across : ℕ) (intra : Bool) (numbers : List ℕ) (vectors : List Vector) (gs : List Group) → numbers ≡ [] → groups_of across intra numbers vectors gs ≡ []
unfolding groups_of
groups_none across intra numbers vectors gs e = ap (λ (n : List ℕ). groups_of across intra n vectors gs) e

groups_one : (across : ℕ) (intra : Bool) (number : ℕ) (numbers : List ℕ) (vectors : List Vector) (q : ℕ) (qs fields levels : List ℕ)
    → groups_of across intra (number ∷ numbers) vectors (groups_in across (q ∷ qs) fields levels)
    ≡ (head_of number q ++ row_of across across intra q 1 vectors (macroblocks_in across 1 fields levels))
    ++ groups_of across intra numbers (row_vectors across 1 vectors (macroblocks_in across 1 fields levels)) (groups_in across qs (drop (across * 4) fields) (drop (across * 384) levels))
unfolding groups_of groups_in
groups_one across intra number numbers vectors q qs fields levels = refl

regrouped : (a b c : ℕ) → a * (b * c) ≡ a * b * c
regrouped a b c = omega arith

next_group : (g w : ℕ) → g * w + w ≡ (g + 1) * w
next_group g w = omega arith

module _ {whole : List Bit} {across down : ℕ} {intra : Bool} {head macroblocks levels : List ℕ} {s : List ℕ} {at : ℕ} {t : List ℕ} {place g : ℕ}
    (h : GroupsSoFar whole across down intra head macroblocks levels s at t place g)
  where
    pub groups_done : down ≤ g → WroteBits whole s at t place
    groups_done l =
        let e : length (numbers_from 0 down) ≤ g = omega (arith, numbers_count 0 down) in
        wrote_as h.wrote (sym (h.same ∙ ap (λ (x : List Bit). h.bits ++ x) (groups_none across intra (drop g (numbers_from 0 down)) _ _ (drop_of_length-le (numbers_from 0 down) e)) ∙ append-nil h.bits))

    module _ {tables : List ℕ} (a : GroupsAsked tables head macroblocks levels across down intra at) (l : g < down) where
      abbrev gquant : ℕ
      gquant = get_or head (g + 5) 0

      row_inside : g * across + across ≤ down * across
      row_inside = rows_less across l

      pub head_room : g + 5 < length head
      head_room = omega (arith, a.head_long)

      abbrev own_bits : List Bit
      own_bits = group_bits across intra gquant g macroblocks levels

      abbrev rest : List Bit
      rest = groups_from (g + 1) across intra (numbers_from 0 down) head macroblocks levels

      vectors_after : row_vectors across 1 (first_vectors macroblocks (g * across)) (macroblocks_in across 1 (drop (g * (across * 4)) macroblocks) (drop (g * (across * 384)) levels))
          ≡ first_vectors macroblocks ((g + 1) * across)
      vectors_after =
          (λ i. row_vectors across 1 (first_vectors macroblocks (g * across)) (macroblocks_in across 1 (drop (regrouped g across 4 i) macroblocks) (drop (regrouped g across 384 i) levels)))
          ∙ row_vectors_lem a.sound across (g * across) 1 row_inside
          ∙ ap (first_vectors macroblocks) (next_group g across)

      listed : drop g (numbers_from 0 down) ≡ g ∷ drop (g + 1) (numbers_from 0 down)
      listed =
          let same : get_or (numbers_from 0 down) g 0 ≡ g = omega (arith, numbers_at 0 down g l) in
          drop_on (numbers_from 0 down) g (omega (arith, numbers_count 0 down)) ∙ ap (λ (n : ℕ). n ∷ drop (g + 1) (numbers_from 0 down)) same

      quants : drop (g + 5) head ≡ gquant ∷ drop (g + 1 + 5) head
      quants = let c : g + 5 + 1 ≡ g + 1 + 5 = omega arith in drop_on head (g + 5) head_room ∙ ap (λ (k : ℕ). gquant ∷ drop k head) c

      groups_on : whole ≡ h.bits ++ (own_bits ++ rest)
      groups_on =
          let numbers = drop (g + 1) (numbers_from 0 down) in
          let fields = drop (g * (across * 4)) macroblocks in
          let own = drop (g * (across * 384)) levels in
          h.same
          ∙ ap (λ (x : List Bit). h.bits ++ x)
          (ap₂ (λ (x y : List ℕ). groups_of across intra x (first_vectors macroblocks (g * across)) (groups_in across y fields own)) listed quants
          ∙ groups_one across intra g numbers (first_vectors macroblocks (g * across)) gquant (drop (g + 1 + 5) head) fields own
          ∙ (λ i. (head_of g gquant
          ++ row_of across across intra gquant 1 (first_vectors macroblocks (g * across)) (macroblocks_in across 1 (drop (regrouped g across 4 i) macroblocks) (drop (regrouped g across 384 i) levels)))
          ++ groups_of across intra numbers (vectors_after i)
          (groups_in across (drop (g + 1 + 5) head)
          ((drop-drop (across * 4) (g * (across * 4)) macroblocks ∙ ap (λ (k : ℕ). drop k macroblocks) (next_group g (across * 4))) i)
          ((drop-drop (across * 384) (g * (across * 384)) levels ∙ ap (λ (k : ℕ). drop k levels) (next_group g (across * 384))) i))))

      -- what the group asks
      pub group_asked : CountablePlace at whole → GroupAsked tables macroblocks levels across g gquant intra place
      group_asked c = record {
        tables = a.tables;
        wide = a.wide;
        count = down * across;
        sound = a.sound;
        inside = row_inside;
        numbered = omega (arith, a.few);
        quantised = a.quantised g l;
        counts = next_countable h.wrote own_bits rest groups_on c;
      }

      pub groups_more : {u : List ℕ} {q : ℕ} → WroteBits own_bits t place u q → GroupsSoFar whole across down intra head macroblocks levels s at u q (g + 1)
      groups_more w = record {
        inside = omega arith;
        bits = h.bits ++ own_bits;
        wrote = wrote_then h.wrote w;
        same = groups_on ∙ sym (append_assoc h.bits own_bits rest);
      }

-- ---- the picture: its fields, then its groups
pub format_low : (size : Size) → format_code size ≤ 3
format_low SubQcif = omega arith
format_low Qcif = omega arith
format_low Cif = omega arith

module _ (size : Size) (head macroblocks levels : List ℕ) (t : T (valid size (flat head macroblocks levels))) where
  abbrev groups_bits_lem : List Bit
  groups_bits_lem = groups_bits (macroblocks_across size) (macroblocks_down size) (is_intra_type (get_or head 3 0)) head macroblocks levels

  -- by what the code has of the size
  module _ {across down : ℕ} (we : across ≡ macroblocks_across size) (de : down ≡ macroblocks_down size) where
    groups_same : groups_bits across down (is_intra_type (get_or head 3 0)) head macroblocks levels ≡ groups_bits_lem
    groups_same = λ i. groups_bits (we i) (de i) (is_intra_type (get_or head 3 0)) head macroblocks levels

    pub groups_asked : {tables : List ℕ} {at : ℕ} → Tables tables → CountablePlace at groups_bits_lem → GroupsAsked tables head macroblocks levels across down (is_intra_type (get_or head 3 0)) at
    groups_asked {at = at} tables c = record {
      tables = tables;
      wide = omega (arith, some_across size);
      few = omega (arith, down_most size);
      head_long = (lists size head macroblocks levels t).head_length ∙ ap (λ (n : ℕ). 5 + n) (sym de);
      quantised = λ g l.
          let e : 5 + g ≡ g + 5 = omega arith in
          let low = gquant_at size (flat head macroblocks levels) t g (omega arith) in
          omega (arith, ap (λ (n : ℕ). get_or head n 0) e);
      sound =
          subst (λ (n : ℕ). SoundPicture n (is_intra_type (get_or head 3 0)) macroblocks levels) (sym (ap₂ (λ (x y : ℕ). x * y) de we)) (sound size head macroblocks levels t);
      counts = subst (CountablePlace at) (sym groups_same) c;
    }

    pub groups_wrote : {s u : List ℕ} {at q : ℕ} → WroteBits (groups_bits across down (is_intra_type (get_or head 3 0)) head macroblocks levels) s at u q → WroteBits groups_bits_lem s at u q
    groups_wrote w = wrote_as w groups_same

  -- PTYPE, by the format's code
  abbrev ptype : ℕ → ℕ
  ptype code = 4096 + get_or head 1 0 * 256 + code * 32 + get_or head 3 0 * 16

  has : ValidLists size (flat head macroblocks levels)
  has = lists size head macroblocks levels t

  pub tr_fits : FieldFits 8 (get_or head 0 0)
  tr_fits = record { some = lit≤ tt; short = lit≤ tt; small = omega (arith, has.tr) }

  pub ptype_low : (code : ℕ) → code ≡ format_code size → ptype code < 8192
  ptype_low code e = omega (arith, has.ptype, has.type, format_low size)

  pub ptype_fits : (code : ℕ) → code ≡ format_code size → FieldFits 13 (ptype code)
  ptype_fits code e = record { some = lit≤ tt; short = lit≤ tt; small = ptype_low code e }

  pub pquant_fits : FieldFits 5 (get_or head 4 0)
  pquant_fits = five_fits (get_or head 4 0) (is_quantiser_lem (get_or head 4 0) has.pquant).1

  ptype_is : (code : ℕ) → code ≡ format_code size → ptype code ≡ ptype_of size (picture_in size (flat head macroblocks levels))
  unfolding picture_in
  ptype_is code e = let same : 2 * 2048 ≡ 4096 = refl in ap ptype e

  pub picture_parts : (code : ℕ) → code ≡ format_code size
      → CountableParts 0 (bits_of 22 32 ∷ bits_of 8 (get_or head 0 0) ∷ bits_of 13 (ptype code) ∷ bits_of 5 (get_or head 4 0) ∷ bits_of 1 0 ∷ bits_of 1 0 ∷ groups_bits_lem ∷ [])
  unfolding picture_bits picture_of picture_in
  picture_parts code e = record { counts = rw (ptype_is code e) (picture_counts size (flat head macroblocks levels)) }

  pub picture_whole : (code : ℕ) {s : List ℕ} {t₁ t₂ t₃ t₄ t₅ t₆ t₇ : List ℕ} {p₁ p₂ p₃ p₄ p₅ p₆ p₇ : ℕ} → code ≡ format_code size → WroteBits (bits_of 22 32) s 0 t₁ p₁
      → WroteBits (bits_of 8 (get_or head 0 0)) t₁ p₁ t₂ p₂ → WroteBits (bits_of 13 (ptype code)) t₂ p₂ t₃ p₃ → WroteBits (bits_of 5 (get_or head 4 0)) t₃ p₃ t₄ p₄
      → WroteBits (bits_of 1 0) t₄ p₄ t₅ p₅ → WroteBits (bits_of 1 0) t₅ p₅ t₆ p₆ → WroteBits groups_bits_lem t₆ p₆ t₇ p₇
      → WroteBits (picture_bits size (flat head macroblocks levels)) s 0 t₇ p₇
  unfolding picture_bits picture_of picture_in
  picture_whole code e a b c d f g h = wrote_then a (wrote_then b (wrote_then (wrote_as c (ap (bits_of 13) (ptype_is code e))) (wrote_then d (wrote_then f (wrote_then g h)))))
