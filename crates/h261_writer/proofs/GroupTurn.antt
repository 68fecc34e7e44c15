-- The groups of a picture as they are written, on plain values. Assumes nothing.
use mathlib.Core.Path.{◌≡◌, refl, sym, ap, ap₂, subst, ◌∙◌}
use mathlib.Core.List.{List, [], ◌∷◌, ◌++◌, append_assoc, append-nil}
use Prim.Native.Nat.{ℕ, zero, suc, ◌+◌, ◌-◌, ◌*◌, ◌≤◌, ◌<◌}
use native.Mathlib.Omega.{arith}
use native.Mathlib.Nat.{pos_of_ne-zero}
use lib.Dec.{T, leb, eqb, leb→le, eqb→eq, lit≤}
use lib.ListN.{length, get_or, take, drop, length-drop}
use lib.Seq.{drop-drop, get_or-drop, get_or-take}
use Rattle.laws.specs.Choice.{both}
use Rattle.laws.proofs.Choice.{both_left, both_right}
use Rattle.laws.proofs.Lists.{drop_on}
use Rattle.bits.specs.Bits.{Bit, bits_of}
use Rattle.bits.specs.Appended.{FieldFits, WroteBits, CountablePlace}
use Rattle.bits.proofs.Appended.{wrote_none, wrote_as, wrote_then, next_countable, CountableParts}
use Rattle.h261_groups.specs.Format.{format_bit, group_numbers, group_count, head_length, macroblocks_length, levels_length}
use Rattle.h261_groups.proofs.Room.{groups_listed, number_most}
use Rattle.h261_words.specs.Lookup.{Tables}
use Rattle.h261_groups.specs.declared.Format.{Format}
use Rattle.h261_groups.specs.declared.Format.TheVariants.{Qcif, Cif}
use Rattle.h261_description.specs.Vector.{Before, at_start}
use Rattle.layout.specs.Value.{Macroblock, Group}
use Rattle.h261_description.specs.Value.{before_next, picture_in}
use Rattle.layout.specs.Flat.{number_of, gathers, macroblocks_in, groups_in, flat, macroblock_in}
use Rattle.layout.specs.Numbers.{all, is_quantiser}
use Rattle.layout.specs.Valid.{every_macroblock, every_group}
use Rattle.h261_description.specs.Valid.{valid_macroblock, valid_macroblocks, valid_groups, lengths_of, valid_head, valid}
use Rattle.layout.proofs.Levels.{all_index, gathers-take}
use Rattle.h261_writer.specs.Write.{macroblock_of, macroblocks_of, group_of, groups_of, picture_of, picture_bits}
use Rattle.h261_writer.specs.Sound.{NearComponent, SoundMacroblock, SoundGroup, before_in, group_in}
use Rattle.h261_writer.specs.Asked.{MacroblockAsked, MacroblocksAsked, GroupAsked}
use Rattle.layout.proofs.Turns.{part_rest, part_length, piece_length}
use Rattle.h261_validity.proofs.Steps.{group_fits}
use Rattle.layout.proofs.Gathered.{piece}
use Rattle.layout.proofs.Sent.{macroblocks_sent, macroblocks_not}
use Rattle.h261_writer.proofs.BlockTurn.{past}
use Rattle.h261_writer.proofs.MacroblockSteps.{sound}
use Rattle.h261_writer.proofs.Longest.{picture_counts}

-- ---- a macroblock of the slices
field_at : (fields : List ℕ) (k j : ℕ) → j < 4 → get_or (take (k * 4 + 4 - k * 4) (drop (k * 4) fields)) j 0 ≡ get_or (drop (k * 4) fields) j 0
field_at fields k j l = ap (λ (x : List ℕ). get_or x j 0) (piece fields (k * 4) 4) ∙ get_or-take 4 (drop (k * 4) fields) j 0 l

macroblocks_none : (before : Before) (n address : ℕ) (fields levels : List ℕ) → n ≡ 0 → macroblocks_of before (macroblocks_in n address fields levels) ≡ []
unfolding macroblocks_in macroblocks_of
macroblocks_none before zero address fields levels e = refl
macroblocks_none before (suc n) address fields levels e = absurd (omega arith)

macroblocks_first : (before : Before) (m : Macroblock) (ms : List Macroblock) → macroblocks_of before (m ∷ ms) ≡ macroblock_of before m ++ macroblocks_of (before_next m) ms
unfolding macroblocks_of
macroblocks_first before m ms = refl

-- ---- the macroblocks of a group: k are behind
pub record MacroblocksSoFar (whole : List Bit) (fields levels : List ℕ) (s : List ℕ) (at : ℕ) (t : List ℕ) (last horizontal vertical place k : ℕ) : Type 0 where
  pub left : ℕ
  pub count : k + left ≡ 33
  pub low : last ≤ k
  pub across : NearComponent horizontal
  pub down : NearComponent vertical
  pub bits : List Bit
  pub wrote : WroteBits bits s at t place
  pub same : whole ≡ bits ++ macroblocks_of (before_in last horizontal vertical) (macroblocks_in left (k + 1) (drop (k * 4) fields) (drop (k * 384) levels))

pub macroblocks_begin : (fields levels : List ℕ) (s : List ℕ) (at : ℕ) → MacroblocksSoFar (macroblocks_of at_start (macroblocks_in 33 1 fields levels)) fields levels s at s 0 0 0 at 0
macroblocks_begin fields levels s at = record { left = 33; count = refl; low = omega arith; across = tt; down = tt; bits = []; wrote = wrote_none s at; same = refl }

module _ {whole : List Bit} {fields levels : List ℕ} {s : List ℕ} {at : ℕ} {t : List ℕ} {last horizontal vertical place k : ℕ}
    (h : MacroblocksSoFar whole fields levels s at t last horizontal vertical place k)
  where
    pub macroblocks_done : 33 ≤ k → WroteBits whole s at t place
    macroblocks_done l =
        wrote_as h.wrote (sym (h.same ∙ ap (λ (x : List Bit). h.bits ++ x) (macroblocks_none _ h.left (k + 1) _ _ (omega (arith, h.count))) ∙ append-nil h.bits))

    module _ (l : k < 33) where
      begins : get_or (drop (k * 4) fields) 0 0 ≡ get_or fields (k * 4) 0
      begins = let z : k * 4 + 0 ≡ k * 4 = omega arith in get_or-drop (k * 4) fields 0 0 ∙ ap (λ (n : ℕ). get_or fields n 0) z

      one : h.left ≡ suc (32 - k)
      one = omega (arith, h.count)

      more_fields : drop 4 (drop (k * 4) fields) ≡ drop ((k + 1) * 4) fields
      more_fields = let m : k * 4 + 4 ≡ (k + 1) * 4 = omega arith in drop-drop 4 (k * 4) fields ∙ ap (λ (n : ℕ). drop n fields) m

      more_levels : drop 384 (drop (k * 384) levels) ≡ drop ((k + 1) * 384) levels
      more_levels = let m : k * 384 + 384 ≡ (k + 1) * 384 = omega arith in drop-drop 384 (k * 384) levels ∙ ap (λ (n : ℕ). drop n levels) m

      pub macroblocks_skip : get_or fields (k * 4) 0 ≡ 0 → MacroblocksSoFar whole fields levels s at t last horizontal vertical place (k + 1)
      macroblocks_skip e = record {
        left = 32 - k;
        count = omega arith;
        low = omega (arith, h.low);
        across = h.across;
        down = h.down;
        bits = h.bits;
        wrote = h.wrote;
        same =
            h.same
            ∙ ap (λ (ms : List Macroblock). h.bits ++ macroblocks_of (before_in last horizontal vertical) ms)
            (ap (λ (n : ℕ). macroblocks_in n (k + 1) (drop (k * 4) fields) (drop (k * 384) levels)) one
            ∙ macroblocks_not (32 - k) (k + 1) (drop (k * 4) fields) (drop (k * 384) levels) (begins ∙ e)
            ∙ ap₂ (macroblocks_in (32 - k) (k + 1 + 1)) more_fields more_levels);
      }

      module _ (e : get_or fields (k * 4) 0 ≡ 0 → ⊥) where
        abbrev own_fields : List ℕ
        own_fields = take (k * 4 + 4 - k * 4) (drop (k * 4) fields)

        abbrev own_levels : List ℕ
        own_levels = take (k * 384 + 384 - k * 384) (drop (k * 384) levels)

        abbrev before : Before
        before = before_in last horizontal vertical

        abbrev own_bits : List Bit
        own_bits = macroblock_of before (macroblock_in (k + 1) own_fields own_levels)

        -- what is left after it
        abbrev rest : List Macroblock
        rest = macroblocks_in (32 - k) (k + 1 + 1) (drop ((k + 1) * 4) fields) (drop ((k + 1) * 384) levels)

        abbrev rest_bits : List Bit
        rest_bits = macroblocks_of (before_in (k + 1) (get_or fields (k * 4 + 2) 0) (get_or fields (k * 4 + 3) 0)) rest

        own-sound : SoundGroup fields levels → SoundMacroblock own_fields own_levels
        own-sound g =
            let some : 1 ≤ get_or fields (k * 4) 0 = pos_of_ne-zero e in
            subst (λ (x : List ℕ). SoundMacroblock x own_levels) (sym (piece fields (k * 4) 4))
            (subst (λ (y : List ℕ). SoundMacroblock (take 4 (drop (k * 4) fields)) y) (sym (piece levels (k * 384) 384)) (g.each k l some))

        -- the macroblock by its own four fields and 384 levels is the one that the slices have
        own : macroblock_in (k + 1) own_fields own_levels ≡ macroblock_in (k + 1) (drop (k * 4) fields) (drop (k * 384) levels)
        own = λ i. record {
          address = k + 1;
          type = field_at fields k 0 (omega arith) i;
          quant = field_at fields k 1 (omega arith) i;
          vector = record { horizontal = number_of (field_at fields k 2 (omega arith) i); vertical = number_of (field_at fields k 3 (omega arith) i) };
          blocks = (ap (gathers 6) (piece levels (k * 384) 384) ∙ gathers-take 6 (drop (k * 384) levels)) i;
        }

        later : (j : ℕ) → get_or (drop (k * 4) fields) j 0 ≡ get_or fields (k * 4 + j) 0
        later j = get_or-drop (k * 4) fields j 0

        macroblocks_on : whole ≡ h.bits ++ (own_bits ++ rest_bits)
        macroblocks_on =
            let m : Macroblock = macroblock_in (k + 1) (drop (k * 4) fields) (drop (k * 384) levels) in
            h.same
            ∙ ap (λ (x : List Bit). h.bits ++ x)
            (ap (macroblocks_of before)
            (ap (λ (n : ℕ). macroblocks_in n (k + 1) (drop (k * 4) fields) (drop (k * 384) levels)) one
            ∙ macroblocks_sent (32 - k) (k + 1) (drop (k * 4) fields) (drop (k * 384) levels) (λ z. e (sym begins ∙ z))
            ∙ ap₂ (λ (x y : List ℕ). m ∷ macroblocks_in (32 - k) (k + 1 + 1) x y) more_fields more_levels)
            ∙ macroblocks_first before m rest
            ∙ (λ i. macroblock_of before (sym own i) ++ macroblocks_of (before_in (k + 1) (later 2 i) (later 3 i)) rest))

        -- what the macroblock asks
        pub macroblock_asked : {tables : List ℕ} → MacroblocksAsked tables fields levels at → CountablePlace at whole
            → MacroblockAsked tables own_fields own_levels last (k + 1) horizontal vertical place
        macroblock_asked a c = record {
          tables = a.tables;
          fields_long = piece_length fields (k * 4) 4 (omega (arith, a.fields_long));
          levels_long = piece_length levels (k * 384) 384 (omega (arith, a.levels_long));
          sound = own-sound a.sound;
          after = omega (arith, h.low);
          inside = omega arith;
          across_near = h.across;
          down_near = h.down;
          counts = next_countable h.wrote own_bits rest_bits macroblocks_on c;
        }

        pub macroblocks_more : {u : List ℕ} {q : ℕ} → SoundGroup fields levels → WroteBits own_bits t place u q
            → MacroblocksSoFar whole fields levels s at u (k + 1) (get_or fields (k * 4 + 2) 0) (get_or fields (k * 4 + 3) 0) q (k + 1)
        macroblocks_more g w = record {
          left = 32 - k;
          count = omega arith;
          low = omega arith;
          across = subst NearComponent (field_at fields k 2 (omega arith) ∙ later 2) (own-sound g).across;
          down = subst NearComponent (field_at fields k 3 (omega arith) ∙ later 3) (own-sound g).down;
          bits = h.bits ++ own_bits;
          wrote = wrote_then h.wrote w;
          same = macroblocks_on ∙ sym (append_assoc h.bits own_bits rest_bits);
        }

-- ---- a group: its fields, then its macroblocks
module _ {t : List ℕ} {number gquant : ℕ} {fields levels : List ℕ} {at : ℕ} (a : GroupAsked t number gquant fields levels at) where
  abbrev sent_bits : List Bit
  sent_bits = macroblocks_of at_start (macroblocks_in 33 1 fields levels)

  pub group_parts : CountableParts at (bits_of 16 1 ∷ bits_of 4 number ∷ bits_of 5 gquant ∷ bits_of 1 0 ∷ sent_bits ∷ [])
  unfolding group_of
  group_parts = record { counts = a.counts }

  pub number_fits : FieldFits 4 number
  number_fits = record { some = lit≤ tt; short = lit≤ tt; small = omega (arith, a.numbered) }

  pub gquant_fits : FieldFits 5 gquant
  gquant_fits = record { some = lit≤ tt; short = lit≤ tt; small = omega (arith, a.quantised) }

  pub macroblocks_asked : {p : ℕ} → CountablePlace p sent_bits → MacroblocksAsked t fields levels p
  macroblocks_asked n = record { tables = a.tables; fields_long = a.fields_long; levels_long = a.levels_long; sound = a.sound; counts = n }

  pub group_whole : {s : List ℕ} {t₁ t₂ t₃ t₄ t₅ : List ℕ} {p₁ p₂ p₃ p₄ p₅ : ℕ} → WroteBits (bits_of 16 1) s at t₁ p₁ → WroteBits (bits_of 4 number) t₁ p₁ t₂ p₂
      → WroteBits (bits_of 5 gquant) t₂ p₂ t₃ p₃ → WroteBits (bits_of 1 0) t₃ p₃ t₄ p₄ → WroteBits sent_bits t₄ p₄ t₅ p₅ → WroteBits (group_of number (group_in gquant fields levels)) s at t₅ p₅
  unfolding group_of
  group_whole a b c d e = wrote_then a (wrote_then b (wrote_then c (wrote_then d e)))

-- ---- what a valid description has
module _ (f : Format) where
  macroblocks_sound : (n number address k : ℕ) (fields levels : List ℕ) → T (valid_macroblocks n f number address fields levels) → k < n → 1 ≤ get_or fields (k * 4) 0
      → SoundMacroblock (take 4 (drop (k * 4) fields)) (take 384 (drop (k * 384) levels))
  unfolding every_macroblock
  macroblocks_sound zero number address k fields levels t l s = absurd (omega arith)
  macroblocks_sound (suc n) number address zero fields levels t l s =
      sound f number address (take 4 fields) (take 384 levels) (omega (arith, get_or-take 4 fields 0 0 (omega arith)))
      (both_left (valid_macroblock f number address (take 4 fields) (take 384 levels)) (valid_macroblocks n f number (address + 1) (drop 4 fields) (drop 384 levels)) t)
  macroblocks_sound (suc n) number address (suc k) fields levels t l s =
      let a : 4 + k * 4 ≡ suc k * 4 = omega arith in
      let b : 384 + k * 384 ≡ suc k * 384 = omega arith in
      let r = macroblocks_sound n number (address + 1) k (drop 4 fields) (drop 384 levels)
      (both_right (valid_macroblock f number address (take 4 fields) (take 384 levels)) (valid_macroblocks n f number (address + 1) (drop 4 fields) (drop 384 levels)) t)
      (omega arith) (omega (arith, get_or-drop 4 fields (k * 4) 0, ap (λ (n : ℕ). get_or fields n 0) a)) in
      subst (λ (x : List ℕ). SoundMacroblock (take 4 x) (take 384 (drop (suc k * 384) levels))) (drop-drop (k * 4) 4 fields ∙ ap (λ (n : ℕ). drop n fields) a)
      (subst (λ (y : List ℕ). SoundMacroblock (take 4 (drop (k * 4) (drop 4 fields))) (take 384 y)) (drop-drop (k * 384) 384 levels ∙ ap (λ (n : ℕ). drop n levels) b) r)

  groups_sound : (numbers fields levels : List ℕ) (g : ℕ) → T (valid_groups f numbers fields levels) → g < length numbers → SoundGroup (drop (g * 132) fields) (drop (g * 12672) levels)
  unfolding every_group
  groups_sound [] fields levels g t l = absurd (omega arith)
  groups_sound (number ∷ numbers) fields levels zero t l =
      record { each = λ k h s. macroblocks_sound 33 number 1 k fields levels (both_left (valid_macroblocks 33 f number 1 fields levels) (valid_groups f numbers (drop 132 fields) (drop 12672 levels)) t) h s }
  groups_sound (number ∷ numbers) fields levels (suc g) t l =
      let a : 132 + g * 132 ≡ suc g * 132 = omega arith in
      let b : 12672 + g * 12672 ≡ suc g * 12672 = omega arith in
      let r = groups_sound numbers (drop 132 fields) (drop 12672 levels) g (both_right (valid_macroblocks 33 f number 1 fields levels) (valid_groups f numbers (drop 132 fields) (drop 12672 levels)) t) (omega arith) in
      subst (λ (x : List ℕ). SoundGroup x (drop (suc g * 12672) levels)) (drop-drop (g * 132) 132 fields ∙ ap (λ (n : ℕ). drop n fields) a)
      (subst (λ (y : List ℕ). SoundGroup (drop (g * 132) (drop 132 fields)) y) (drop-drop (g * 12672) 12672 levels ∙ ap (λ (n : ℕ). drop n levels) b) r)

pub record Described (f : Format) (head macroblocks levels : List ℕ) : Type 0 where
  pub head_long : length head ≡ head_length f
  pub macroblocks_long : length macroblocks ≡ macroblocks_length f
  pub levels_long : length levels ≡ levels_length f
  pub tr : get_or head 0 0 ≤ 31
  pub ptype : get_or head 1 0 ≤ 7
  pub quantisers : T (all is_quantiser (drop 3 head))
  pub grouped : T (valid_groups f (group_numbers f) macroblocks levels)

pub valid_has : (f : Format) (head macroblocks levels : List ℕ) → T (valid f (flat head macroblocks levels)) → Described f head macroblocks levels
unfolding valid
valid_has f head macroblocks levels t =
    let lengths = lengths_of f (flat head macroblocks levels) in
    let rest = both (valid_head f head) (valid_groups f (group_numbers f) macroblocks levels) in
    let a = eqb (length head) (head_length f) in
    let b = eqb (length macroblocks) (macroblocks_length f) in
    let c = eqb (length levels) (levels_length f) in
    let w : T lengths = both_left lengths rest t in
    let r : T rest = both_right lengths rest t in
    let h : T (valid_head f head) = both_left (valid_head f head) (valid_groups f (group_numbers f) macroblocks levels) r in
    let x = leb (get_or head 0 0) 31 in
    let y = leb (get_or head 1 0) 7 in
    let z = eqb (get_or head 2 0) (format_bit f) in
    let q = all is_quantiser (drop 3 head) in
    let h₁ : T (both y (both z q)) = both_right x (both y (both z q)) h in
    record {
      head_long = eqb→eq (length head) (head_length f) (both_left a (both b c) w);
      macroblocks_long = eqb→eq (length macroblocks) (macroblocks_length f) (both_left b c (both_right a (both b c) w));
      levels_long = eqb→eq (length levels) (levels_length f) (both_right b c (both_right a (both b c) w));
      tr = leb→le (get_or head 0 0) 31 (both_left x (both y (both z q)) h);
      ptype = leb→le (get_or head 1 0) 7 (both_left y (both z q) h₁);
      quantisers = both_right z q (both_right y (both z q) h₁);
      grouped = both_right (valid_head f head) (valid_groups f (group_numbers f) macroblocks levels) r;
    }

-- ---- the groups of a picture: g are behind
pub record GroupsSoFar (whole : List Bit) (f : Format) (head macroblocks levels : List ℕ) (s : List ℕ) (at : ℕ) (t : List ℕ) (place g : ℕ) : Type 0 where
  pub inside : g ≤ group_count f
  pub bits : List Bit
  pub wrote : WroteBits bits s at t place
  pub same : whole ≡ bits ++ groups_of (drop g (group_numbers f)) (groups_in 33 (drop (g + 3) head) (drop (g * 132) macroblocks) (drop (g * 12672) levels))

pub groups_begin : (f : Format) (head macroblocks levels : List ℕ) (s : List ℕ) (at : ℕ)
    → GroupsSoFar (groups_of (group_numbers f) (groups_in 33 (drop 3 head) macroblocks levels)) f head macroblocks levels s at s at 0
groups_begin f head macroblocks levels s at = record { inside = omega arith; bits = []; wrote = wrote_none s at; same = refl }

groups_none : (gs : List Group) → groups_of [] gs ≡ []
unfolding groups_of
groups_none gs = refl

groups_one : (number : ℕ) (numbers : List ℕ) (q : ℕ) (qs fields levels : List ℕ)
    → groups_of (number ∷ numbers) (groups_in 33 (q ∷ qs) fields levels) ≡ group_of number (group_in q fields levels) ++ groups_of numbers (groups_in 33 qs (drop 132 fields) (drop 12672 levels))
unfolding groups_of groups_in
groups_one number numbers q qs fields levels = refl

module _ {whole : List Bit} {f : Format} {head macroblocks levels : List ℕ} {s : List ℕ} {at : ℕ} {t : List ℕ} {place g : ℕ}
    (h : GroupsSoFar whole f head macroblocks levels s at t place g) (d : Described f head macroblocks levels)
  where
    pub groups_done : group_count f ≤ g → WroteBits whole s at t place
    groups_done l =
        let e : length (group_numbers f) ≡ g = omega (arith, h.inside, groups_listed f) in
        wrote_as h.wrote
        (sym (h.same ∙ ap (λ (x : List Bit). h.bits ++ x) (ap (λ (ns : List ℕ). groups_of ns (groups_in 33 (drop (g + 3) head) (drop (g * 132) macroblocks) (drop (g * 12672) levels))) (past (group_numbers f) g e) ∙ groups_none _) ∙ append-nil h.bits))

    module _ (l : g < group_count f) (number : ℕ) (e : number ≡ get_or (group_numbers f) g 0) where
      abbrev own_group_fields : List ℕ
      own_group_fields = take (length macroblocks - g * 132) (drop (g * 132) macroblocks)

      abbrev own_group_levels : List ℕ
      own_group_levels = take (length levels - g * 12672) (drop (g * 12672) levels)

      abbrev own_group_bits : List Bit
      own_group_bits = group_of number (group_in (get_or head (g + 3) 0) own_group_fields own_group_levels)

      abbrev groups_rest : List Bit
      groups_rest = groups_of (drop (g + 1) (group_numbers f)) (groups_in 33 (drop (g + 1 + 3) head) (drop ((g + 1) * 132) macroblocks) (drop ((g + 1) * 12672) levels))

      gquant_low : get_or head (g + 3) 0 ≤ 31
      gquant_low =
          let i : g < length (drop 3 head) = omega (arith, length-drop 3 head, d.head_long) in
          let q = get_or (drop 3 head) g 0 in
          let e : 3 + g ≡ g + 3 = omega arith in
          let b : q ≤ 31 = leb→le q 31 (both_right (leb 1 q) (leb q 31) (all_index is_quantiser (drop 3 head) d.quantisers g i)) in
          omega (arith, get_or-drop 3 head g 0, ap (λ (n : ℕ). get_or head n 0) e)

      group_sound : SoundGroup own_group_fields own_group_levels
      group_sound =
          subst (λ (x : List ℕ). SoundGroup x own_group_levels) (sym (part_rest macroblocks (g * 132)))
          (subst (λ (y : List ℕ). SoundGroup (drop (g * 132) macroblocks) y) (sym (part_rest levels (g * 12672)))
          (groups_sound f (group_numbers f) macroblocks levels g d.grouped (omega (arith, groups_listed f))))

      groups_on : whole ≡ h.bits ++ (own_group_bits ++ groups_rest)
      groups_on =
          let n : ℕ = get_or (group_numbers f) g 0 in
          let q : ℕ = get_or head (g + 3) 0 in
          let a : g * 132 + 132 ≡ (g + 1) * 132 = omega arith in
          let b : g * 12672 + 12672 ≡ (g + 1) * 12672 = omega arith in
          let c : g + 3 + 1 ≡ g + 1 + 3 = omega arith in
          h.same
          ∙ ap (λ (x : List Bit). h.bits ++ x)
          (ap₂ (λ (x y : List ℕ). groups_of x (groups_in 33 y (drop (g * 132) macroblocks) (drop (g * 12672) levels))) (drop_on (group_numbers f) g (omega (arith, groups_listed f)))
          (drop_on head (g + 3) (omega (arith, d.head_long)) ∙ ap (λ (k : ℕ). q ∷ drop k head) c)
          ∙ groups_one n (drop (g + 1) (group_numbers f)) q (drop (g + 1 + 3) head) (drop (g * 132) macroblocks) (drop (g * 12672) levels)
          ∙ ap₂ (λ (x y : List ℕ). group_of n (group_in q (drop (g * 132) macroblocks) (drop (g * 12672) levels)) ++ groups_of (drop (g + 1) (group_numbers f)) (groups_in 33 (drop (g + 1 + 3) head) x y))
          (drop-drop 132 (g * 132) macroblocks ∙ ap (λ (k : ℕ). drop k macroblocks) a)
          (drop-drop 12672 (g * 12672) levels ∙ ap (λ (k : ℕ). drop k levels) b)
          ∙ (λ i. group_of (sym e i) (group_in q (sym (part_rest macroblocks (g * 132)) i) (sym (part_rest levels (g * 12672)) i)) ++ groups_rest))

      -- what the group asks
      pub group_asked : {tables : List ℕ} → Tables tables → CountablePlace at whole → GroupAsked tables number (get_or head (g + 3) 0) own_group_fields own_group_levels place
      group_asked a c =
          let fit = group_fits f {fields = macroblocks} {levels = levels} d.macroblocks_long d.levels_long refl l in
          record {
            tables = a;
            numbered = omega (arith, number_most f g);
            quantised = gquant_low;
            fields_long = part_length macroblocks (g * 132) 132 fit.fields_fit;
            levels_long = part_length levels (g * 12672) 12672 fit.levels_fit;
            sound = group_sound;
            counts = next_countable h.wrote own_group_bits groups_rest groups_on c;
          }

      pub groups_more : {u : List ℕ} {q : ℕ} → WroteBits own_group_bits t place u q → GroupsSoFar whole f head macroblocks levels s at u q (g + 1)
      groups_more w = record {
        inside = omega arith;
        bits = h.bits ++ own_group_bits;
        wrote = wrote_then h.wrote w;
        same = groups_on ∙ sym (append_assoc h.bits own_group_bits groups_rest);
      }

-- ---- the picture: its fields, then its groups
pub format_bit_lem : (f : Format) → format_bit f ≤ 1
format_bit_lem Qcif = lit≤ tt
format_bit_lem Cif = lit≤ tt

module _ {f : Format} {head macroblocks levels : List ℕ} (d : Described f head macroblocks levels) where
  abbrev groups_bits_lem : List Bit
  groups_bits_lem = groups_of (group_numbers f) (groups_in 33 (drop 3 head) macroblocks levels)

  abbrev ptype : ℕ → ℕ
  ptype bit = get_or head 1 0 * 8 + bit * 4 + 3

  pub head_fits : FieldFits 5 (get_or head 0 0)
  head_fits = record { some = lit≤ tt; short = lit≤ tt; small = omega (arith, d.tr) }

  pub ptype_fits : (bit : ℕ) → bit ≡ format_bit f → FieldFits 6 (ptype bit)
  ptype_fits bit e = record { some = lit≤ tt; short = lit≤ tt; small = omega (arith, d.ptype, format_bit_lem f) }

  pub picture_parts : (bit : ℕ) → bit ≡ format_bit f → CountableParts 0 (bits_of 20 16 ∷ bits_of 5 (get_or head 0 0) ∷ bits_of 6 (ptype bit) ∷ bits_of 1 0 ∷ groups_bits_lem ∷ [])
  unfolding picture_bits picture_of picture_in
  picture_parts bit e = record { counts = rw e (picture_counts f (flat head macroblocks levels)) }

  pub picture_whole : (bit : ℕ) {s : List ℕ} {t₁ t₂ t₃ t₄ t₅ : List ℕ} {p₁ p₂ p₃ p₄ p₅ : ℕ} → bit ≡ format_bit f → WroteBits (bits_of 20 16) s 0 t₁ p₁
      → WroteBits (bits_of 5 (get_or head 0 0)) t₁ p₁ t₂ p₂ → WroteBits (bits_of 6 (ptype bit)) t₂ p₂ t₃ p₃ → WroteBits (bits_of 1 0) t₃ p₃ t₄ p₄
      → WroteBits groups_bits_lem t₄ p₄ t₅ p₅ → WroteBits (picture_bits f (flat head macroblocks levels)) s 0 t₅ p₅
  unfolding picture_bits picture_of picture_in
  picture_whole bit e a b c d g = wrote_then a (wrote_then b (wrote_then (wrote_as c (ap (λ (x : ℕ). bits_of 6 (ptype x)) e)) (wrote_then d g)))
