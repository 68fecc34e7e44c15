-- A picture that is read whole is refused with zeros after it, at the first of them: its last group ends with its bits. So a picture with fill is read once, without it.
-- Assumes nothing.
use mathlib.Core.Path.{◌≡◌, refl, sym, ap, subst, ◌∙◌}
use mathlib.Core.Bool.{Bool, true, false}
use mathlib.Core.List.{List, [], ◌∷◌, ◌++◌}
use Prim.Native.Nat.{ℕ, zero, suc, ◌+◌, ◌-◌, ◌*◌, ◌/◌, ◌%◌, ◌^◌, ◌<◌, ◌≤◌}
use native.Mathlib.Nat.{le_of_suc-le-suc, not-suc-le-zero, zero-div}
use native.Mathlib.Omega.{arith}
use borrow.Author.Tests.{le-leb, le-ltb}
use lib.Dec.{ltb, eqb}
use lib.ListN.{length, replicate, length-append, length-replicate}
use Rattle.laws.specs.Choice.{pick, either}
use Rattle.refusals.specs.declared.Reason.{Reason}
use Rattle.refusals.specs.declared.Reason.TheVariants.{BitsEnd, Count}
use Rattle.refusals.specs.Number.{number, read_table}
use Rattle.refusals.specs.Told.{Numbers, untabled, Told, accepted, refused_by, verdict_on, found_or, refused as told_refused}
use Rattle.refusals.proofs.Told.{told_apart}
use Rattle.bits.specs.Bits.{Bit, bit0, bit_of, bits_of, bits_from, value, source}
use Rattle.bits.specs.Read.{Read, got, refused, endless, bad, Reader, next, ◌>>=◌, done, Judged, fine, against, settle, judged_read, or_end, loop}
use Rattle.bits.specs.Code.{word, lookup, longer}
use Rattle.bits.proofs.Source.{source_left}
use Rattle.bits.proofs.Numbers.{bits_value}
use Rattle.bits.proofs.Value.{bits_split, value_first}
use Rattle.fields.specs.Answer.{found, map_read}
use Rattle.size.specs.Size.{limit}
use Rattle.h261_groups.specs.declared.Format.{Format}
use Rattle.h261_groups.specs.declared.Format.TheVariants.{Qcif, Cif}
use Rattle.h261_groups.specs.Format.{size_of, group_numbers}
use Rattle.h261_words.specs.Tables.{table1, stuffing, start_code}
use Rattle.layout.specs.Value.{Macroblock, Group}
use Rattle.layout.specs.Flat.{Flat}
use Rattle.h261_description.specs.Vector.{Before, at_start}
use Rattle.h261_description.specs.Value.{Picture, before_next, laid_picture}
use Rattle.h261_description.specs.Valid.{lengths_of}
use Rattle.h261_layers.specs.Grammar.{Mba, step, stuffed, ended, mba_of, mba, macroblocks_after, macroblocks_from, group, groups_read, picture, reading}
use Rattle.h261_reader.specs.Described.{described}
use Rattle.coding.specs.declared.Kind.TheVariants.{H261}
use Rattle.coding.specs.Kind.{coding_of}
use Rattle.coding.specs.Described.{read_of}
use Rattle.h261_reader.proofs.Verdicts.{all_read}
use Rattle.h261_readback.proofs.Extends.{Goes, Extends, ext_mba_word, ext_macroblock, ext_head, ext_group, ext_header}
use Rattle.h261_readback.proofs.Macroblocks.{not-ended}
use Rattle.stream.specs.Filled.{count_of, or_else, unfilled, by_first, filled_read}
use Rattle.stream.specs.Fill.{ShortFill}

-- ---- a read that ends the picture, and the same with more bits after it
module _ (rest : List Bit) (reason : Reason) where
  abbrev Ends : {A : Type 0} → Read A → Read A → Type 0
  Ends (got a left p) y = y ≡ bad reason p
  Ends (refused r) y = Unit {0}
  Ends endless y = Unit {0}

  record Ending {A : Type 0} (r s : Reader A) : Type 0 where
    goes : (bs : List Bit) (at : ℕ) → Ends (r bs at) (s (bs ++ rest) at)

  then_ends : {A B : Type 0} (x y : Read A) (k l : A → Reader B) → Goes rest x y → ((a : A) (left : List Bit) (p : ℕ) → Ends (k a left p) (l a (left ++ rest) p)) → Ends (next x k) (next y l)
  then_ends (got a left p) y k l h f = subst (λ (z : Read _). Ends (k a left p) (next z l)) (sym h) (f a left p)
  then_ends (refused r) y k l h f = tt
  then_ends endless y k l h f = tt

  end_then : {A B : Type 0} {r s : Reader A} {k l : A → Reader B} → Extends r s → ((a : A) → Ending (k a) (l a)) → Ending (r >>= k) (s >>= l)
  end_then {r = r} {s} {k} {l} h f = record { goes = λ bs at. then_ends (r bs at) (s (bs ++ rest) at) k l (h.goes bs at rest) (λ a left p. (f a).goes left p) }

  map_ends : {A B : Type 0} (g : A → B) (x y : Read A) → Ends x y → Ends (next x (λ a. done (g a))) (next y (λ a. done (g a)))
  map_ends g (got a left p) y h = ap (λ (z : Read _). next z (λ a. done (g a))) h
  map_ends g (refused r) y h = tt
  map_ends g endless y h = tt

  end_map : {A B : Type 0} {r s : Reader A} (g : A → B) → Ending r s → Ending (r >>= λ a. done (g a)) (s >>= λ a. done (g a))
  end_map {r = r} {s} g h = record { goes = λ bs at. map_ends g (r bs at) (s (bs ++ rest) at) (h.goes bs at) }

  end_loop : {A : Type 0} (turn : ℕ → Reader A) → ((n m : ℕ) → n ≤ m → Ending (turn n) (turn m)) → Ending (loop turn) (loop turn)
  end_loop turn h = record { goes = λ bs at. (h (suc (length bs)) (suc (length (bs ++ rest))) (omega (arith, length-append bs rest))).goes bs at }

  -- ---- the last group: a start code doesn't end it
  abbrev NotEnded : Judged Mba → Type 0
  NotEnded (fine (step s)) = Unit {0}
  NotEnded (fine stuffed) = Unit {0}
  NotEnded (fine ended) = ⊥
  NotEnded (against r) = Unit {0}

  not_ended_by : (a b c : Bool) (m : ℕ) (x y : Reason) → NotEnded (pick a (fine stuffed) (pick b (against x) (pick c (against y) (fine (step m)))))
  not_ended_by true b c m x y = tt
  not_ended_by false true c m x y = tt
  not_ended_by false false true m x y = tt
  not_ended_by false false false m x y = tt

  last_ended : (address m : ℕ) → NotEnded (mba_of true address m)
  last_ended address m = not_ended_by (eqb m stuffing) (eqb m start_code) (ltb 33 (address + m)) m _ _

  module _ (some : 1 ≤ length rest) (unread : (at : ℕ) → word table1 rest at ≡ bad reason at) where
    module _ (f : Format) (number_of : ℕ) (before : Before) (n m : ℕ) (on : (b : Before) → Ending (macroblocks_from n f true number_of b) (macroblocks_from m f true number_of b)) where
      abbrev less : Mba → Reader (List Macroblock)
      less = macroblocks_after (macroblocks_from n f true number_of) f number_of before

      abbrev more : Mba → Reader (List Macroblock)
      more = macroblocks_after (macroblocks_from m f true number_of) f number_of before

      abbrev mba_read : Reader Mba
      mba_read = judged_read (word table1) (mba_of true before.address)

      by_judged : (at : ℕ) (j : Judged Mba) → NotEnded j → (left : List Bit) (p : ℕ) → Ends (next (settle at j left p) less) (next (settle at j (left ++ rest) p) more)
      by_judged at (fine (step s)) t left p = (end_then (ext_macroblock f number_of before s) (λ x. end_map (λ (xs : List Macroblock). x ∷ xs) (on (before_next x)))).goes left p
      by_judged at (fine stuffed) t left p = (on before).goes left p
      by_judged at (fine ended) t left p = absurd t
      by_judged at (against r) t left p = tt

      by_word : (at : ℕ) (x y : Read ℕ) → Goes rest x y
          → Ends (next (next x (λ a. settle at (mba_of true before.address a))) less) (next (next y (λ a. settle at (mba_of true before.address a))) more)
      by_word at (got a left p) y h =
          subst (λ (z : Read ℕ). Ends (next (settle at (mba_of true before.address a) left p) less) (next (next z (λ b. settle at (mba_of true before.address b))) more)) (sym h)
          (by_judged at (mba_of true before.address a) (last_ended before.address a) left p)
      by_word at (refused r) y h = tt
      by_word at endless y h = tt

      turn_ends : (bs : List Bit) (at : ℕ) → Ends (next (or_end ended mba_read bs at) less) (next (or_end ended mba_read (bs ++ rest) at) more)
      turn_ends [] at =
          ap (λ (x : Read Mba). next x more) (not-ended ended mba_read rest at some ∙ ap (λ (x : Read ℕ). next x (λ a. settle at (mba_of true before.address a))) (unread at))
      turn_ends (b ∷ bs) at = by_word at (word table1 (b ∷ bs) at) (word table1 (b ∷ (bs ++ rest)) at) (ext_mba_word.goes (b ∷ bs) at rest)

    end_macroblocks : (n m : ℕ) → n ≤ m → (f : Format) (number_of : ℕ) (before : Before) → Ending (macroblocks_from n f true number_of before) (macroblocks_from m f true number_of before)
    unfolding macroblocks_from mba
    end_macroblocks zero m l f number_of before = record { goes = λ bs at. tt }
    end_macroblocks (suc n) zero l f number_of before = absurd (not-suc-le-zero l)
    end_macroblocks (suc n) (suc m) l f number_of before =
        record { goes = λ bs at. turn_ends f number_of before n m (λ b. end_macroblocks n m (le_of_suc-le-suc l) f number_of b) bs at }

    end_group : (f : Format) (number_of : ℕ) → Ending (group f true number_of) (group f true number_of)
    unfolding group
    end_group f number_of =
        end_then (ext_head number_of)
        (λ q. end_map (λ (ms : List Macroblock). record { gquant = q; macroblocks = ms }) (end_loop (λ turns. macroblocks_from turns f true number_of at_start) (λ n m l. end_macroblocks n m l f number_of at_start)))

    end_groups : (f : Format) (number_of : ℕ) (numbers : List ℕ) → Ending (groups_read f (number_of ∷ numbers)) (groups_read f (number_of ∷ numbers))
    unfolding groups_read
    end_groups f number_of [] = end_map (λ (x : Group). x ∷ []) (end_group f number_of)
    end_groups f number_of (second ∷ numbers) = end_then (ext_group f number_of) (λ x. end_map (λ (xs : List Group). x ∷ xs) (end_groups f second numbers))

    end_all : (f : Format) → Ending (groups_read f (group_numbers f)) (groups_read f (group_numbers f))
    end_all Qcif = end_groups Qcif 1 (3 ∷ 5 ∷ [])
    end_all Cif = end_groups Cif 1 (2 ∷ 3 ∷ 4 ∷ 5 ∷ 6 ∷ 7 ∷ 8 ∷ 9 ∷ 10 ∷ 11 ∷ 12 ∷ [])

    end_picture : (f : Format) → Ending (picture f) (picture f)
    unfolding picture
    end_picture f = end_then (ext_header f) (λ head. end_map (λ (gs : List Group). record { tr = head.tr; ptype = head.ptype; groups = gs }) (end_all f))

-- ---- zeros, fewer than eight: a beginning of a codeword
zeros_unread : (k : ℕ) → 1 ≤ k → k ≤ 7 → (at : ℕ) → word table1 (replicate k bit0) at ≡ bad BitsEnd at
unfolding word lookup longer table1
zeros_unread zero l h at = absurd (omega (arith, l))
zeros_unread (suc zero) l h at = refl
zeros_unread (suc (suc zero)) l h at = refl
zeros_unread (suc (suc (suc zero))) l h at = refl
zeros_unread (suc (suc (suc (suc zero)))) l h at = refl
zeros_unread (suc (suc (suc (suc (suc zero))))) l h at = refl
zeros_unread (suc (suc (suc (suc (suc (suc zero)))))) l h at = refl
zeros_unread (suc (suc (suc (suc (suc (suc (suc zero))))))) l h at = refl
zeros_unread (suc (suc (suc (suc (suc (suc (suc (suc k)))))))) l h at = absurd (omega (arith, h))

zero_bits : (k : ℕ) → bits_of k 0 ≡ replicate k bit0
zero_bits zero = refl
zero_bits (suc k) = (λ i. bit_of (zero-div (2 ^ k) i % 2) ∷ zero_bits k i)

-- ---- reading with fill
module _ (f : Format) (bytes : List ℕ) (n k : ℕ) (few : 1 ≤ k) (most : k ≤ 7) (lent : n + k ≤ 8 * length bytes) (low : n + k ≤ limit (size_of f)) (none : value bytes n k ≡ 0) where
  filled_source : source bytes (n + k) ≡ source bytes n ++ replicate k bit0
  filled_source =
      let less : n ≤ 8 * length bytes = omega (arith, lent) in
      let all : n + k - 0 ≡ n + k = omega arith in
      let own : n - 0 ≡ n = omega arith in
      let there : 0 + n ≡ n = omega arith in
      source_left bytes (n + k) lent ∙ ap (bits_from bytes 0) all ∙ bits_split bytes 0 n k
      ∙ (λ i. (ap (bits_from bytes 0) (sym own) ∙ sym (source_left bytes n less)) i ++ (ap (λ (a : ℕ). bits_from bytes a k) there ∙ bits_value bytes n k ∙ ap (bits_of k) none ∙ zero_bits k) i)

  within : (m : ℕ) → m ≤ n + k → reading f bytes m ≡ picture f (source bytes m) 0
  unfolding reading
  within m l =
      λ i. pick (either (le-ltb (8 * length bytes) m (omega (arith, l, lent)) i) (le-ltb (limit (size_of f)) m (omega (arith, l, low)) i)) (bad Count 0) (picture f (source bytes m) 0)

  filled_reading : (p : Picture) (left : List Bit) (at : ℕ) → reading f bytes n ≡ got p left at → reading f bytes (n + k) ≡ bad BitsEnd n
  filled_reading p left at e =
      let some : 1 ≤ length (replicate k bit0) = omega (arith, few, length-replicate k bit0) in
      let ends : Ends (replicate k bit0) BitsEnd (got p left at) (picture f (source bytes n ++ replicate k bit0) 0) =
      subst (λ (x : Read Picture). Ends (replicate k bit0) BitsEnd x (picture f (source bytes n ++ replicate k bit0) 0)) (sym (within n (omega arith)) ∙ e)
      ((end_picture (replicate k bit0) BitsEnd some (zeros_unread k few most) f).goes (source bytes n) 0) in
      within (n + k) (omega arith) ∙ ap (λ (bs : List Bit). picture f bs 0) filled_source ∙ ends ∙ ap (λ (place : ℕ). bad BitsEnd place) (all_read f bytes n p left at e).1

  abbrev told : Bool → Read Picture → Told Flat
  told b x = pick b (found (map_read (laid_picture f) x)) (told_refused 1 0)

  filled_read_lem : (before d : Flat) → read_of (H261 f) bytes n before ≡ accepted d → read_of (H261 f) bytes (n + k) before ≡ told_refused 3 n
  unfolding read_of coding_of described number read_table
  filled_read_lem before d e = by (lengths_of f before) refl (reading f bytes n) refl
    where
      by : (b : Bool) → lengths_of f before ≡ b → (x : Read Picture) → reading f bytes n ≡ x → told (lengths_of f before) (reading f bytes (n + k)) ≡ told_refused 3 n
      by true l (got p left at) x = λ i. told (l i) (filled_reading p left at x i)
      by true l (refused r) x = absurd (told_apart (sym ((λ i. told (sym l i) (sym x i)) ∙ e)))
      by true l endless x = absurd (told_apart (sym ((λ i. told (sym l i) (sym x i)) ∙ e)))
      by false l y x = absurd (told_apart (sym ((λ i. told (sym l i) (sym x i)) ∙ e)))

-- ---- as the code sees it: the window from the second zero on begins with zeros
pub fill_short : {f : Format} {bytes : List ℕ} {count ones most window : ℕ} → most ≡ limit (size_of f) → count ≤ most → count / 8 < length bytes → ones < count → 2 ≤ count - ones → count - ones ≤ 8
    → window ≡ value bytes (ones + 1) 24 → window / 2 ^ (25 - (count - ones)) ≡ 0 → ShortFill f bytes count ones
fill_short {f} {bytes} {count} {ones} {most} {window} m l lent some two few w z =
    let k = count - (ones + 1) in
    let t = 25 - (count - ones) in
    let all : k + t ≡ 24 = omega (arith, some, two, few) in
    record {
      some = omega (arith, some, two);
      few = omega (arith, some, few);
      lent = omega (arith, lent);
      low = omega (arith, m, l);
      none = sym (value_first bytes (ones + 1) k t) ∙ ap (λ (n : ℕ). value bytes (ones + 1) n / 2 ^ t) all ∙ ap (λ (n : ℕ). n / 2 ^ t) (sym w) ∙ z;
    }

-- ---- the picture without fill is the picture
abbrev Says : Told (Unit {0}) → Flat → Flat → Told Flat → Type 0
Says v before left x = (v ≡ verdict_on x) × (left ≡ found_or before x)

module _ {f : Format} {bytes : List ℕ} {count ones : ℕ} (h : ShortFill f bytes count ones) (before : Flat) where
  abbrev whole : ℕ
  whole = ones + 1

  abbrev fill : ℕ
  fill = count - whole

  all_bits_lem : whole + fill ≡ count
  all_bits_lem = omega (arith, h.some)

  counted : count_of f count ones ≡ count
  counted = omega (arith, h.low)

  once : (d : Flat) → read_of (H261 f) bytes whole before ≡ accepted d → filled_read f bytes count ones before ≡ accepted d
  unfolding filled_read unfilled
  once d e =
      let first : read_of (H261 f) bytes count before ≡ told_refused 3 whole =
      ap (λ (m : ℕ). read_of (H261 f) bytes m before) (sym all_bits_lem)
      ∙ filled_read_lem f bytes whole fill (omega (arith, h.some)) (omega (arith, h.few)) (omega (arith, h.lent, h.some)) (omega (arith, h.low, h.some)) h.none before d e in
      ap (λ (m : ℕ). by_first f bytes ones before (read_of (H261 f) bytes m before)) counted
      ∙ ap (by_first f bytes ones before) first
      ∙ ap (λ (t : Bool). pick t (or_else (untabled 3 whole) (read_of (H261 f) bytes whole before)) (told_refused 3 whole)) (le-leb ones whole (omega arith))
      ∙ ap (or_else (untabled 3 whole)) e

  module _ {v : Told (Unit {0})} {left : Flat} (s : Says v before left (read_of (H261 f) bytes whole before)) where
    pub filled_once : v ≡ accepted tt → Says (accepted tt) before left (filled_read f bytes count ones before)
    filled_once a = go (read_of (H261 f) bytes whole before) refl
      where
        go : (x : Told Flat) → read_of (H261 f) bytes whole before ≡ x → Says (accepted tt) before left (filled_read f bytes count ones before)
        go (accepted d) e = (sym (ap verdict_on (once d e)), s.1 ∙ ap (found_or before) (e ∙ sym (once d e)))
        go (refused_by numbers) e = absurd (told_apart (sym a ∙ s.0 ∙ ap verdict_on e))

    -- else it is read with all of its bits, in buffers that are as they were
    pub filled_again : {numbers : Numbers} {r : Told (Unit {0})} {last : Flat} → v ≡ refused_by numbers
        → Says r left last (filled_read f bytes count ones left) → Says r before last (filled_read f bytes count ones before)
    filled_again {r = r} {last} a u = subst (λ (d : Flat). Says r d last (filled_read f bytes count ones d)) kept u
      where
        go : (x : Told Flat) → read_of (H261 f) bytes whole before ≡ x → left ≡ before
        go (accepted d) e = absurd (told_apart (sym (sym a ∙ s.0 ∙ ap verdict_on e)))
        go (refused_by others) e = s.1 ∙ ap (found_or before) e

        kept : left ≡ before
        kept = go (read_of (H261 f) bytes whole before) refl
