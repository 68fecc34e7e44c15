-- The blocks of a picture are judged good, and their payloads collect to its bits. Assumes nothing.
use mathlib.Core.Path.{◌≡◌, refl, sym, ap, ◌∙◌}
use mathlib.Core.Bool.{Bool, true, false}
use mathlib.Core.List.{List, ◌++◌, append_assoc}
use Prim.Native.Nat.{ℕ, zero, suc, ◌+◌, ◌*◌, ◌/◌, ◌%◌, ◌^◌, ◌≤◌, ◌<◌}
use mathlib.Core.Logic.{⊎_elim}
use native.Mathlib.Nat.{eq-or-lt_of_le, le_of_suc-le-suc, not-suc-le-zero}
use native.Mathlib.Omega.{arith}
use lib.ListN.{length, get_or, take, drop, length-take, length-drop, length-append}
use lib.Seq.{get_or-take, ext_get_or, length-take-le, take_at, drop_at}
use lib.Dec.{eqb}
use borrow.Author.Tests.{le-leb, lt-ltb, eq-eqb, eqb-false}
use Rattle.laws.specs.Choice.{both, either, opposite}
use Rattle.laws.specs.Row.{row}
use Rattle.laws.proofs.Row.{get_d_row, row-append}
use Rattle.size.specs.declared.Size.{Size}
use Rattle.size.specs.declared.Size.TheVariants.{SubQcif, Qcif, Cif}
use Rattle.size.specs.Size.{limit}
use Rattle.refusals.specs.Told.{accepted}
use Rattle.vault.specs.declared.Standard.{Standard}
use Rattle.vault.specs.Block.{unused, unused_clear, pictures, greatest_part, header_ruled, payload_of, check_of, judge_of}
use Rattle.vault.specs.Parts.{part_count, used_at, kept_byte, payload_at, header_at, block_at, first_blocks, placed_payload}
use Rattle.vault.proofs.Clear.{clear_all}
use Rattle.vault.proofs.KeptLaws.{kept_zero, kept_clear, payload_length, payload_byte}
use Rattle.vault.proofs.Cut.{at_length, first-length}
use Rattle.vault.proofs.Judged.{both_true, made_good, made_payload, good_judged}
use Rattle.vault.specs.Collected.{Collected, Part, BlocksJudged, AllCollected}

-- the parts of a picture of N bits within the limit are those that a block can name
part_most : (size : Size) (count part : ℕ) → count ≤ limit size → part < part_count count → part ≤ greatest_part size
part_most SubQcif count part l p = omega arith
part_most Qcif count part l p = omega arith
part_most Cif count part l p = omega arith

refresh_first : (refresh first : Bool) → either (opposite (both refresh first)) first ≡ true
refresh_first true true = refl
refresh_first true false = refl
refresh_first false first = refl

full_or_last : (last : Bool) (used : ℕ) → (last ≡ false → used ≡ 4000) → either last (eqb used 4000) ≡ true
full_or_last true used h = refl
full_or_last false used h = eq-eqb used 4000 (h refl)

started : (count part : ℕ) → part < part_count count → 4000 * part < count
started count part l = omega arith

module _ (standard : Standard) (clip picture : ℕ) (refresh : Bool) (bytes : List ℕ) (count : ℕ) where
  -- ---- each block is good
  module _ (size : Size) {part : ℕ} (p : Part size clip picture count part) where
    header_ruled_lem : header_ruled size (header_at standard clip picture refresh count part) ≡ true
    unfolding header_ruled
    header_ruled_lem =
        both_true (le-leb 1 clip p.clip_is)
        (both_true (lt-ltb picture pictures p.picture_is)
        (both_true (le-leb part (greatest_part size) (part_most size count part p.count_is p.part_is))
        (both_true (refresh_first refresh (eqb part 0))
        (both_true (le-leb 1 (used_at count part) some)
        (both_true (le-leb (used_at count part) 4000 most) (full_or_last (eqb (part + 1) (part_count count)) (used_at count part) full))))))
      where
        some : 1 ≤ used_at count part
        some = omega (arith, started count part p.part_is)

        most : used_at count part ≤ 4000
        most = omega arith

        full : eqb (part + 1) (part_count count) ≡ false → used_at count part ≡ 4000
        full e = omega (arith, eqb-false (part + 1) (part_count count) e, p.part_is)

    payload_clear : unused_clear (used_at count part) (payload_at bytes count part) 500 ≡ true
    payload_clear =
        clear_all (used_at count part) (payload_at bytes count part) 500
        (λ j l. (λ i. payload_byte bytes count part j l i % 2 ^ same j l i) ∙ kept_zero bytes count (500 * part + j))
      where
        same : (j : ℕ) → j < 500 → unused (used_at count part) j ≡ unused count (500 * part + j)
        same j l = omega (arith, started count part p.part_is)

    -- judged good, with its own header
    at_good : check_of size (block_at standard clip picture refresh bytes count part) ≡ accepted (header_at standard clip picture refresh count part)
    unfolding block_at
    at_good =
        made_good size (header_at standard clip picture refresh count part) (payload_at bytes count part) (payload_length bytes count part) header_ruled_lem
        payload_clear

    judged_good_at : judge_of size standard clip (block_at standard clip picture refresh bytes count part) ≡ accepted (header_at standard clip picture refresh count part)
    judged_good_at =
        good_judged size (block_at standard clip picture refresh bytes count part) (header_at standard clip picture refresh count part) at_good

  pub at_payload : (part : ℕ) → payload_of (block_at standard clip picture refresh bytes count part) ≡ payload_at bytes count part
  unfolding block_at
  at_payload part = made_payload (header_at standard clip picture refresh count part) (payload_at bytes count part) (payload_length bytes count part)

  -- the last part says how many bits the picture has
  pub count_back : (part : ℕ) → 1 ≤ count → part + 1 ≡ part_count count → 4000 * part + (header_at standard clip picture refresh count part).used ≡ count
  count_back part l e = omega arith

  -- ---- block k of the blocks, whatever follows them
  pub nth : (n part : ℕ) (rest : List ℕ) → part < n
      → take 512 (drop (512 * part) (first_blocks standard clip picture refresh bytes count n ++ rest)) ≡ block_at standard clip picture refresh bytes count part
  unfolding first_blocks
  nth zero part rest l = absurd (not-suc-le-zero l)
  nth (suc n) part rest l =
      ap (λ (s : List ℕ). take 512 (drop (512 * part) s))
      (append_assoc (first_blocks standard clip picture refresh bytes count n) (block_at standard clip picture refresh bytes count n) rest)
      ∙ ⊎_elim last (λ s. nth n part (block_at standard clip picture refresh bytes count n ++ rest) s) (eq-or-lt_of_le (le_of_suc-le-suc l))
    where
      last : part ≡ n
          → take 512 (drop (512 * part) (first_blocks standard clip picture refresh bytes count n ++ (block_at standard clip picture refresh bytes count n ++ rest)))
          ≡ block_at standard clip picture refresh bytes count part
      last e =
          ap (take 512)
          (ap (λ (k : ℕ). drop (512 * k) (first_blocks standard clip picture refresh bytes count n ++ (block_at standard clip picture refresh bytes count n ++ rest))) e
          ∙ drop_at (first_blocks standard clip picture refresh bytes count n) _ (512 * n) (first-length standard clip picture refresh bytes count n))
          ∙ take_at (block_at standard clip picture refresh bytes count n) rest 512 (at_length standard clip picture refresh bytes count n)
          ∙ ap (block_at standard clip picture refresh bytes count) (sym e)

pub at_judged : BlocksJudged
at_judged standard clip picture refresh bytes count size part p = judged_good_at standard clip picture refresh bytes count size p

pub placed_length : (block : List ℕ) (part : ℕ) (collection : List ℕ) → length block ≡ 512 → 500 * part + 500 ≤ length collection
    → length (placed_payload block part collection) ≡ length collection
unfolding placed_payload
placed_length block part collection e l =
    omega (
      arith,
      length-append (take (500 * part) collection ++ payload_of block) (drop (500 * part + 500) collection),
      length-append (take (500 * part) collection) (payload_of block),
      length-take (500 * part) collection,
      length-take 500 (drop 8 block),
      length-drop 8 block,
      length-drop (500 * part + 500) collection,
    )

module _ (bytes : List ℕ) (count : ℕ) where
  pub collected_none : (collection : List ℕ) → Collected bytes count 0 collection
  unfolding row
  collected_none collection = record { first = refl }

  -- part n is taken
  pub collected_more : (block : List ℕ) (n : ℕ) (collection : List ℕ) → payload_of block ≡ payload_at bytes count n → 500 * n + 500 ≤ length collection
      → Collected bytes count n collection → Collected bytes count (n + 1) (placed_payload block n collection)
  unfolding placed_payload payload_at
  collected_more block n collection e l h = record {
    first =
        take_at (take (500 * n) collection ++ payload_of block) (drop (500 * n + 500) collection) (500 * (n + 1)) long
        ∙ (λ i. h.first i ++ e i) ∙ row-append (500 * n) 500 (kept_byte bytes count)
        ∙ ap (λ (k : ℕ). row k (kept_byte bytes count)) next;
  }
    where
      next : 500 * n + 500 ≡ 500 * (n + 1)
      next = omega arith

      long : length (take (500 * n) collection ++ payload_of block) ≡ 500 * (n + 1)
      long =
          omega (
            arith,
            length-append (take (500 * n) collection) (payload_of block),
            length-take-le (500 * n) collection (omega arith),
            ap length e,
            payload_length bytes count n,
          )

  pub collected_byte : (n : ℕ) (collection : List ℕ) → Collected bytes count n collection → (i : ℕ) → i < 500 * n
      → get_or collection i 0 ≡ kept_byte bytes count i
  collected_byte n collection h i l =
      sym (get_or-take (500 * n) collection i 0 l) ∙ ap (λ (s : List ℕ). get_or s i 0) h.first
      ∙ get_d_row (500 * n) (kept_byte bytes count) 0 i l

  bytes_collected : (collection : List ℕ) → count ≤ 8 * length bytes → 500 * part_count count ≤ length collection
      → ((i : ℕ) → i < (count + 7) / 8 → get_or bytes i 0 % 2 ^ unused count i ≡ 0)
      → Collected bytes count (part_count count) collection → take ((count + 7) / 8) collection ≡ take ((count + 7) / 8) bytes
  bytes_collected collection l m z h =
      ext_get_or 0 (take ((count + 7) / 8) collection) (take ((count + 7) / 8) bytes) (long collection room ∙ sym (long bytes fits)) byte
    where
      room : (count + 7) / 8 ≤ length collection
      room = omega arith

      fits : (count + 7) / 8 ≤ length bytes
      fits = omega arith

      long : (s : List ℕ) → (count + 7) / 8 ≤ length s → length (take ((count + 7) / 8) s) ≡ (count + 7) / 8
      long s l = length-take-le ((count + 7) / 8) s l

      inside : (i : ℕ) → i < (count + 7) / 8 → i < 500 * part_count count
      inside i k = omega arith

      byte : (i : ℕ) → i < length (take ((count + 7) / 8) collection)
          → get_or (take ((count + 7) / 8) collection) i 0 ≡ get_or (take ((count + 7) / 8) bytes) i 0
      byte i k =
          let j : i < (count + 7) / 8 = omega (arith, long collection room) in
          get_or-take ((count + 7) / 8) collection i 0 j ∙ collected_byte (part_count count) collection h i (inside i j)
          ∙ kept_clear bytes count i (z i j) ∙ sym (get_or-take ((count + 7) / 8) bytes i 0 j)

pub collected_all : AllCollected
collected_all bytes count = bytes_collected bytes count
