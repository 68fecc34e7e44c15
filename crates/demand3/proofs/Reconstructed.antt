-- The payloads of a picture's blocks hold its bits, so they are read back as its description, and the sender's store is that description drawn over the store before. Assumes nothing.
use mathlib.Core.Path.{◌≡◌, refl, sym, ap, ◌∙◌}
use mathlib.Core.Bool.{Bool}
use mathlib.Core.List.{List, [], ◌∷◌, ◌++◌}
use mathlib.Core.Option.{some}
use Prim.Native.Nat.{ℕ, suc, ◌+◌, ◌*◌}
use native.Mathlib.Nat.{add-zero, zero-add}
use native.Mathlib.Omega.{arith}
use borrow.Author.Tests.{eq-eqb}
use lib.ListN.{length, get_elem?}
use lib.Seq.{take_all}
use Rattle.laws.specs.Row.{row}
use Rattle.laws.proofs.Row.{length-row, row-append}
use Rattle.refusals.specs.Told.{accepted}
use Rattle.size.specs.Size.{store_length}
use Rattle.bits.specs.Bits.{Bit}
use Rattle.layout.specs.Flat.{Flat}
use Rattle.coding.specs.declared.Kind.{Kind}
use Rattle.coding.specs.Coding.{Coding}
use Rattle.coding.specs.Kind.{kind_size, kind_standard, coding_of, AllLawful}
use Rattle.coding.specs.Described.{bytes_in}
use Rattle.coding.proofs.AllLawful.{coding_lawful}
use Rattle.vault.specs.Block.{header_of, payload_of}
use Rattle.vault.specs.Parts.{part_count, kept_byte, payload_at, header_at, block_at}
use Rattle.vault.proofs.Judged.{made_header}
use Rattle.vault.proofs.KeptLaws.{payload_length}
use Rattle.vault.proofs.Collected.{at_payload, count_back}
use Rattle.bits.specs.Write.{Holds}
use Rattle.standing.specs.Receive.{count_of}
use Rattle.decoder.specs.Decoded.{drawn_by, drawn_store, decoded}
use Rattle.demand3.specs.Clip.{Picture, Clip, pictures_in}
use Rattle.demand3.specs.Reconstructed.{payloads, count_in, DrawnOver, StoresReconstructed, DecodedOver, StoresDecoded}
use Rattle.demand3.proofs.Sent.{Whole}
use Rattle.demand3.proofs.Filled.{collected_holds}
use Rattle.demand3.proofs.Held.{Sound}
use Rattle.demand3.proofs.InStep.{sound_clip}

-- ---- blocks in a row
module _ (bytes : List ℕ) (count : ℕ) where
  -- their payloads, from this part on
  payloads-row : (blocks : List (List ℕ)) (from : ℕ) → ((i : ℕ) (block : List ℕ) → get_elem? blocks i ≡ some block → payload_of block ≡ payload_at bytes count (from + i))
      → payloads blocks ≡ row (500 * length blocks) (λ j. kept_byte bytes count (500 * from + j))
  unfolding payloads payload_at row
  payloads-row [] from h = refl
  payloads-row (block ∷ blocks) from h =
      (λ i. first i ++ rest (payloads-row blocks (from + 1) (λ i b e. h (suc i) b e ∙ ap (payload_at bytes count) (onward i))) i) ∙ row-append 500 (500 * length blocks) (λ j. kept_byte bytes count (500 * from + j)) ∙ ap (λ (n : ℕ). row n (λ j. kept_byte bytes count (500 * from + j))) long
    where
      long : 500 + 500 * length blocks ≡ 500 * suc (length blocks)
      long = omega arith

      onward : (i : ℕ) → from + suc i ≡ from + 1 + i
      onward i = omega arith

      shift : (j : ℕ) → 500 * (from + 1) + j ≡ 500 * from + (500 + j)
      shift j = omega arith

      first : payload_of block ≡ payload_at bytes count from
      first = h 0 block refl ∙ ap (payload_at bytes count) (add-zero from)

      rest : payloads blocks ≡ row (500 * length blocks) (λ j. kept_byte bytes count (500 * (from + 1) + j))
          → payloads blocks ≡ row (500 * length blocks) (λ j. kept_byte bytes count (500 * from + (500 + j)))
      rest later = later ∙ (λ i. row (500 * length blocks) (λ j. kept_byte bytes count (shift j i)))

-- N is the last one's
count_last : (count : ℕ) (blocks : List (List ℕ)) (from : ℕ) (block : List ℕ)
    → ((i : ℕ) (b : List ℕ) → get_elem? (block ∷ blocks) i ≡ some b → from + i + 1 ≡ part_count count → count_of (header_of b) ≡ count)
    → from + suc (length blocks) ≡ part_count count → count_in (block ∷ blocks) ≡ count
unfolding count_in
count_last count [] from block h l = h 0 block refl (ap (λ (n : ℕ). n + 1) (add-zero from) ∙ l)
count_last count (next ∷ blocks) from block h l =
    count_last count blocks (from + 1) next (λ i b e q. h (suc i) b e (ap (λ (n : ℕ). n + 1) (sym (onward i)) ∙ q)) (onward (suc (length blocks)) ∙ l)
  where
    onward : (i : ℕ) → from + 1 + i ≡ from + suc i
    onward i = omega arith

module _ {D : Type 0} {coding : Kind → Coding D} (lawful : AllLawful coding) (c : Clip D) where
  abbrev sent : List (Picture D)
  sent = pictures_in coding c

  sound : Sound coding c.number c.kind sent
  sound = sound_clip lawful c

  module _ (p : ℕ) (x : Picture D) (at : get_elem? sent p ≡ some x) where
    abbrev bits : List Bit
    bits = (coding c.kind).written x.description

    abbrev count : ℕ
    count = length bits

    whole : Whole coding c.number c.kind p x
    whole = sound.whole p x at

    -- ---- its blocks
    payload_of_lem : (i : ℕ) (block : List ℕ) → get_elem? x.blocks i ≡ some block → payload_of block ≡ payload_at (bytes_in bits) count (0 + i)
    payload_of_lem i block e =
        ap payload_of (sym (whole.parts i block e).1)
        ∙ at_payload (kind_standard c.kind) c.number p ((coding c.kind).refresh x.description) (bytes_in bits) count i
        ∙ ap (payload_at (bytes_in bits) count) (sym (zero-add i))

    all_payloads : payloads x.blocks ≡ row (500 * part_count count) (kept_byte (bytes_in bits) count)
    all_payloads =
        payloads-row (bytes_in bits) count x.blocks 0 payload_of_lem
        ∙ (λ i. row (500 * whole.count i) (λ j. kept_byte (bytes_in bits) count (zero-add j i)))

    holds : Holds (payloads x.blocks) bits
    holds =
        let long : length (payloads x.blocks) ≡ 500 * part_count count = ap length all_payloads ∙ length-row (500 * part_count count) (kept_byte (bytes_in bits) count) in
        collected_holds bits (payloads x.blocks) (omega (arith, long))
        (record { first = take_all (500 * part_count count) (payloads x.blocks) (omega (arith, long)) ∙ all_payloads })

    -- the part and the used bits of the last one
    count_of_lem : (i : ℕ) (block : List ℕ) → get_elem? x.blocks i ≡ some block → i + 1 ≡ part_count count → count_of (header_of block) ≡ count
    unfolding block_at
    count_of_lem i block e l =
        let refresh : Bool = (coding c.kind).refresh x.description in
        ap (λ (b : List ℕ). count_of (header_of b)) (sym (whole.parts i block e).1)
        ∙ ap count_of (made_header (header_at (kind_standard c.kind) c.number p refresh count i) (payload_at (bytes_in bits) count i) (payload_length (bytes_in bits) count i))
        ∙ count_back (kind_standard c.kind) c.number p refresh (bytes_in bits) count i ((lawful.each c.kind).has_bits x.description) l

    counted : count_in x.blocks ≡ count
    counted = go x.blocks refl
      where
        go : (blocks : List (List ℕ)) → x.blocks ≡ blocks → count_in blocks ≡ count
        go [] e = absurd (omega (arith, sym whole.count ∙ ap length e, (lawful.each c.kind).has_bits x.description))
        go (block ∷ blocks) e =
            count_last count blocks 0 block
            (λ i b q l. count_of_lem i b (ap (λ (s : List (List ℕ)). get_elem? s i) e ∙ q) (ap (λ (n : ℕ). n + 1) (sym (zero-add i)) ∙ l))
            (zero-add (suc (length blocks)) ∙ sym (ap length e) ∙ whole.count)

    -- ---- it is read back
    read_again : (coding c.kind).read (payloads x.blocks) (count_in x.blocks) ≡ accepted x.description
    read_again = ap ((coding c.kind).read (payloads x.blocks)) counted ∙ (lawful.each c.kind).reads x.description (payloads x.blocks) whole.valid whole.within holds

    drawn_over : (reference : List ℕ) → x.store ≡ (coding c.kind).render x.description reference → DrawnOver (coding c.kind) reference x
    drawn_over reference e = ap (drawn_by (coding c.kind) reference) read_again ∙ ap accepted (sym e)

    over_any : p ≡ 0 → (reference : List ℕ) → x.store ≡ (coding c.kind).render x.description reference
    over_any z reference =
        let under = sound.drawn p x at in
        under.1 ∙ (lawful.each c.kind).anew x.description under.0 reference whole.valid (whole.first z)

    pub store_long : length x.store ≡ store_length (kind_size c.kind)
    store_long = let under = sound.drawn p x at in ap length under.1 ∙ (lawful.each c.kind).rendered_long x.description under.0

pub stores_reconstructed : StoresReconstructed
stores_reconstructed D coding lawful c = record {
  first = λ x at reference. drawn_over lawful c 0 x at reference (over_any lawful c 0 x at refl reference);
  next = λ k before x at_before at. drawn_over lawful c (k + 1) x at before.store ((sound lawful c).onward k before x at_before at);
}

-- ---- ours
decoded_over : (k : Kind) (reference : List ℕ) (x : Picture Flat) → length reference ≡ store_length (kind_size k) → DrawnOver (coding_of k) reference x → DecodedOver k reference x
unfolding decoded drawn_store
decoded_over k reference x e h = rw (eq-eqb (length reference) (store_length (kind_size k)) e, eq-eqb (store_length (kind_size k)) (store_length (kind_size k)) refl) h

pub stores_decoded : StoresDecoded
stores_decoded c =
    let all = stores_reconstructed Flat coding_of coding_lawful c in
    record {
      first = λ x at reference e. decoded_over c.kind reference x e (all.first x at reference);
      next = λ k before x at_before at. decoded_over c.kind before.store x (store_long coding_lawful c k before at_before) (all.next k before x at_before at);
    }
