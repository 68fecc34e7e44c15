-- Reading, decoding and writing are refused by the first rule that refuses. Assumes nothing.
use Prim.Native.Nat.{ℕ, ◌*◌}
use mathlib.Core.Path.{◌≡◌, refl, sym, subst, ◌∙◌}
use mathlib.Core.Bool.{Bool, true, false}
use mathlib.Core.List.{List, [], ◌∷◌}
use lib.Dec.{ltb, eqb}
use lib.ListN.{length}
use Rattle.laws.specs.Choice.{pick, both, either, opposite}
use Rattle.laws.proofs.Choice.{T_true}
use Rattle.refusals.specs.declared.Reason.{Reason}
use Rattle.refusals.specs.declared.Reason.TheVariants.{Count}
use Rattle.refusals.specs.declared.Refusal.{Refusal}
use Rattle.refusals.specs.Number.{number, read_table}
use Rattle.refusals.specs.Told.{Numbers, numbers_of, Told, accepted, refused_by, verdict_on}
use Rattle.refusals.proofs.Told.{reason_of, reason_numbered, same_numbers, told_apart}
use Rattle.refusals.proofs.Tables.{tabled_exactly}
use Rattle.bits.specs.Bits.{source}
use Rattle.bits.specs.Read.{Read, got, endless, bad, refused as unread}
use Rattle.fields.specs.Answer.{map_read, found}
use Rattle.size.specs.declared.Size.{Size}
use Rattle.size.specs.Size.{limit, store_length}
use Rattle.layout.specs.Flat.{Flat}
use Rattle.layout.specs.Valid.{has_lengths}
use Rattle.h261_groups.specs.declared.Format.{Format}
use Rattle.h261_groups.specs.Format.{size_of}
use Rattle.coding.specs.declared.Kind.{Kind}
use Rattle.coding.specs.declared.Kind.TheVariants.{H261, H263}
use Rattle.coding.specs.Coding.{Coding}
use Rattle.coding.specs.Kind.{kind_size, shape_of, coding_of}
use Rattle.coding.specs.Described.{read_of, write_lengths, write_of}
use Rattle.decoder.specs.Decoded.{drawn_by, drawn_store, decoded}
use Rattle.demand1.specs.Order.{when, first_verdict}
use Rattle.demand1.specs.Rules.{picture_rules, read_rules, decode_rules, write_rules, reading_number, InTable, PictureInTable}
use Rattle.demand1.proofs.Order.{alone, unless_then, if_refused}
use Rattle.h261_description.specs.Value as V261
use Rattle.h261_layers.specs.Grammar as G261
use Rattle.h261_reader.specs.Described as R261
use Rattle.h261_reader.specs.Verdict as S261
use Rattle.h261_reader.proofs.Verdicts as P261
use Rattle.h263_description.specs.Value as V263
use Rattle.h263_layers.specs.Grammar as G263
use Rattle.h263_reader.specs.Described as R263
use Rattle.h263_readback.specs.Verdict as S263
use Rattle.h263_readback.proofs.Verdicts as P263

-- ---- a picture's bits
found_map : {A B : Type 0} (f : A → B) (x : Read A) → verdict_on (found (map_read f x)) ≡ verdict_on (found x)
found_map f (got a left at) = refl
found_map f (unread why) = refl
found_map f endless = refl

counted : {A : Type 0} (over : Bool) (x : Read A) → verdict_on (found (pick over (bad Count 0) x)) ≡ first_verdict (when 2 over ∷ verdict_on (found x) ∷ [])
unfolding number read_table
counted true x = refl
counted false x = sym (alone (verdict_on (found x)))

h261_due : (f : Format) (bytes : List ℕ) (n : ℕ) → verdict_on (found (G261.reading f bytes n)) ≡ first_verdict (picture_rules (H261 f) bytes n)
unfolding G261.reading
h261_due f bytes n = counted (either (ltb (8 * length bytes) n) (ltb (limit (size_of f)) n)) (G261.picture f (source bytes n) 0)

h263_due : (size : Size) (bytes : List ℕ) (n : ℕ) → verdict_on (found (G263.reading size bytes n)) ≡ first_verdict (picture_rules (H263 size) bytes n)
unfolding G263.reading
h263_due size bytes n = counted (either (ltb (8 * length bytes) n) (ltb (limit size) n)) (G263.picture size (source bytes n) 0)

pub kind_due : (k : Kind) (bytes : List ℕ) (n : ℕ) → verdict_on ((coding_of k).read bytes n) ≡ first_verdict (picture_rules k bytes n)
unfolding coding_of R261.described R263.described
kind_due (H261 f) bytes n = found_map (V261.laid_picture f) (G261.reading f bytes n) ∙ h261_due f bytes n
kind_due (H263 size) bytes n = found_map (V263.laid_picture size) (G263.reading size bytes n) ∙ h263_due size bytes n

pub reader_due : (k : Kind) (bytes : List ℕ) (n : ℕ) (before : Flat) → verdict_on (read_of k bytes n before) ≡ first_verdict (read_rules k bytes n before)
unfolding read_of
reader_due k bytes n before = unless_then (has_lengths (shape_of k) before) 1 ((coding_of k).read bytes n) (picture_rules k bytes n) (kind_due k bytes n)

-- ---- drawn over a reference
drawn_verdict : {D : Type 0} (c : Coding D) (reference : List ℕ) (x : Told D) → verdict_on (drawn_by c reference x) ≡ verdict_on x
drawn_verdict c reference (accepted d) = refl
drawn_verdict c reference (refused_by numbers) = refl

pub decoder_due : (k : Kind) (bytes : List ℕ) (n : ℕ) (reference store : List ℕ) → verdict_on (decoded k bytes n reference (length store)) ≡ first_verdict (decode_rules k bytes n reference store)
unfolding decoded drawn_store
decoder_due k bytes n reference store =
    unless_then (both (eqb (length reference) (store_length (kind_size k))) (eqb (length store) (store_length (kind_size k)))) 1 (drawn_by (coding_of k) reference ((coding_of k).read bytes n))
    (picture_rules k bytes n) (drawn_verdict (coding_of k) reference ((coding_of k).read bytes n) ∙ kind_due k bytes n)

-- ---- a description
pub writer_due : (k : Kind) (d : Flat) (room : ℕ) → verdict_on (write_of k d room) ≡ first_verdict (write_rules k d room)
unfolding write_of
writer_due k d room =
    let count : ℕ = length ((coding_of k).written d) in
    let above = when 32 (ltb (limit (kind_size k)) count) in
    unless_then (write_lengths k d room) 1 _ (when 31 (opposite ((coding_of k).valid d)) ∷ above ∷ [])
    (unless_then ((coding_of k).valid d) 31 _ (above ∷ []) (if_refused (ltb (limit (kind_size k)) count) 32 count))

-- ---- the table
two : (reason : Reason) → number reason ≡ 2 → reason ≡ Count
unfolding reason_of
two reason h = reason_numbered reason 2 h

-- what refuses is a refusal of the grammar, which ends
refused_in : {A : Type 0} (k : Kind) (n : ℕ) (numbers : Numbers) (x : Read A) → (x ≡ endless → ⊥) → ((why : Refusal) → x ≡ unread why → InTable k n (numbers_of why))
    → verdict_on (found x) ≡ refused_by numbers → InTable k n numbers
refused_in k n numbers (got a left at) ends by h = absurd (told_apart h)
refused_in k n numbers endless ends by h = absurd (ends refl)
refused_in k n numbers (unread why) ends by h = subst (λ (x : Numbers). InTable k n x) (same_numbers h) (by why refl)

pub picture_in_table : PictureInTable
picture_in_table (H261 f) bytes n numbers e =
    refused_in (H261 f) n numbers (G261.reading f bytes n) (P261.never_endless f bytes n) (λ why q. by why (P261.refused_by_table f bytes n why q)) (h261_due f bytes n ∙ e)
  where
    by : (why : Refusal) → S261.Refuses n why → InTable (H261 f) n (numbers_of why)
    by why t = record {
      listed = T_true (reading_number (H261 f) (number why.reason)) t.listed;
      within = t.within;
      counted = λ z. t.counted (two why.reason z);
      tabled = tabled_exactly why;
    }
picture_in_table (H263 size) bytes n numbers e =
    refused_in (H263 size) n numbers (G263.reading size bytes n) (P263.never_endless size bytes n) (λ why q. by why (P263.refused_by_table size bytes n why q)) (h263_due size bytes n ∙ e)
  where
    by : (why : Refusal) → S263.Refuses n why → InTable (H263 size) n (numbers_of why)
    by why t = record {
      listed = T_true (reading_number (H263 size) (number why.reason)) t.listed;
      within = t.within;
      counted = λ z. t.counted (two why.reason z);
      tabled = tabled_exactly why;
    }
