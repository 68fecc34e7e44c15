-- What is seen of listed places and reads: a field, a codeword and several that are one are read alike in places of any kind. Assumes nothing.
use Prim.Native.Nat.{ℕ, zero, suc, ◌+◌, ◌-◌, ◌*◌}
use mathlib.Core.Path.{◌≡◌, refl, sym, ap, ◌∙◌}
use mathlib.Core.Bool.{Bool, true, false}
use mathlib.Core.List.{List, [], ◌∷◌, ◌++◌}
use native.Mathlib.Omega.{arith}
use lib.ListN.{length, drop, length-append}
use Rattle.refusals.specs.declared.Reason.{Reason}
use Rattle.refusals.specs.declared.Reason.TheVariants.{BitsEnd}
use Rattle.refusals.specs.declared.Refusal.{Refusal}
use Rattle.refusals.specs.Number.{refusal}
use Rattle.bits.specs.Bits.{Bit, num}
use Rattle.bits.specs.Places.{Places, plain, counted, listed, ListedPlace, bit_in, past_in, stop_in, seen_place, seen_refusal, total_width}
use Rattle.bits.specs.Read.{ReadIn, Read, got, refused, endless, failed, field_from, field, moved_read, seen_read}
use Rattle.bits.specs.Code.{Entry, entry, CodeTable, starts, lookup, word}

pub total_append : (a b : List ℕ) → total_width (a ++ b) ≡ total_width a + total_width b
unfolding total_width
total_append [] b = omega arith
total_append (w ∷ a) b = omega (arith, total_append a b)

-- ---- places
pub seen_bit : (P : Places) (at : ListedPlace) → bit_in P (seen_place P at) ≡ at.bit
seen_bit plain at = refl
seen_bit counted at = refl
seen_bit listed at = refl

pub seen_past : (P : Places) (at : ListedPlace) (end : ℕ) → past_in P (seen_place P at) end ≡ seen_place P (past_in listed at end)
seen_past plain at end = refl
seen_past counted at end = λ i. record { bit = end; reads = sym (length-append at.widths ((end - at.bit) ∷ [])) i }
seen_past listed at end = refl

pub seen_stop : (P : Places) (r : Refusal) (at : ListedPlace) → stop_in P r (seen_place P at) ≡ seen_refusal P (stop_in listed r at)
seen_stop plain r at = refl
seen_stop counted r at = refl
seen_stop listed r at = refl

-- ---- reads
module _ (P : Places) where
  pub seen_failed : {A : Type 0} (reason : Reason) (at : ListedPlace) → failed {A = A} reason (seen_place P at) ≡ seen_read P (failed reason at)
  seen_failed reason at =
      ap (λ (q : ℕ). refused (stop_in P (refusal reason q) (past_in P (seen_place P at) q))) (seen_bit P at)
      ∙ ap (λ x. refused (stop_in P (refusal reason at.bit) x)) (seen_past P at at.bit) ∙ ap (λ x. refused x) (seen_stop P (refusal reason at.bit) (past_in listed at at.bit))

  seen_got : {A : Type 0} (a : A) (bs : List Bit) (at : ListedPlace) (end : ℕ) → got a bs (past_in P (seen_place P at) end) ≡ seen_read P (got a bs (past_in listed at end))
  seen_got a bs at end = ap (λ x. got a bs x) (seen_past P at end)

  field_from_lem : (k : ℕ) (at : ListedPlace) (v : ℕ) (bs : List Bit) (p : ℕ) → field_from k (seen_place P at) v bs p ≡ seen_read P (field_from k at v bs p)
  unfolding field_from
  field_from_lem zero at v bs p = seen_got v bs at p
  field_from_lem (suc k) at v [] p = seen_failed BitsEnd at
  field_from_lem (suc k) at v (b ∷ bs) p = field_from_lem k at (v * 2 + num b) bs (p + 1)

  pub seen_field : (k : ℕ) (bs : List Bit) (at : ListedPlace) → field k bs (seen_place P at) ≡ seen_read P (field k bs at)
  seen_field k bs at = ap (λ (q : ℕ). field_from k (seen_place P at) 0 bs q) (seen_bit P at) ∙ field_from_lem k at 0 bs at.bit

  lookup_from : (tab : List Entry) (bs : List Bit) (at : ListedPlace) (x : ReadIn P ℕ) (y : ReadIn listed ℕ) → x ≡ seen_read P y → lookup tab bs (seen_place P at) x ≡ seen_read P (lookup tab bs at y)
  unfolding lookup
  lookup_from [] bs at x y e = e
  lookup_from (entry w m ∷ tab) bs at x y e = by (starts w bs) (lookup_from tab bs at x y e)
    where
      by : (s : Bool) → lookup tab bs (seen_place P at) x ≡ seen_read P (lookup tab bs at y)
          → ◌≡◌ {A = ReadIn P ℕ} (elim s [ true ↦ got m (drop (length w) bs) (past_in P (seen_place P at) (bit_in P (seen_place P at) + length w)) | false ↦ lookup tab bs (seen_place P at) x ])
          (seen_read P {A = ℕ} (elim s [ true ↦ got m (drop (length w) bs) (past_in listed at (at.bit + length w)) | false ↦ lookup tab bs at y ]))
      by true h = ap (λ (q : ℕ). got m (drop (length w) bs) (past_in P (seen_place P at) (q + length w))) (seen_bit P at) ∙ seen_got m (drop (length w) bs) at (at.bit + length w)
      by false h = h

  pub seen_word : (table : CodeTable) (bs : List Bit) (at : ListedPlace) → word table bs (seen_place P at) ≡ seen_read P (word table bs at)
  unfolding word
  seen_word table bs at = lookup_from table.entries bs at _ _ (seen_failed _ at)

  pub seen_moved : {A : Type 0} (at : ListedPlace) (x : Read A) → moved_read (seen_place P at) x ≡ seen_read P (moved_read at x)
  seen_moved at (got a left p) = seen_got a left at p
  seen_moved at (refused r) = seen_failed r.reason at
  seen_moved at endless = refl
