-- What `salvage` promises in each case. Assumes nothing.
use mathlib.Core.Path.{◌≡◌, refl, sym, ap, subst, ◌∙◌}
use mathlib.Core.Bool.{Bool, true, false, true≢false, false≢true}
use mathlib.Core.List.{List, ◌∷◌}
use Prim.Native.Nat.{ℕ, zero, suc, ◌*◌, ◌/◌, ◌%◌, ◌≤◌}
use native.Mathlib.Nat.{not-suc-le-zero, le_of_suc-le-suc}
use native.Mathlib.Omega.{arith}
use borrow.Author.Tests.{eqb-true, eq-eqb, ne_eqb}
use lib.Dec.{eqb}
use lib.ListN.{length, take, replicate}
use Rattle.laws.specs.Choice.{pick, either, opposite}
use Rattle.laws.proofs.Choice.{two_of, first_no, second_no}
use Rattle.refusals.specs.declared.Refusal.{Refusal}
use Rattle.refusals.specs.declared.Reason.TheVariants.{Length, BlockField, NoneKept}
use Rattle.refusals.specs.Number.{number, read_table, refusal}
use Rattle.refusals.specs.Told.{Numbers, numbers_of, Told, accepted, refused_by, refused}
use Rattle.refusals.proofs.Told.{accepted_once, told_apart}
use Rattle.size.specs.declared.Size.{Size}
use Rattle.size.specs.declared.Size.TheVariants.{SubQcif, Qcif, Cif}
use Rattle.size.specs.Size.{limit, store_length, collection_length}
use Rattle.coding.specs.declared.Kind.{Kind}
use Rattle.coding.specs.Kind.{kind_size, coding_of}
use Rattle.standing.specs.declared.Receiver.{Receiver}
use Rattle.standing.specs.Answered.{Said}
use Rattle.standing.specs.Receive.{Buffers, buffers, fresh_receiver, opened_receiver}
use Rattle.salvaging.specs.Kept.{kept_numbers}
use Rattle.salvaging.specs.Clip.{listed, blank_buffers, answers_to}
use Rattle.salvaging.specs.Salvage.{Salvage, salvage_by, some_kept, lengths_named, salvage_from, salvage_of, salvage_end, SalvageDoes}
use Rattle.salvaging.specs.Going.{answers_from, any_kept, RewriteDoes, SameLengths, BuffersIn}
use Rattle.salvaging.specs.declared.Salvaged.{Salvaged}
use Rattle.std.specs.Prelude.{Result, Err}

-- ---- opening
pub open_refused : (old : ℕ) (kind : Kind) (numbers : Numbers) → refused_by numbers ≡ opened_receiver old kind → (eqb old 0 ≡ true) × (◌≡◌ {A = Told Salvage} (refused_by numbers) (refused 22 0))
open_refused old kind numbers e = go (eqb old 0) refl e
  where
    numbers_in : Numbers → Told Receiver → Numbers
    numbers_in other (accepted r) = other
    numbers_in other (refused_by n) = n

    go : (b : Bool) → eqb old 0 ≡ b → refused_by numbers ≡ pick b (refused 22 0) (accepted (fresh_receiver old kind)) → (eqb old 0 ≡ true) × (◌≡◌ {A = Told Salvage} (refused_by numbers) (refused 22 0))
    go true f g = (f, ap (λ (t : Told Receiver). refused_by (numbers_in numbers t)) g)
    go false f g = absurd (told_apart (sym g))

pub open_opened : (old : ℕ) (kind : Kind) (r : Receiver) → accepted r ≡ opened_receiver old kind → (eqb old 0 ≡ false) × (r ≡ fresh_receiver old kind)
open_opened old kind r e = go (eqb old 0) refl e
  where
    go : (b : Bool) → eqb old 0 ≡ b → accepted r ≡ pick b (refused 22 0) (accepted (fresh_receiver old kind)) → (eqb old 0 ≡ false) × (r ≡ fresh_receiver old kind)
    go true f g = absurd (told_apart g)
    go false f g = (f, accepted_once g)

-- ---- refusals
module _ (kind : Kind) (old new : ℕ) (list out log : List ℕ) where
  -- a length that is another, or a part block
  pub other_length : lengths_named (length list) (length out) (length log) ≡ false → SalvageDoes kind old new list out log (Err (refusal Length 0)) out log
  unfolding salvage_of number read_table
  other_length e =
      sym (ap (λ (b : Bool). salvage_end out log (pick b (pick (either (eqb old 0) (eqb new 0)) (refused 22 0) (some_kept (salvage_from coding_of kind old new (listed list)))) (refused 1 0))) e)

  module _ (named : lengths_named (length list) (length out) (length log) ≡ true) where
    of_named : salvage_end out log (pick (either (eqb old 0) (eqb new 0)) (refused 22 0) (some_kept (salvage_from coding_of kind old new (listed list))))
        ≡ salvage_end out log (salvage_of coding_of kind old new list (length out) (length log))
    unfolding salvage_of
    of_named =
        sym (ap (λ (b : Bool). salvage_end out log (pick b (pick (either (eqb old 0) (eqb new 0)) (refused 22 0) (some_kept (salvage_from coding_of kind old new (listed list)))) (refused 1 0))) named)

    -- clip 0
    pub old_zero : (why : Refusal) → eqb old 0 ≡ true → ◌≡◌ {A = Told Salvage} (refused_by (numbers_of why)) (refused 22 0) → SalvageDoes kind old new list out log (Err why) out log
    old_zero why e f =
        ap (salvage_end out log) f
        ∙ sym (ap (λ (b : Bool). salvage_end out log (pick (either b (eqb new 0)) (refused 22 0) (some_kept (salvage_from coding_of kind old new (listed list))))) e)
        ∙ of_named

    either-zero : (a b : Bool) → b ≡ true → either a b ≡ true
    either-zero true b e = refl
    either-zero false b e = e

    pub new_zero : new ≡ 0 → SalvageDoes kind old new list out log (Err (refusal BlockField 0)) out log
    unfolding number read_table
    new_zero e =
        sym (ap (λ (b : Bool). salvage_end out log (pick b (refused 22 0) (some_kept (salvage_from coding_of kind old new (listed list))))) (either-zero (eqb old 0) (eqb new 0) (eq-eqb new 0 e)))
        ∙ of_named

    module _ (has_old : eqb old 0 ≡ false) (has_new : new ≡ 0 → ⊥) (r : Receiver) (b : Buffers) (is_fresh : r ≡ fresh_receiver old kind) (blank : b ≡ blank_buffers (kind_size kind)) where
      answers_are : answers_from r b list 0 ≡ answers_to coding_of old kind (listed list)
      answers_are = λ i. answers_from (is_fresh i) (blank i) list 0

      of_numbers : salvage_end out log (some_kept (salvage_from coding_of kind old new (listed list))) ≡ salvage_end out log (salvage_of coding_of kind old new list (length out) (length log))
      of_numbers =
          sym (λ i. salvage_end out log (pick (either (has_old i) (ne_eqb new 0 has_new i)) (refused 22 0) (some_kept (salvage_from coding_of kind old new (listed list)))))
          ∙ of_named

      of_kept : (k : Bool) → eqb (length (kept_numbers (answers_from r b list 0))) 0 ≡ k
          → salvage_end out log (pick k (refused 43 0) (accepted (salvage_by new (listed list) (answers_from r b list 0)))) ≡ salvage_end out log (salvage_of coding_of kind old new list (length out) (length log))
      of_kept k e =
          ap (λ (t : Bool). salvage_end out log (pick t (refused 43 0) (accepted (salvage_by new (listed list) (answers_from r b list 0))))) (sym e)
          ∙ ap (λ (said : List Said). salvage_end out log (some_kept (salvage_by new (listed list) said))) answers_are
          ∙ of_numbers

      -- no picture kept
      pub none_kept : any_kept (answers_from r b list 0) ≡ false → SalvageDoes kind old new list out log (Err (refusal NoneKept 0)) out log
      unfolding number read_table
      none_kept e = of_kept true (turned (eqb (length (kept_numbers (answers_from r b list 0))) 0) e)
        where
          turned : (t : Bool) → opposite t ≡ false → t ≡ true
          turned true e = refl
          turned false e = absurd (true≢false e)

      -- some kept
      pub some_kept_lem : (answer : Result Salvaged Refusal) {out' log' : List ℕ} → any_kept (answers_from r b list 0) ≡ true → RewriteDoes new list (answers_from r b list 0) out log answer out' log'
          → SalvageDoes kind old new list out log answer out' log'
      some_kept_lem answer e does = does ∙ of_kept false (turned (eqb (length (kept_numbers (answers_from r b list 0))) 0) e)
        where
          turned : (t : Bool) → opposite t ≡ true → t ≡ false
          turned true e = absurd (false≢true e)
          turned false e = refl

-- ---- the lengths that are named
pub record Named (list out log : ℕ) : Type 0 where
  pub whole : list % 512 ≡ 0
  pub out_room : out ≡ list
  pub log_room : log ≡ 10 * (list / 512)

pub named_means : (list out log : ℕ) → lengths_named list out log ≡ true → Named list out log
named_means list out log e =
    let whole = two_of (eqb (list % 512) 0) _ e in
    let out_is = two_of (eqb out list) (eqb log (10 * (list / 512))) whole.1 in
    record { whole = eqb-true (list % 512) 0 whole.0; out_room = eqb-true out list out_is.0; log_room = eqb-true log (10 * (list / 512)) out_is.1 }

pub named_so : (list out log : ℕ) → list % 512 ≡ 0 → out ≡ list → log ≡ 10 * (list / 512) → lengths_named list out log ≡ true
named_so list out log w o l = rw (eq-eqb (list % 512) 0 w, eq-eqb out list o, eq-eqb log (10 * (list / 512)) l)

-- a part block, another output, another log
pub not_whole : (list out log : ℕ) → (list % 512 ≡ 0 → ⊥) → lengths_named list out log ≡ false
not_whole list out log n = rw (ne_eqb (list % 512) 0 n)

pub not_out : (list out log : ℕ) → (out ≡ list → ⊥) → lengths_named list out log ≡ false
not_out list out log n = second_no (eqb (list % 512) 0) _ (first_no (eqb out list) _ (ne_eqb out list n))

pub not_log : (list out log : ℕ) → (log ≡ 10 * (list / 512) → ⊥) → lengths_named list out log ≡ false
not_log list out log n = second_no (eqb (list % 512) 0) _ (second_no (eqb out list) _ (ne_eqb log (10 * (list / 512)) n))

-- ---- scratch
pub room_small : (size : Size) → limit size ≤ 65536 → BuffersIn 8500 38016 size
room_small SubQcif h = record { collection_room = omega arith; store_room = omega arith }
room_small Qcif h = record { collection_room = omega arith; store_room = omega arith }
room_small Cif h = absurd (omega (arith, h))

pub room_large : (size : Size) → BuffersIn 33000 152064 size
room_large SubQcif = record { collection_room = omega arith; store_room = omega arith }
room_large Qcif = record { collection_room = omega arith; store_room = omega arith }
room_large Cif = record { collection_room = omega arith; store_room = omega arith }

take-replicate : (n m : ℕ) → n ≤ m → ◌≡◌ {A = List ℕ} (take n (replicate m 0)) (replicate n 0)
take-replicate zero m l = refl
take-replicate (suc n) zero l = absurd (not-suc-le-zero l)
take-replicate (suc n) (suc m) l = ap (λ (r : List ℕ). 0 ∷ r) (take-replicate n m (le_of_suc-le-suc l))

-- parts of arrays of zeros
pub scratch_blank : {size : Size} {collection store parts samples : ℕ} → BuffersIn collection store size → parts ≡ collection_length size → samples ≡ store_length size
    → buffers (take parts (replicate collection 0)) (take samples (replicate store 0)) (take samples (replicate store 0)) ≡ blank_buffers size
scratch_blank {size} {collection} {store} {parts} {samples} room p s =
    let first : ◌≡◌ {A = List ℕ} (take parts (replicate collection 0)) (replicate (collection_length size) 0) = ap (λ (n : ℕ). take n (replicate collection 0)) p ∙ take-replicate (collection_length size) collection room.collection_room in
    let second : ◌≡◌ {A = List ℕ} (take samples (replicate store 0)) (replicate (store_length size) 0) = ap (λ (n : ℕ). take n (replicate store 0)) s ∙ take-replicate (store_length size) store room.store_room in
    λ i. buffers (first i) (second i) (second i)

-- two sets of them have the same lengths
pub blank_same : {b ahead : Buffers} → b ≡ ahead → SameLengths b ahead
blank_same {b} {ahead} same = subst (SameLengths b) same (record { collection = refl; first = refl; second = refl })
