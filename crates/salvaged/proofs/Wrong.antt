-- The wrong salvages are ruled out, all by one list: picture 1, then picture 0, each a block, which comes too late. Any bits are a picture here. Assumes nothing.
use mathlib.Core.Path.{◌≡◌, refl, sym, ap, ◌∙◌}
use mathlib.Core.Bool.{true, false≢true}
use mathlib.Core.List.Memᴰ
use mathlib.Core.List.{List, [], ◌∷◌}
use Prim.Native.Nat.{ℕ, zero, suc, ◌+◌, ◌≤◌}
use native.Mathlib.Omega.{arith}
use lib.ListN.{length, get_or, replicate, length-replicate}
use Rattle.laws.specs.Choice.{one_of}
use Rattle.refusals.specs.Told.{Told, accepted}
use Rattle.bits.specs.Bits.{bit0}
use Rattle.size.specs.declared.Size.{Size}
use Rattle.size.specs.Size.{store_length}
use Rattle.h261_groups.specs.declared.Format.TheVariants.{Qcif}
use Rattle.coding.specs.declared.Kind.{Kind}
use Rattle.coding.specs.declared.Kind.TheVariants.{H261}
use Rattle.coding.specs.Coding.{Coding}
use Rattle.coding.specs.Kind.{kind_size, kind_standard}
use Rattle.vault.specs.declared.Header.{Header}
use Rattle.vault.specs.Block.{pictures, judge_of}
use Rattle.vault.specs.Parts.{header_at, block_at, placed_payload}
use Rattle.vault.proofs.Cut.{at_length}
use Rattle.vault.proofs.Collected.{at_judged, placed_length}
use Rattle.ticks.specs.declared.Tick.{Tick}
use Rattle.standing.specs.declared.Holder.TheVariants.{Neither}
use Rattle.standing.specs.declared.Receiver.{Receiver}
use Rattle.standing.specs.Answered.{Said}
use Rattle.standing.specs.Answered as A
use Rattle.standing.specs.Receive.{Event, old, finished, Buffers, fresh_receiver, lent_lengths, judged_block, line_of, ended_picture, took_of, by_line, by_judgement, decide, finished_tick, advance, answer_of, collection_after, stored_by, came_to, step}
use Rattle.standing.specs.Run.{World, world_after, answers}
use Rattle.salvaging.specs.Kept.{kept_numbers}
use Rattle.salvaging.specs.Clip.{blank_buffers, answers_to, clip_from}
use Rattle.salvaging.specs.Salvage.{Salvage, salvage_from}
use Rattle.demand3.proofs.Finished.{kept_sized}
use Rattle.demand3.proofs.Step.{lengths_make, collection_is, stores_are}
use Rattle.salvaged.specs.Told.{numbers_from, dropped_in, old_numbers, AllTold}
use Rattle.salvaged.specs.Wrong.{Program, KeepsUnshownWrong, LeavesGapsWrong, StopsAtHoleWrong, SilentWrong}
use Rattle.salvaged.proofs.Replayed.{blank_named}

-- ---- any bits are a picture, and a refresh
abbrev any_bits : Kind → Coding (Unit {0})
any_bits kind = record {
  read = λ bytes n. accepted tt;
  named = λ d. true;
  valid = λ d. true;
  refresh = λ d. true;
  written = λ d. bit0 ∷ [];
  render = λ d reference. replicate (store_length (kind_size kind)) 0;
  tr = λ d. 0;
  modulus = 1;
}

abbrev kind : Kind
kind = H261 Qcif

abbrev size : Size
size = kind_size kind

-- picture p of clip 1, in one block
abbrev whole : ℕ → List ℕ
whole p = block_at (kind_standard kind) 1 p true [] 1 0

abbrev header : ℕ → Header
header p = header_at (kind_standard kind) 1 p true 1 0

whole_judged : (p : ℕ) → p + 1 ≤ pictures → judge_of size (kind_standard kind) 1 (whole p) ≡ accepted (header p)
whole_judged p l = at_judged (kind_standard kind) 1 p true [] 1 size 0 (record { clip_is = omega arith; picture_is = omega (arith, l); count_is = omega arith; part_is = omega arith })

abbrev late : List (List ℕ)
late = whole 1 ∷ whole 0 ∷ []

-- ---- picture 1 is finished
abbrev fresh : Receiver
fresh = fresh_receiver 1 kind

abbrev lent : Buffers
lent = blank_buffers size

judged_in : (r : Receiver) (b : Buffers) (p : ℕ) → judge_of (kind_size r.kind) (kind_standard r.kind) r.clip (whole p) ≡ accepted (header p) → lent_lengths (kind_size r.kind) b ≡ true → judged_block r (whole p) b ≡ accepted (header p)
unfolding judged_block
judged_in r b p j e = rw e j

first_finished : decide any_bits fresh (whole 1) lent ≡ finished (header 1) tt
unfolding decide by_judgement line_of by_line took_of ended_picture
first_finished = ap (λ (t : Told Header). by_judgement any_bits t fresh (whole 1) lent.collection) (judged_in fresh lent 1 (whole_judged 1 (omega arith)) (blank_named size))

abbrev after : Event (Unit {0}) → World
after e = record { receiver = advance any_bits fresh e; lent = record { collection = collection_after (whole 1) lent.collection e; both = stored_by any_bits fresh lent.both e } }

abbrev shown : World
shown = after (finished (header 1) tt)

shown_named : lent_lengths size shown.lent ≡ true
shown_named =
    lengths_make size (placed_payload (whole 1) 0 lent.collection) shown.lent.both
    (placed_length (whole 1) 0 lent.collection (at_length (kind_standard kind) 1 1 true [] 1 0) (let l = collection_is size lent (blank_named size) in omega (arith, l)) ∙ collection_is size lent (blank_named size))
    (kept_sized size Neither (replicate (store_length size) 0) lent.both (length-replicate {A = ℕ} (store_length size) 0) (stores_are size lent (blank_named size)))

-- ---- and picture 0 is old
second_old : decide any_bits shown.receiver (whole 0) shown.lent ≡ old (header 0)
unfolding decide by_judgement line_of by_line
second_old =
    ap (λ (t : Told Header). by_judgement any_bits t shown.receiver (whole 0) shown.lent.collection) (judged_in shown.receiver shown.lent 0 (whole_judged 0 (omega arith)) shown_named)

abbrev tick : Tick
tick = finished_tick any_bits fresh (header 1) tt

late-answers : answers_to any_bits 1 kind late ≡ A.picture 1 tick ∷ A.old 0 0 ∷ []
unfolding answers world_after step came_to
late-answers =
    ap (λ (e : Event (Unit {0})). answer_of any_bits fresh e ∷ answers any_bits (after e) (whole 0 ∷ [])) first_finished
    ∙ ap (λ (e : Event (Unit {0})). A.picture 1 tick ∷ answer_of any_bits shown.receiver e ∷ []) second_old

late_kept : kept_numbers (answers_to any_bits 1 kind late) ≡ 1 ∷ []
unfolding kept_numbers
late_kept = ap kept_numbers late-answers

-- ---- what is promised of this list
abbrev made : Program → Salvage
made salvage = salvage (Unit {0}) any_bits kind 1 1 late

abbrev Told' : Program → Type 0
Told' salvage = AllTold any_bits kind 1 1 late (made salvage)

only_one : (salvage : Program) → Told' salvage → old_numbers (made salvage).log ≡ 1 ∷ []
only_one salvage t = t.numbers_are.kept_are ∙ late_kept

not_from_zero : (n : ℕ) → numbers_from n 0 ≡ 1 ∷ [] → ⊥
unfolding numbers_from
not_from_zero zero e = let z : ◌≡◌ {A = ℕ} 9 1 = ap (λ (l : List ℕ). get_or l 0 9) e in omega (arith, z)
not_from_zero (suc n) e = let z : ◌≡◌ {A = ℕ} 0 1 = ap (λ (l : List ℕ). get_or l 0 9) e in omega (arith, z)

-- THE THEOREMS
pub keeps_unshown_wrong : KeepsUnshownWrong
keeps_unshown_wrong salvage keeps tells =
    let t : Told' salvage = tells (Unit {0}) any_bits kind 1 1 late in
    let has : one_of (old_numbers (made salvage).log) 0 ≡ true = keeps (Unit {0}) any_bits kind 1 1 late (whole 0) (header 0) (Memᴰ.tail (Memᴰ.head refl)) (whole_judged 0 (omega arith)) refl refl in
    false≢true (ap (λ (l : List ℕ). one_of l 0) (sym (only_one salvage t)) ∙ has)

pub leaves_gaps_wrong : LeavesGapsWrong
leaves_gaps_wrong salvage leaves tells =
    let t : Told' salvage = tells (Unit {0}) any_bits kind 1 1 late in
    not_from_zero (made salvage).pictures (sym t.numbers_are.renumbered ∙ leaves (Unit {0}) any_bits kind 1 1 late ∙ only_one salvage t)

pub stops_at_hole_wrong : StopsAtHoleWrong
stops_at_hole_wrong salvage stops tells =
    let t : Told' salvage = tells (Unit {0}) any_bits kind 1 1 late in
    not_from_zero (length (old_numbers (made salvage).log)) (sym (stops (Unit {0}) any_bits kind 1 1 late) ∙ only_one salvage t)

late_clip : length (salvage_from any_bits kind 1 1 late).clip ≡ 1
unfolding clip_from
late_clip = ap (λ (said : List Said). length (clip_from 1 [] said late)) late-answers

pub silent_wrong : SilentWrong
silent_wrong salvage silent tells =
    let count = (tells (Unit {0}) any_bits kind 1 1 late).blocks_are.count in
    let none : length (dropped_in (made salvage).log) ≡ 0 = ap length (silent.says_none (Unit {0}) any_bits kind 1 1 late) in
    let one : length (made salvage).clip ≡ 1 = ap length (silent.clip_is (Unit {0}) any_bits kind 1 1 late) ∙ late_clip in
    omega (arith, count, none, one)
