-- Block after block of a list: what is written and entered so far, and what the answers to come give, are all. Assumes nothing.
use mathlib.Core.Path.{◌≡◌, refl, sym, ap, subst, ◌∙◌}
use mathlib.Core.Bool.{Bool, true, false, false≢true}
use mathlib.Core.List.{List, [], ◌∷◌, ◌++◌, append-nil, append_assoc}
use Prim.Native.Nat.{ℕ, suc, ◌+◌, ◌-◌, ◌*◌, ◌/◌, ◌%◌, ◌≤◌, ◌<◌}
use native.Mathlib.Omega.{arith}
use lib.ListN.{length, take, drop, length-append, length-take, length-drop}
use lib.Seq.{drop-drop, sets}
use Rattle.laws.specs.Choice.{one_of}
use Rattle.refusals.specs.Told.{accepted}
use Rattle.coding.specs.Kind.{coding_of}
use Rattle.sender.specs.Run.{cut}
use Rattle.vault.specs.Block.{pictures}
use Rattle.vault.specs.Renewed.{renewed_block}
use Rattle.vault.proofs.Renewed.{renewed_length}
use Rattle.standing.specs.declared.Progress.{Progress}
use Rattle.standing.specs.declared.Receiver.{Receiver}
use Rattle.standing.specs.declared.Received.{Received}
use Rattle.standing.specs.Answered.{Said, said}
use Rattle.standing.specs.Answered as A
use Rattle.standing.specs.Receive.{Buffers, Outcome}
use Rattle.standing.specs.Run.{world_after, answers}
use Rattle.receiver.specs.Receiving.{ReceiveDoes}
use Rattle.salvaging.specs.Kept.{kept_numbers, new_number, number_after, next_number, finished_later, goes_on}
use Rattle.salvaging.specs.Log.{LogEntry, entries_for, log_from, laid_log}
use Rattle.salvaging.specs.Clip.{listed, joined, written_for, clip_from}
use Rattle.salvaging.specs.Step.{tally_after, is_kept, FateRight, Collects, looked_at}
use Rattle.salvaging.specs.Salvage.{laid_over}
use Rattle.salvaging.specs.Going.{finishes_one, any_kept, world_of, answers_from, InList, fate_after, SameLengths, written_by, WriteRoom, RewriteDoes}
use Rattle.salvaging.specs.declared.Tally.{Tally}
use Rattle.salvaging.specs.declared.Fate.{Fate}
use Rattle.std.specs.Prelude.{Option, None, Ok}
use Rattle.salvaging.specs.declared.Sight.{Sight}
use Rattle.salvaging.specs.declared.Sight.TheVariants.{Finished, Gone, Collecting}
use Rattle.salvaging.proofs.Ahead.{LookRight, looked_right, AnswerKnown, answer_known}
use Rattle.salvaging.proofs.Stores.{log_long, log_append, joined-append, laid_more}
use Rattle.salvaging.proofs.Kept.{any_found, any_later, kept_few, tally_of, tally_more, fate_next, goes_so, entries_so, entries_few}

-- ---- the blocks of a list
pub listed_next : (list : List ℕ) (at : ℕ) → at + 512 ≤ length list → listed (drop at list) ≡ take 512 (drop at list) ∷ listed (drop (at + 512) list)
unfolding cut
listed_next list at l =
    let count : length (drop at list) / 512 ≡ suc (length (drop (at + 512) list) / 512) = omega (arith, length-drop at list, length-drop (at + 512) list) in
    ap (λ (n : ℕ). cut n (drop at list)) count
    ∙ ap (λ (l : List ℕ). take 512 (drop at list) ∷ cut (length (drop (at + 512) list) / 512) l) (drop-drop 512 at list)

pub listed-none : (list : List ℕ) (at : ℕ) → length list ≤ at → listed (drop at list) ≡ []
unfolding cut
listed-none list at l =
    let none : length (drop at list) / 512 ≡ 0 = omega (arith, length-drop at list) in
    ap (λ (n : ℕ). cut n (drop at list)) none

-- a block of the list, as the code lends it
abbrev pub block_from : List ℕ → ℕ → List ℕ
block_from list at = take (at + 512 - at) (drop at list)

pub block_from_lem : (list : List ℕ) (at : ℕ) → block_from list at ≡ take 512 (drop at list)
block_from_lem list at = let e : at + 512 - at ≡ 512 = omega arith in ap (λ (n : ℕ). take n (drop at list)) e

pub block_long : (list : List ℕ) (at : ℕ) → at + 512 ≤ length list → length (block_from list at) ≡ 512
block_long list at l = omega (arith, length-take (at + 512 - at) (drop at list), length-drop at list)

-- the next one is whole
pub next_inside : {list : List ℕ} {at : ℕ} → InList list at → at < length list → at + 512 ≤ length list
next_inside {list} {at} p l = omega (arith, p.whole, p.begins)

pub in_next : {list : List ℕ} {at : ℕ} → InList list at → at < length list → InList list (at + 512)
in_next {list} {at} p l = record { whole = p.whole; begins = omega (arith, p.begins); inside = next_inside p l }

-- ---- a call
pub record Call (r : Receiver) (block : List ℕ) (b : Buffers) (gave : Received) (left : Buffers) : Type 0 where
  pub does : ReceiveDoes r block b gave left

-- of a block that is said otherwise
pub call_of : {r : Receiver} {block block' : List ℕ} {b : Buffers} {gave : Received} {left : Buffers} → block ≡ block' → Call r block b gave left → Call r block' b gave left
call_of {r} {block} {block'} {b} {gave} {left} e call = subst (λ (x : List ℕ). Call r x b gave left) e call

module _ {r : Receiver} {block : List ℕ} {b : Buffers} {gave : Received} {left : Buffers} (call : Call r block b gave left) where
  answers_next : (rest : List (List ℕ)) → answers coding_of (world_of r b) (block ∷ rest) ≡ said gave.answer ∷ answers coding_of (world_of gave.next left) rest
  unfolding answers world_after
  answers_next rest = ap (λ (x : Outcome). x.gave.answer ∷ answers coding_of (world_of x.gave.next x.left) rest) (sym call.does)

  pub call_looks : {n : ℕ} → Collects n r.progress → (rest : List (List ℕ))
      → LookRight n (said gave.answer) gave.next.progress (answers coding_of (world_of gave.next left) rest) (looked_at n (said gave.answer) gave.next.progress)
  unfolding world_after
  call_looks {n} k rest =
      subst (λ (x : Outcome). LookRight n x.gave.answer x.gave.next.progress (answers coding_of (world_of x.gave.next x.left) rest) (looked_at n x.gave.answer x.gave.next.progress))
      (sym call.does) (looked_right coding_of (world_of r b) block rest k)

  pub call_known : AnswerKnown coding_of r.progress (said gave.answer) gave.next.progress
  call_known = subst (λ (x : Outcome). AnswerKnown coding_of r.progress x.gave.answer x.gave.next.progress) (sym call.does) (answer_known coding_of (world_of r b) block)

  -- a block that is taken is collected
  pub call_collects : (n part : ℕ) → said gave.answer ≡ A.taken n part → Collects n gave.next.progress
  call_collects n part e = (subst (λ (a : Said). AnswerKnown coding_of r.progress a gave.next.progress) e call_known).2

pub from_next : {r : Receiver} {b : Buffers} {gave : Received} {left : Buffers} (list : List ℕ) (at : ℕ) → at + 512 ≤ length list → Call r (block_from list at) b gave left
    → answers_from r b list at ≡ said gave.answer ∷ answers_from gave.next left list (at + 512)
from_next {r} {b} list at l call =
    ap (answers coding_of (world_of r b)) (listed_next list at l ∙ ap (λ (x : List ℕ). x ∷ listed (drop (at + 512) list)) (sym (block_from_lem list at)))
    ∙ answers_next call (listed (drop (at + 512) list))

pub from_none : (r : Receiver) (b : Buffers) (list : List ℕ) (at : ℕ) → length list ≤ at → answers_from r b list at ≡ []
unfolding answers
from_none r b list at l = ap (answers coding_of (world_of r b)) (listed-none list at l)

-- lengths stay
pub lengths_same : {a b c : Buffers} → SameLengths a b → SameLengths b c → SameLengths a c
lengths_same p q = record { collection = q.collection ∙ p.collection; first = q.first ∙ p.first; second = q.second ∙ p.second }

pub lengths_turn : {a b : Buffers} → SameLengths a b → SameLengths b a
lengths_turn p = record { collection = sym p.collection; first = sym p.first; second = sym p.second }

-- ---- whether any picture is kept
pub record AnyGoing (list : List ℕ) (r₀ : Receiver) (b₀ : Buffers) (at : ℕ) (r : Receiver) (b : Buffers) : Type 0 where
  pub place : InList list at
  pub same : SameLengths b₀ b
  pub all : any_kept (answers_from r₀ b₀ list 0) ≡ any_kept (answers_from r b list at)

module _ {list : List ℕ} {r₀ : Receiver} {b₀ : Buffers} {at : ℕ} {r : Receiver} {b : Buffers} (g : AnyGoing list r₀ b₀ at r b) (more : at < length list) (gave : Received) {left : Buffers}
    (call : Call r (block_from list at) b gave left) where
  pub any_done : finishes_one (said gave.answer) ≡ true → true ≡ any_kept (answers_from r₀ b₀ list 0)
  any_done e = sym (g.all ∙ ap any_kept (from_next list at (next_inside g.place more) call) ∙ any_found (said gave.answer) (answers_from gave.next left list (at + 512)) e)

  pub any_next : finishes_one (said gave.answer) ≡ false → SameLengths b left → AnyGoing list r₀ b₀ (at + 512) gave.next left
  any_next e s = record {
    place = in_next g.place more;
    same = lengths_same g.same s;
    all = g.all ∙ ap any_kept (from_next list at (next_inside g.place more) call) ∙ any_later (said gave.answer) (answers_from gave.next left list (at + 512)) e;
  }

pub any_at : {list : List ℕ} {r₀ : Receiver} {b₀ : Buffers} {at at' : ℕ} {r : Receiver} {b : Buffers} → at ≡ at' → AnyGoing list r₀ b₀ at r b → AnyGoing list r₀ b₀ at' r b
any_at {list} {r₀} {b₀} {at} {at'} {r} {b} e g = subst (λ (n : ℕ). AnyGoing list r₀ b₀ n r b) e g

pub any_end : {list : List ℕ} {r₀ : Receiver} {b₀ : Buffers} {at : ℕ} {r : Receiver} {b : Buffers} → AnyGoing list r₀ b₀ at r b → length list ≤ at → false ≡ any_kept (answers_from r₀ b₀ list 0)
unfolding kept_numbers
any_end {list} {r₀} {b₀} {at} {r} {b} g l = sym (g.all ∙ ap any_kept (from_none r b list at l))

-- ---- whether a picture that is collected is finished
pub record Looking (list : List ℕ) (n from : ℕ) (r₀ : Receiver) (b₀ : Buffers) (at : ℕ) (r : Receiver) (b : Buffers) : Type 0 where
  pub place : InList list at
  pub same : SameLengths b₀ b
  pub collects : Collects n r.progress
  pub all : one_of (kept_numbers (answers_from r₀ b₀ list from)) n ≡ one_of (kept_numbers (answers_from r b list at)) n

module _ {list : List ℕ} {n from : ℕ} {r₀ : Receiver} {b₀ : Buffers} {at : ℕ} {r : Receiver} {b : Buffers} (g : Looking list n from r₀ b₀ at r b) (more : at < length list) (gave : Received)
    {left : Buffers} (call : Call r (block_from list at) b gave left) {sight : Sight} (sees : sight ≡ looked_at n (said gave.answer) gave.next.progress) where
  abbrev rest : List Said
  rest = answers_from gave.next left list (at + 512)

  seen : LookRight n (said gave.answer) gave.next.progress rest sight
  seen = subst (LookRight n (said gave.answer) gave.next.progress rest) (sym sees) (call_looks call g.collects (listed (drop (at + 512) list)))

  here : one_of (kept_numbers (answers_from r₀ b₀ list from)) n ≡ one_of (kept_numbers (said gave.answer ∷ rest)) n
  here = g.all ∙ ap (λ (l : List Said). one_of (kept_numbers l) n) (from_next list at (next_inside g.place more) call)

  pub looking_finished : sight ≡ Finished → true ≡ one_of (kept_numbers (answers_from r₀ b₀ list from)) n
  looking_finished e = sym (here ∙ subst (LookRight n (said gave.answer) gave.next.progress rest) e seen)

  pub looking_gone : sight ≡ Gone → false ≡ one_of (kept_numbers (answers_from r₀ b₀ list from)) n
  looking_gone e = sym (here ∙ subst (LookRight n (said gave.answer) gave.next.progress rest) e seen)

  pub looking_next : sight ≡ Collecting → SameLengths b left → Looking list n from r₀ b₀ (at + 512) gave.next left
  looking_next e s =
      let on = subst (LookRight n (said gave.answer) gave.next.progress rest) e seen in
      record { place = in_next g.place more; same = lengths_same g.same s; collects = on.1; all = here ∙ on.0 }

pub looking_at : {list : List ℕ} {n from : ℕ} {r₀ : Receiver} {b₀ : Buffers} {at at' : ℕ} {r : Receiver} {b : Buffers} → at ≡ at' → Looking list n from r₀ b₀ at r b → Looking list n from r₀ b₀ at' r b
looking_at {list} {n} {from} {r₀} {b₀} {at} {at'} {r} {b} e g = subst (λ (m : ℕ). Looking list n from r₀ b₀ m r b) e g

pub looking_end : {list : List ℕ} {n from : ℕ} {r₀ : Receiver} {b₀ : Buffers} {at : ℕ} {r : Receiver} {b : Buffers} → Looking list n from r₀ b₀ at r b → length list ≤ at
    → false ≡ one_of (kept_numbers (answers_from r₀ b₀ list from)) n
unfolding kept_numbers
looking_end {list} {n} {from} {r₀} {b₀} {at} {r} {b} g l = sym (g.all ∙ ap (λ (l : List Said). one_of (kept_numbers l) n) (from_none r b list at l))

-- ---- all blocks
-- the blocks and the entries so far
pub record Going (clip : ℕ) (list : List ℕ) (r₀ : Receiver) (b₀ : Buffers) (out₀ log₀ : List ℕ) (at : ℕ) (r : Receiver) (b : Buffers) (fate : Option Fate) (tally : Tally) (written entered : ℕ)
    (out log : List ℕ) : Type 0 where
  pub before : List Said
  pub blocks : List (List ℕ)
  pub entries : List LogEntry
  pub place : InList list at
  pub count : at ≡ 512 * length before
  pub same : SameLengths b₀ b
  pub all_answers : before ++ answers_from r b list at ≡ answers_from r₀ b₀ list 0
  pub all_blocks : blocks ++ clip_from clip before (answers_from r b list at) (listed (drop at list)) ≡ clip_from clip [] (answers_from r₀ b₀ list 0) (listed list)
  pub all_entries : entries ++ log_from before (answers_from r b list at) ≡ log_from [] (answers_from r₀ b₀ list 0)
  pub tally_is : tally ≡ tally_of before
  pub written_is : written ≡ length blocks
  pub entered_is : entered ≡ length entries
  pub blocks_long : length (joined blocks) ≡ 512 * length blocks
  pub few_blocks : length blocks ≤ length before
  pub few_entries : length entries ≤ 2 * length before
  pub out_is : out ≡ laid_over (joined blocks) out₀
  pub out_size : length out ≡ length out₀
  pub log_is : log ≡ laid_over (laid_log entries) log₀
  pub log_size : length log ≡ length log₀
  pub fate_right : FateRight fate (answers_from r b list at)
  -- no new number exceeds its old one
  pub few_pictures : new_number before ≤ next_number before
  pub next_wanted : next_number before ≤ r.progress.wanted.picture

pub going_first : (clip : ℕ) (list : List ℕ) (r : Receiver) (b : Buffers) (out log : List ℕ) → length list % 512 ≡ 0
    → Going clip list r b out log 0 r b None (record { pictures = 0; next = 0 }) 0 0 out log
unfolding joined laid_log kept_numbers number_after
going_first clip list r b out log l = record {
  before = [];
  blocks = [];
  entries = [];
  place = record { whole = l; begins = refl; inside = omega arith };
  count = refl;
  same = record { collection = refl; first = refl; second = refl };
  all_answers = refl;
  all_blocks = refl;
  all_entries = refl;
  tally_is = refl;
  written_is = refl;
  entered_is = refl;
  blocks_long = refl;
  few_blocks = omega arith;
  few_entries = omega arith;
  out_is = refl;
  out_size = refl;
  log_is = refl;
  log_size = refl;
  fate_right = tt;
  few_pictures = omega arith;
  next_wanted = omega arith;
}

-- the same, of a place that is said otherwise
pub going_at : {clip : ℕ} {list : List ℕ} {r₀ : Receiver} {b₀ : Buffers} {out₀ log₀ : List ℕ} {at at' : ℕ} {r : Receiver} {b : Buffers} {fate : Option Fate} {tally : Tally} {written entered : ℕ} {out log : List ℕ} → at ≡ at'
    → Going clip list r₀ b₀ out₀ log₀ at r b fate tally written entered out log → Going clip list r₀ b₀ out₀ log₀ at' r b fate tally written entered out log
going_at {clip} {list} {r₀} {b₀} {out₀} {log₀} {at} {at'} {r} {b} {fate} {tally} {written} {entered} {out} {log} e g =
    subst (λ (n : ℕ). Going clip list r₀ b₀ out₀ log₀ n r b fate tally written entered out log) e g

-- a block that goes on has a number within the limit
number_few : (p q : Progress) (answer : Said) (later : Bool) (new next : ℕ) → AnswerKnown coding_of p answer q → new ≤ next → next ≤ p.wanted.picture → goes_on answer later ≡ true → new < pictures
number_few p q (A.picture n tick) later new next k l m e = omega (arith, k.0, k.1)
number_few p q (A.taken n part) later new next k l m e = omega (arith, k.0, k.1)
number_few p q (A.old n part) later new next k l m e = absurd (false≢true e)
number_few p q A.lost later new next k l m e = absurd (false≢true e)
number_few p q (A.refused numbers) later new next k l m e = absurd (false≢true e)

-- the numbers so far, one answer more
record Fewer (before : List Said) (p : Progress) : Type 0 where
  few_pictures : new_number before ≤ next_number before
  next_wanted : next_number before ≤ p.wanted.picture

none_fewer : (p q : Progress) (before : List Said) (answer : Said) → tally_after (tally_of before) answer ≡ tally_of before → p.wanted.picture ≤ q.wanted.picture → Fewer before p
    → Fewer (before ++ (answer ∷ [])) q
none_fewer p q before answer e l f =
    let same : tally_of before ≡ tally_of (before ++ (answer ∷ [])) = sym e ∙ tally_more before answer in
    let new : new_number before ≡ new_number (before ++ (answer ∷ [])) = ap (λ (t : Tally). t.pictures) same in
    let next : next_number before ≡ next_number (before ++ (answer ∷ [])) = ap (λ (t : Tally). t.next) same in
    record { few_pictures = omega (arith, new, next, f.few_pictures); next_wanted = omega (arith, next, f.next_wanted, l) }

fewer_next : (p q : Progress) (before : List Said) (answer : Said) → AnswerKnown coding_of p answer q → Fewer before p → Fewer (before ++ (answer ∷ [])) q
fewer_next p q before (A.picture n tick) k f =
    let more : tally_after (tally_of before) (A.picture n tick) ≡ tally_of (before ++ (A.picture n tick ∷ [])) = tally_more before (A.picture n tick) in
    let new : new_number before + 1 ≡ new_number (before ++ (A.picture n tick ∷ [])) = ap (λ (t : Tally). t.pictures) more in
    let next : n + 1 ≡ next_number (before ++ (A.picture n tick ∷ [])) = ap (λ (t : Tally). t.next) more in
    record { few_pictures = omega (arith, new, next, k.0, f.few_pictures, f.next_wanted); next_wanted = omega (arith, next, k.2) }
fewer_next p q before (A.taken n part) k f = none_fewer p q before (A.taken n part) refl (omega (arith, k.0, k.2.wants)) f
fewer_next p q before (A.old n part) k f = none_fewer p q before (A.old n part) refl k f
fewer_next p q before A.lost k f = none_fewer p q before A.lost refl k f
fewer_next p q before (A.refused numbers) k f = none_fewer p q before (A.refused numbers) refl k f

-- ---- one block more
module _ {clip : ℕ} {list : List ℕ} {r₀ : Receiver} {b₀ : Buffers} {out₀ log₀ : List ℕ} {at : ℕ} {r : Receiver} {b : Buffers} {fate : Option Fate} {tally : Tally} {written entered : ℕ} {out log : List ℕ}
    (g : Going clip list r₀ b₀ out₀ log₀ at r b fate tally written entered out log) (more : at < length list) (gave : Received) {left : Buffers} (call : Call r (block_from list at) b gave left) where
  abbrev whole : at + 512 ≤ length list
  whole = next_inside g.place more

  abbrev block : List ℕ
  block = block_from list at

  abbrev answer : Said
  answer = said gave.answer

  abbrev to_come : List Said
  to_come = answers_from gave.next left list (at + 512)

  here_right : FateRight fate (answer ∷ to_come)
  here_right = subst (FateRight fate) (from_next list at whole call) g.fate_right

  abbrev fate' : Option Fate
  fate' = fate_after fate answer to_come

  pub numbered : (later : Bool) → goes_on answer later ≡ true → tally.pictures < pictures
  numbered later e =
      let few = number_few r.progress gave.next.progress answer later (new_number g.before) (next_number g.before) (call_known call) g.few_pictures g.next_wanted e in
      omega (arith, few, ap (λ (t : Tally). t.pictures) g.tally_is)

  pub few_tally : tally.pictures ≤ at
  few_tally = omega (arith, ap (λ (t : Tally). t.pictures) g.tally_is, kept_few g.before, g.count)

  abbrev before' : List Said
  before' = g.before ++ (answer ∷ [])

  count' : length before' ≡ length g.before + 1
  count' = length-append g.before (answer ∷ [])

  -- ---- what the code knows of it, and so writes and enters
  module _ {fate₁ : Option Fate} (fate_is : fate₁ ≡ fate_after fate answer to_come) {later : Bool} (later_is : later ≡ is_kept fate₁) where
    later_so : later ≡ is_kept (fate_after fate answer to_come)
    later_so = later_is ∙ ap is_kept fate_is

    module _ {goes : Bool} (goes_is : goes ≡ goes_on answer later) where
      abbrev new : List (List ℕ)
      new = written_by goes clip tally.pictures block

      new_is : new ≡ written_for clip g.before answer to_come block
      new_is =
          let so : goes ≡ goes_on answer (finished_later answer to_come) = goes_is ∙ ap (goes_on answer) later_so ∙ goes_so fate to_come answer here_right in
          λ i. written_by (so i) clip (g.tally_is i).pictures block

      new_long : (length (joined new) ≡ 512 * length new) × (length new ≤ 1)
      unfolding joined
      new_long = go goes
        where
          long : length (renewed_block clip tally.pictures block) ≡ 512
          long = renewed_length clip tally.pictures block (block_long list at whole)

          go : (b : Bool) → (length (joined (written_by b clip tally.pictures block)) ≡ 512 * length (written_by b clip tally.pictures block)) × (length (written_by b clip tally.pictures block) ≤ 1)
          go true = (omega (arith, length-append (renewed_block clip tally.pictures block) [], long), omega arith)
          go false = (refl, omega arith)

      pub block_room : length out₀ ≡ length list → WriteRoom goes tally.pictures block out written
      block_room room = record {
        block_long = block_long list at whole;
        numbered = λ e. numbered later (sym goes_is ∙ e);
        room = omega (arith, g.written_is, g.few_blocks, g.count, whole, g.out_size, room);
      }

      -- all blocks, this one among those that are written
      blocks_next : (g.blocks ++ new) ++ clip_from clip before' to_come (listed (drop (at + 512) list)) ≡ clip_from clip [] (answers_from r₀ b₀ list 0) (listed list)
      unfolding clip_from
      blocks_next =
          append_assoc g.blocks new _
          ∙ ap (λ (l : List (List ℕ)). g.blocks ++ (l ++ clip_from clip before' to_come (listed (drop (at + 512) list)))) new_is
          ∙ (λ i. g.blocks ++ clip_from clip g.before (sym (from_next list at whole call) i) (sym (listed_next list at whole ∙ ap (λ (x : List ℕ). x ∷ listed (drop (at + 512) list)) (sym (block_from_lem list at))) i))
          ∙ g.all_blocks

      out_next : {out₁ : List ℕ} → length out₀ ≡ length list → out₁ ≡ sets out (512 * written) (joined new) → out₁ ≡ laid_over (joined (g.blocks ++ new)) out₀
      out_next room e =
          e ∙ ap (λ (l : List ℕ). sets l (512 * written) (joined new)) g.out_is
          ∙ laid_more (joined g.blocks) (joined new) out₀ (512 * written) (omega (arith, g.blocks_long, g.written_is)) (omega (arith, new_long, g.written_is, g.few_blocks, g.count, whole, room))
          ∙ ap (λ (l : List ℕ). laid_over l out₀) (sym (joined-append g.blocks new))

    module _ {n : ℕ} (n_is : n ≡ at / 512) (entered_now : List LogEntry) (entries_are : entered_now ≡ entries_for n tally.pictures tally.next answer later) where
      now_is : entered_now ≡ entries_for (length g.before) (new_number g.before) (next_number g.before) answer (finished_later answer to_come)
      now_is =
          let place : n ≡ length g.before = omega (arith, n_is, g.count) in
          entries_are ∙ (λ i. entries_for (place i) (g.tally_is i).pictures (g.tally_is i).next answer (later_so i))
          ∙ entries_so fate to_come (length g.before) (new_number g.before) (next_number g.before) answer here_right

      now_few : length entered_now ≤ 2
      now_few = omega (arith, ap length entries_are, entries_few n tally.pictures tally.next answer later)

      pub entry_room : length log₀ ≡ 10 * (length list / 512) → 5 * (entered + length entered_now) ≤ length log
      entry_room room = omega (arith, now_few, g.entered_is, g.few_entries, g.count, whole, g.log_size, room)

      entries_next : (g.entries ++ entered_now) ++ log_from before' to_come ≡ log_from [] (answers_from r₀ b₀ list 0)
      unfolding log_from
      entries_next =
          append_assoc g.entries entered_now _
          ∙ ap (λ (l : List LogEntry). g.entries ++ (l ++ log_from before' to_come)) now_is
          ∙ ap (λ (l : List Said). g.entries ++ log_from g.before l) (sym (from_next list at whole call))
          ∙ g.all_entries

      log_next : {log₁ : List ℕ} → length log₀ ≡ 10 * (length list / 512) → log₁ ≡ sets log (5 * entered) (laid_log entered_now) → log₁ ≡ laid_over (laid_log (g.entries ++ entered_now)) log₀
      log_next room e =
          e ∙ ap (λ (l : List ℕ). sets l (5 * entered) (laid_log entered_now)) g.log_is
          ∙ laid_more (laid_log g.entries) (laid_log entered_now) log₀ (5 * entered) (omega (arith, log_long g.entries, g.entered_is))
          (omega (arith, log_long entered_now, now_few, g.entered_is, g.few_entries, g.count, whole, room))
          ∙ ap (λ (l : List ℕ). laid_over l log₀) (sym (log_append g.entries entered_now))

      module _ {goes : Bool} (goes_is : goes ≡ goes_on answer later) (room : length out₀ ≡ length list) (log_room : length log₀ ≡ 10 * (length list / 512)) where
        pub going_next : {tally₁ : Tally} {written₁ entered₁ : ℕ} {out₁ log₁ : List ℕ} → SameLengths b left → tally₁ ≡ tally_after tally answer
            → written₁ ≡ written + length (new goes_is) → out₁ ≡ sets out (512 * written) (joined (new goes_is)) → length out₁ ≡ length out
            → entered₁ ≡ entered + length entered_now → log₁ ≡ sets log (5 * entered) (laid_log entered_now) → length log₁ ≡ length log
            → Going clip list r₀ b₀ out₀ log₀ (at + 512) gave.next left fate₁ tally₁ written₁ entered₁ out₁ log₁
        going_next same tally_now written_now out_now out_long entered_count log_now log_long₁ =
            let fewer : Fewer before' gave.next.progress =
            fewer_next r.progress gave.next.progress g.before answer (call_known call) (record { few_pictures = g.few_pictures; next_wanted = g.next_wanted }) in
            record {
              before = before';
              blocks = g.blocks ++ new goes_is;
              entries = g.entries ++ entered_now;
              place = in_next g.place more;
              count = omega (arith, g.count, count');
              same = lengths_same g.same same;
              all_answers =
                  append_assoc g.before (answer ∷ []) to_come ∙ ap (λ (l : List Said). g.before ++ l) (sym (from_next list at whole call)) ∙ g.all_answers;
              all_blocks = blocks_next goes_is;
              all_entries = entries_next;
              tally_is = tally_now ∙ ap (λ (t : Tally). tally_after t answer) g.tally_is ∙ tally_more g.before answer;
              written_is = omega (arith, written_now, g.written_is, length-append g.blocks (new goes_is));
              entered_is = omega (arith, entered_count, g.entered_is, length-append g.entries entered_now);
              blocks_long =
                  omega (
                    arith,
                    ap length (joined-append g.blocks (new goes_is)),
                    length-append (joined g.blocks) (joined (new goes_is)),
                    length-append g.blocks (new goes_is),
                    g.blocks_long,
                    new_long goes_is,
                  );
              few_blocks = omega (arith, length-append g.blocks (new goes_is), new_long goes_is, g.few_blocks, count');
              few_entries = omega (arith, length-append g.entries entered_now, now_few, g.few_entries, count');
              out_is = out_next goes_is room out_now;
              out_size = out_long ∙ g.out_size;
              log_is = log_next log_room log_now;
              log_size = log_long₁ ∙ g.log_size;
              fate_right = subst (λ (f : Option Fate). FateRight f to_come) (sym fate_is) (fate_next fate answer to_come here_right);
              few_pictures = fewer.few_pictures;
              next_wanted = fewer.next_wanted;
            }

-- ---- the end
pub going_done : {clip : ℕ} {list : List ℕ} {r₀ : Receiver} {b₀ : Buffers} {out₀ log₀ : List ℕ} {at : ℕ} {r : Receiver} {b : Buffers} {fate : Option Fate} {tally : Tally} {written entered : ℕ}
    {out log : List ℕ} → Going clip list r₀ b₀ out₀ log₀ at r b fate tally written entered out log → length list ≤ at
    → RewriteDoes clip list (answers_from r₀ b₀ list 0) out₀ log₀ (Ok (record { pictures = tally.pictures; blocks = written; entries = entered })) out log
unfolding clip_from log_from
going_done {clip} {list} {r₀} {b₀} {out₀} {log₀} {at} {r} {b} {fate} {tally} g l =
    λ i. record {
      answer = accepted (record { pictures = pictures_are i; blocks = (g.written_is ∙ ap length blocks_are) i; entries = (g.entered_is ∙ ap length entries_are) i });
      out = (g.out_is ∙ ap (λ (x : List (List ℕ)). laid_over (joined x) out₀) blocks_are) i;
      log = (g.log_is ∙ ap (λ (x : List LogEntry). laid_over (laid_log x) log₀) entries_are) i;
    }
  where
    none : answers_from r b list at ≡ []
    none = from_none r b list at l

    all_before : g.before ≡ answers_from r₀ b₀ list 0
    all_before = sym (append-nil g.before) ∙ ap (λ (x : List Said). g.before ++ x) (sym none) ∙ g.all_answers

    pictures_are : tally.pictures ≡ new_number (answers_from r₀ b₀ list 0)
    pictures_are = ap (λ (t : Tally). t.pictures) g.tally_is ∙ ap new_number all_before

    blocks_are : g.blocks ≡ clip_from clip [] (answers_from r₀ b₀ list 0) (listed list)
    blocks_are =
        sym (append-nil g.blocks) ∙ ap (λ (x : List Said). g.blocks ++ clip_from clip g.before x (listed (drop at list))) (sym none) ∙ g.all_blocks

    entries_are : g.entries ≡ log_from [] (answers_from r₀ b₀ list 0)
    entries_are = sym (append-nil g.entries) ∙ ap (λ (x : List Said). g.entries ++ log_from g.before x) (sym none) ∙ g.all_entries
