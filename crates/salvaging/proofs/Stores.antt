-- Blocks and entries laid out one after another, and stores of them. Assumes nothing.
use mathlib.Core.Path.{◌≡◌, refl, sym, ap, ◌∙◌}
use mathlib.Core.List.{List, [], ◌∷◌, ◌++◌, append-nil, append_assoc}
use Prim.Native.Nat.{ℕ, suc, ◌+◌, ◌*◌, ◌≤◌}
use native.Mathlib.Nat.{add-zero, add-suc, suc-add}
use native.Mathlib.Omega.{arith}
use lib.ListN.{length, get_or, set, take, drop, length-append, length-drop}
use lib.Seq.{sets, sets-eq, drop-drop}
use Rattle.laws.proofs.Splice.{sets_after}
use Rattle.ticks.specs.declared.Tick.TheVariants as T
use Rattle.standing.specs.Answered.{Said}
use Rattle.standing.specs.Answered as A
use Rattle.salvaging.specs.Log.{LogEntry, kept, skipped, dropped, laid_entry, laid_log}
use Rattle.salvaging.specs.Clip.{joined}
use Rattle.salvaging.specs.Salvage.{laid_over}

-- ---- five numbers
five_parts : (f : List ℕ) → length f ≡ 5 → f ≡ get_or f 0 0 ∷ get_or f 1 0 ∷ get_or f 2 0 ∷ get_or f 3 0 ∷ get_or f 4 0 ∷ []
five_parts [] l = absurd (omega (arith, l))
five_parts (a ∷ []) l = absurd (omega (arith, l))
five_parts (a ∷ b ∷ []) l = absurd (omega (arith, l))
five_parts (a ∷ b ∷ c ∷ []) l = absurd (omega (arith, l))
five_parts (a ∷ b ∷ c ∷ d ∷ []) l = absurd (omega (arith, l))
five_parts (a ∷ b ∷ c ∷ d ∷ e ∷ []) l = refl
five_parts (a ∷ b ∷ c ∷ d ∷ e ∷ f ∷ rest) l = absurd (omega (arith, l))

pub five_stored : (l : List ℕ) (at : ℕ) (f g : List ℕ) → f ≡ g → length g ≡ 5
    → set (set (set (set (set l at (get_or f 0 0)) (at + 1) (get_or f 1 0)) (at + 2) (get_or f 2 0)) (at + 3) (get_or f 3 0)) (at + 4) (get_or f 4 0) ≡ sets l at g
five_stored l at f g e n =
    let one : at + 1 ≡ suc at = omega arith in
    let two : at + 2 ≡ suc (suc at) = omega arith in
    let three : at + 3 ≡ suc (suc (suc at)) = omega arith in
    let four : at + 4 ≡ suc (suc (suc (suc at))) = omega arith in
    (λ i. set (set (set (set (set l at (get_or f 0 0)) (one i) (get_or f 1 0)) (two i) (get_or f 2 0)) (three i) (get_or f 3 0)) (four i) (get_or f 4 0))
    ∙ ap (λ (h : List ℕ). sets l at (get_or h 0 0 ∷ get_or h 1 0 ∷ get_or h 2 0 ∷ get_or h 3 0 ∷ get_or h 4 0 ∷ [])) e
    ∙ ap (sets l at) (sym (five_parts g n))

answer_long : (block : ℕ) (answer : Said) → length (laid_entry (dropped block answer)) ≡ 5
answer_long block (A.taken n part) = refl
answer_long block (A.old n part) = refl
answer_long block A.lost = refl
answer_long block (A.refused numbers) = refl
answer_long block (A.picture n (T.Exact tick)) = refl
answer_long block (A.picture n (T.Estimated tick)) = refl

pub entry_long : (entry : LogEntry) → length (laid_entry entry) ≡ 5
entry_long (kept block old new) = refl
entry_long (skipped block first last) = refl
entry_long (dropped block answer) = answer_long block answer

pub log_long : (entries : List LogEntry) → length (laid_log entries) ≡ 5 * length entries
unfolding laid_log
log_long [] = refl
log_long (entry ∷ entries) = omega (arith, length-append (laid_entry entry) (laid_log entries), entry_long entry, log_long entries)

pub log_append : (a b : List LogEntry) → laid_log (a ++ b) ≡ laid_log a ++ laid_log b
unfolding laid_log
log_append [] b = refl
log_append (entry ∷ a) b = ap (λ (l : List ℕ). laid_entry entry ++ l) (log_append a b) ∙ sym (append_assoc (laid_entry entry) (laid_log a) (laid_log b))

pub joined-append : (a b : List (List ℕ)) → joined (a ++ b) ≡ joined a ++ joined b
unfolding joined
joined-append [] b = refl
joined-append (block ∷ a) b = ap (λ (l : List ℕ). block ++ l) (joined-append a b) ∙ sym (append_assoc block (joined a) (joined b))

-- ---- stores
-- one run after another
sets-sets : (xs ys l : List ℕ) (i : ℕ) → sets (sets l i xs) (i + length xs) ys ≡ sets l i (xs ++ ys)
sets-sets [] ys l i = ap (λ (n : ℕ). sets l n ys) (add-zero i)
sets-sets (x ∷ xs) ys l i = ap (λ (n : ℕ). sets (sets (set l i x) (suc i) xs) n ys) (add-suc i (length xs) ∙ sym (suc-add i (length xs))) ∙ sets-sets xs ys (set l i x) (suc i)

-- a part that is stored whole
pub part_stored : (l vs : List ℕ) (at k : ℕ) → k ≡ length vs → at + k ≤ length l → take at l ++ (vs ++ drop k (drop at l)) ≡ sets l at vs
part_stored l vs at k e n =
    ap (λ (m : ℕ). take at l ++ (vs ++ drop m (drop at l))) e
    ∙ ap (λ (r : List ℕ). take at l ++ (vs ++ r)) (drop-drop (length vs) at l)
    ∙ sym (append_assoc (take at l) vs (drop (at + length vs) l))
    ∙ sym (sets-eq vs l at (omega arith))

-- one entry, and two
pub one_entered : (l : List ℕ) (at : ℕ) (a : LogEntry) → sets l at (laid_entry a) ≡ sets l at (laid_log (a ∷ []))
unfolding laid_log
one_entered l at a = ap (sets l at) (sym (append-nil (laid_entry a)))

pub two_entered : (l m : List ℕ) (at : ℕ) (a b : LogEntry) → m ≡ sets l at (laid_entry a) → sets m (at + 5) (laid_entry b) ≡ sets l at (laid_log (a ∷ b ∷ []))
unfolding laid_log
two_entered l m at a b e =
    (λ i. sets (e i) (at + sym (entry_long a) i) (laid_entry b))
    ∙ sets-sets (laid_entry a) (laid_entry b) l at
    ∙ ap (λ (r : List ℕ). sets l at (laid_entry a ++ r)) (sym (append-nil (laid_entry b)))

-- more is laid over a buffer, after what was
pub laid_more : (xs vs old : List ℕ) (at : ℕ) → length xs ≡ at → at + length vs ≤ length old → sets (laid_over xs old) at vs ≡ laid_over (xs ++ vs) old
laid_more xs vs old at e n =
    sets_after xs vs (drop (length xs) old) at e room
    ∙ ap (λ (r : List ℕ). xs ++ vs ++ r) (drop-drop (length vs) (length xs) old ∙ ap (λ (k : ℕ). drop k old) (sym (length-append xs vs)))
  where
    room : length vs ≤ length (drop (length xs) old)
    room = omega (arith, length-drop (length xs) old)
