-- Words put one after another are the words joined. Assumes nothing.
use Prim.Native.Nat.{ℕ, ◌+◌, ◌≤◌}
use native.Mathlib.Omega.{arith}
use mathlib.Core.Path.{◌≡◌, sym, ap, ◌∙◌}
use mathlib.Core.List.{List, [], ◌++◌, append_assoc, append-nil}
use lib.ListN.{length, take, drop, length-append, length-drop, take-append-drop}
use lib.Seq.{length-take-le, take_at, drop-append-add, drop-drop}
use Rattle.io.specs.Counts.{IsPrefixLen}
use Rattle.text.specs.Text.{over}
use Rattle.text.specs.Puts.{Puts, placed_text}

-- one text after another is the two as one
pub puts_then : {a b : List ℕ} {at middle end : ℕ} {out between left : List ℕ} → Puts a at out between middle → Puts b middle between left end → middle ≤ length out → Puts (a ++ b) at out left end
puts_then {a} {b} {at} {middle} {end} {out} {between} {left} p q room =
    let before : List ℕ = take at out ++ a in
    let rest : List ℕ = drop (at + length a) out in
    let long : length before ≡ middle = omega (arith, length-append (take at out) a, length-take-le at out (omega (arith, p.end_is)), p.end_is) in
    let sum : length (a ++ b) ≡ length a + length b = length-append a b in
    let whole : at + length a + length b ≡ at + length (a ++ b) = omega (arith, sum) in
    let front : take middle between ≡ before = ap (λ (x : List ℕ). take middle x) p.left_is ∙ take_at before rest middle long in
    let moved : middle + length b ≡ length before + length b = ap (λ (k : ℕ). k + length b) (sym long) in
    let back : drop (middle + length b) between ≡ drop (at + length (a ++ b)) out =
    ap (λ (x : List ℕ). drop (middle + length b) x) p.left_is
    ∙ ap (λ (k : ℕ). drop k (before ++ rest)) moved
    ∙ drop-append-add before rest (length b)
    ∙ drop-drop (length b) (at + length a) out
    ∙ ap (λ (k : ℕ). drop k out) whole in
    record {
      end_is = omega (arith, q.end_is, p.end_is, sum);
      left_is =
          q.left_is
          ∙ ap (λ (x : List ℕ). x ++ b ++ drop (middle + length b) between) front
          ∙ ap (λ (x : List ℕ). before ++ b ++ x) back
          ∙ ap (λ (x : List ℕ). x ++ drop (at + length (a ++ b)) out) (append_assoc (take at out) a b);
    }

-- what is left is as long as what was there
pub puts_length : {text : List ℕ} {at end : ℕ} {out left : List ℕ} → Puts text at out left end → end ≤ length out → length left ≡ length out
puts_length {text} {at} {end} {out} p room =
    let parts = length-append (take at out ++ text) (drop (at + length text) out) in
    let front = length-append (take at out) text in
    let before = length-take-le at out (omega (arith, p.end_is)) in
    let back = length-drop (at + length text) out in
    let same : length (placed_text at text out) ≡ length out = omega (arith, parts, front, before, back, p.end_is) in
    ap length p.left_is ∙ same

-- the same text
pub puts_as : {a b : List ℕ} {at end : ℕ} {out left : List ℕ} → a ≡ b → Puts a at out left end → Puts b at out left end
puts_as {a} {b} {at} {end} {out} {left} e p = record { end_is = p.end_is ∙ ap (λ (x : List ℕ). at + length x) e; left_is = p.left_is ∙ ap (λ (x : List ℕ). placed_text at x out) e }

-- nothing more
pub puts_none : {a : List ℕ} {at end : ℕ} {out left : List ℕ} → Puts a at out left end → Puts (a ++ []) at out left end
puts_none {a} p = puts_as (sym (append-nil a)) p

pub puts_nothing : {at : ℕ} {out : List ℕ} → at ≤ length out → Puts [] at out out at
puts_nothing {at} {out} room =
    let same : at + 0 ≡ at = omega arith in
    record { end_is = sym same; left_is = sym (ap (λ (x : List ℕ). x ++ drop (at + 0) out) (append-nil (take at out)) ∙ ap (λ (k : ℕ). take at out ++ drop k out) same ∙ take-append-drop at out) }

-- from the start on
pub puts_over : {text : List ℕ} {end : ℕ} {out left : List ℕ} → Puts text 0 out left end → (end ≡ length text) × (left ≡ over text out)
puts_over {text} {end} {out} p =
    let none : 0 + length text ≡ length text = omega arith in
    (p.end_is ∙ none, p.left_is ∙ ap (λ (k : ℕ). text ++ drop k out) none)

-- as a line's promise says it
pub told : {text : List ℕ} {end : ℕ} {out left : List ℕ} → end ≤ length left → Puts text 0 out left end → (IsPrefixLen end left) × ((end ≡ length text) × (left ≡ over text out))
told {text} {end} {out} {left} room p = ((room, sym (length-take-le end left room)), puts_over p)

-- five texts, as a line's promise says it
pub told_five : {a b c d e : List ℕ} {p q r s end : ℕ} {out after_a after_b after_c after_d left : List ℕ} → end ≤ length left
    → Puts a 0 out after_a p → Puts b p after_a after_b q → Puts c q after_b after_c r → Puts d r after_c after_d s → Puts e s after_d left end
    → p ≤ length out → q ≤ length out → r ≤ length out → s ≤ length out
    → (IsPrefixLen end left) × ((end ≡ length (a ++ b ++ c ++ d ++ e)) × (left ≡ over (a ++ b ++ c ++ d ++ e) out))
told_five room a b c d e k l m n = told room (puts_then (puts_then (puts_then (puts_then a b k) c l) d m) e n)
