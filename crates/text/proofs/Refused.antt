-- The words of a refusal, one after another, are its text. Assumes nothing.
use Prim.Native.Nat.{ℕ, ◌≤◌, ◌<◌}
use native.Mathlib.Omega.{arith}
use borrow.Author.Tests.{lt-leb, le-leb, eq-eqb, ne_eqb}
use mathlib.Core.Path.{◌≡◌, sym, ap, ◌∙◌}
use mathlib.Core.Bool.{Bool}
use mathlib.Core.List.{List, [], ◌++◌}
use lib.Dec.{leb}
use lib.ListN.{length}
use Rattle.laws.specs.Choice.{pick, both}
use Rattle.laws.proofs.Choice.{second_no}
use Rattle.refusals.specs.Told.{Numbers}
use Rattle.text.specs.Text.{decimal, at_place, at_word, table_word, of_table, refused_word, refusal_text}
use Rattle.text.specs.Puts.{Puts}
use Rattle.text.proofs.Puts.{puts_then, puts_length, puts_as, puts_none, puts_nothing}

pub below_three : (numbers : Numbers) {n : ℕ} → n ≡ numbers.number → n < 3 → [] ≡ at_place numbers
unfolding at_place
below_three numbers e l =
    let low : numbers.number < 3 = omega (arith, e, l) in
    sym (ap (λ (b : Bool). pick (both b (leb numbers.number 14)) (at_word ++ decimal numbers.place ++ of_table numbers.number numbers.table) []) (lt-leb 3 numbers.number low))

pub past_fourteen : (numbers : Numbers) {n : ℕ} → n ≡ numbers.number → 14 < n → [] ≡ at_place numbers
unfolding at_place
past_fourteen numbers e l =
    let high : 14 < numbers.number = omega (arith, e, l) in
    sym (ap (λ (b : Bool). pick b (at_word ++ decimal numbers.place ++ of_table numbers.number numbers.table) [])
    (second_no (leb 3 numbers.number) (leb numbers.number 14) (lt-leb numbers.number 14 high)))

-- a refusal with no place
pub refused_plain : {n at middle end : ℕ} {out between left : List ℕ} (numbers : Numbers) → n ≡ numbers.number → [] ≡ at_place numbers → middle ≤ length out
    → Puts refused_word at out between middle → Puts (decimal n) middle between left end → Puts (refusal_text numbers) at out left end
unfolding refusal_text
refused_plain {n} numbers e none room p q =
    puts_as (λ i. refused_word ++ decimal (e i) ++ none i) (puts_none (puts_then p q room))

-- 3 to 14
from_three : (numbers : Numbers) → 3 ≤ numbers.number → numbers.number ≤ 14 → at_word ++ decimal numbers.place ++ of_table numbers.number numbers.table ≡ at_place numbers
unfolding at_place
from_three numbers l m =
    sym (λ i. pick (both (le-leb 3 numbers.number l i) (le-leb numbers.number 14 m i)) (at_word ++ decimal numbers.place ++ of_table numbers.number numbers.table) [])

-- a refusal with its place, and a table if it has one
pub refused_at : {n table at a b c d end : ℕ} {out after_a after_b after_c after_d left : List ℕ} (numbers : Numbers) → n ≡ numbers.number → table ≡ numbers.table
    → 3 ≤ n → n ≤ 14 → d ≤ length out
    → Puts refused_word at out after_a a → Puts (decimal n) a after_a after_b b → Puts at_word b after_b after_c c → Puts (decimal numbers.place) c after_c after_d d
    → Puts (of_table n table) d after_d left end → Puts (refusal_text numbers) at out left end
unfolding refusal_text
refused_at {n} {table} {at} {a} {b} {c} {d} {end} {out} {after_a} {after_b} {after_c} {after_d} {left} numbers e f l m room_d p q r s t =
    let low : 3 ≤ numbers.number = omega (arith, e, l) in
    let high : numbers.number ≤ 14 = omega (arith, e, m) in
    let room_c : c ≤ length out = omega (arith, s.end_is, room_d) in
    let room_b : b ≤ length out = omega (arith, r.end_is, room_c) in
    let room_a : a ≤ length out = omega (arith, q.end_is, room_b) in
    let long_a : length after_a ≡ length out = puts_length p room_a in
    let long_b : length after_b ≡ length after_a = puts_length q (omega (arith, long_a, room_b)) in
    let at_b : c ≤ length after_b = omega (arith, long_a, long_b, room_c) in
    let at_d : d ≤ length after_b = omega (arith, long_a, long_b, room_d) in
    let placed : Puts (at_word ++ decimal numbers.place ++ of_table n table) b after_b left end = puts_then (puts_then r s at_b) t at_d in
    let told : Puts (at_place numbers) b after_b left end = puts_as (ap (λ (x : List ℕ). at_word ++ decimal numbers.place ++ x) (λ i. of_table (e i) (f i)) ∙ from_three numbers low high) placed in
    puts_as (ap (λ (k : ℕ). refused_word ++ decimal k ++ at_place numbers) e) (puts_then (puts_then p q room_a) told room_b)

-- ---- the table
pub no_table : (n table : ℕ) {at : ℕ} {out : List ℕ} → at ≤ length out → (n ≡ 8 → ⊥) → Puts (of_table n table) at out out at
unfolding of_table
no_table n table room other =
    puts_as (sym (ap (λ (b : Bool). pick b (table_word ++ decimal table) []) (ne_eqb n 8 other))) (puts_nothing room)

pub with_table : (n table : ℕ) {at end : ℕ} {out left : List ℕ} → n ≡ 8 → Puts (table_word ++ decimal table) at out left end → Puts (of_table n table) at out left end
unfolding of_table
with_table n table is p = puts_as (sym (ap (λ (b : Bool). pick b (table_word ++ decimal table) []) (eq-eqb n 8 is))) p
