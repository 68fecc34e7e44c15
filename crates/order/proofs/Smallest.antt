-- The smaller number at one place: the theorems. Assumes nothing.
use Prim.Native.Nat.{ℕ, zero, suc, ◌+◌, ◌*◌, ◌/◌, ◌%◌, ◌≤◌}
use mathlib.Core.Path.{◌≡◌, refl, ap, subst, ◌∙◌}
use mathlib.Core.Bool.{Bool, true, false}
use mathlib.Core.List.{List, [], ◌∷◌}
use native.Mathlib.Omega.{arith}
use lib.Dec.{T, eqb, leb, ltb, eqb→eq, lit≤}
use lib.IntN.{ℤ, ◌+ℤ◌}
use Rattle.laws.specs.Choice.{pick, both, either, opposite}
use Rattle.refusals.specs.declared.Reason.{Reason}
use Rattle.refusals.specs.declared.Reason.TheVariants.{BitsEnd, OtherFormat, NoCodeword, AddressPast, Forbidden, CoefficientPast, VectorOut, AfterLast}
use Rattle.refusals.specs.declared.Refusal.{Refusal}
use Rattle.refusals.specs.Number.{number}
use Rattle.bits.specs.Bits.{Bit, num}
use Rattle.bits.specs.Places.{plain}
use Rattle.bits.specs.Read.{Read, got, refused, endless, Reader, next, ◌>>=◌, done, field_from, field, Judged, fine, against, settle, judged_read, moved_read, whole}
use Rattle.bits.specs.Code.{CodeTable, longer, word}
use Rattle.layout.specs.Numbers.{forbidden}
use Rattle.layout.specs.Value.{Coefficient, Vector}
use Rattle.h261_words.specs.Tables.{table1, table3, stuffing, start_code, end_of_block, escape}
use Rattle.h261_words.specs.Words.{Event, sent, over, escaped, paired, tcoeff, allowed, coefficient_read}
use Rattle.h261_groups.specs.Format.{format_bit}
use Rattle.h261_description.specs.Vector.{in_range, in_picture}
use Rattle.h261_layers.specs.Vector.{pair_of, component, component_read, components_read, vector_read}
use Rattle.h261_layers.specs.Grammar.{fits, step, stuffed, ended, mba_of}
use Rattle.order.specs.Order.{first_broken, rising}
use Rattle.order.specs.Grammar.{coefficient_rules, mba_rules, mba_meaning, PictureSmallest}
use Rattle.order.proofs.Words.{lookup-refused}

-- ---- reading alone gives numbers up to n
record Alone {A : Type 0} (n : ℕ) (r : Reader A) : Type 0 where
  alone : (bs : List Bit) (at : ℕ) (why : Refusal) → r bs at ≡ refused why → number why.reason ≤ n

apart : {A : Type 0} {a : A} {bs : List Bit} {at : ℕ} {why : Refusal} → ◌≡◌ {A = Read A} (got a bs at) (refused why) → ⊥
apart e = let z : ◌≡◌ {A = ℕ} 0 1 = cc in omega arith

apart-endless : {A : Type 0} {why : Refusal} → ◌≡◌ {A = Read A} endless (refused why) → ⊥
apart-endless e = let z : ◌≡◌ {A = ℕ} 0 1 = cc in omega arith

alone_done : {A : Type 0} {n : ℕ} {a : A} → Alone n (done a)
alone_done = record { alone = λ bs at why e. absurd (apart e) }

alone_then : {A B : Type 0} {n : ℕ} {r : Reader A} {k : A → Reader B} → Alone n r → ((a : A) → Alone n (k a)) → Alone n (r >>= k)
alone_then {A} {n = n} {r} {k} h f = record { alone = λ bs at why e. from bs at why (r bs at) refl e }
  where
    from : (bs : List Bit) (at : ℕ) (why : Refusal) (x : Read A) → r bs at ≡ x → next x k ≡ refused why → number why.reason ≤ n
    from bs at why (got a left p) w e = (f a).alone left p why e
    from bs at why (refused c) w e = let same : c ≡ why = cc in h.alone bs at why (w ∙ ap refused same)
    from bs at why endless w e = absurd (apart-endless e)

alone_judged : {A B : Type 0} {n : ℕ} {r : Reader A} (rule : A → Judged B) → ((a : A) (reason : Reason) → rule a ≡ against reason → number reason ≤ n) → Alone n r → Alone n (judged_read r rule)
alone_judged {A} {B} {n} {r} rule f h = record { alone = λ bs at why e. from bs at why (r bs at) refl e }
  where
    by : (at p : ℕ) (left : List Bit) (why : Refusal) (j : Judged B) → ((reason : Reason) → j ≡ against reason → number reason ≤ n) → settle {P = plain} at j left p ≡ refused why → number why.reason ≤ n
    by at p left why (fine b) g e = absurd (apart e)
    by at p left why (against reason) g e = let same : reason ≡ why.reason = cc in subst (λ (x : Reason). number x ≤ n) same (g reason refl)

    from : (bs : List Bit) (at : ℕ) (why : Refusal) (x : Read A) → r bs at ≡ x → next x (λ a. settle at (rule a)) ≡ refused why → number why.reason ≤ n
    from bs at why (got a left p) w e = by at p left why (rule a) (f a) e
    from bs at why (refused c) w e = let same : c ≡ why = cc in h.alone bs at why (w ∙ ap refused same)
    from bs at why endless w e = absurd (apart-endless e)

alone_whole : {A : Type 0} {n : ℕ} {r : Reader A} → Alone n r → Alone n (whole r)
alone_whole {A} {n} {r} h = record { alone = λ bs at why e. from bs at why (r bs at) refl e }
  where
    from : (bs : List Bit) (at : ℕ) (why : Refusal) (x : Read A) → r bs at ≡ x → moved_read {P = plain} at x ≡ refused why → number why.reason ≤ n
    from bs at why (got a left p) w e = absurd (apart e)
    from bs at why (refused c) w e = let same : c.reason ≡ why.reason = cc in subst (λ (x : Reason). number x ≤ n) same (h.alone bs at c w)
    from bs at why endless w e = absurd (apart-endless e)

three : (rest at v : ℕ) (left : List Bit) (p : ℕ) (why : Refusal) → field_from {P = plain} rest at v left p ≡ refused why → BitsEnd ≡ why.reason
unfolding field_from
three zero at v left p why e = absurd (apart e)
three (suc rest) at v [] p why e = cc
three (suc rest) at v (b ∷ left) p why e = three rest at (v * 2 + num b) left (p + 1) why e

alone_field : {n : ℕ} (k : ℕ) → 3 ≤ n → Alone n (field k)
unfolding number
alone_field {n} k l = record { alone = λ bs at why e. subst (λ (x : Reason). number x ≤ n) (three k at 0 bs at why e) l }

alone_word : {n : ℕ} (table : CodeTable) → 8 ≤ n → Alone n (word table)
unfolding word number
alone_word {n} table l = record { alone = λ bs at why e. by (longer table.entries bs) why (lookup-refused table.entries bs at _ why e) }
  where
    by : {at : ℕ} (b : Bool) (why : Refusal) → ◌≡◌ {A = Read ℕ} (refused (record { reason = pick b BitsEnd (NoCodeword table.name); place = at })) (refused why) → number why.reason ≤ n
    by true why e = let same : BitsEnd ≡ why.reason = cc in subst (λ (x : Reason). number x ≤ n) same (omega arith)
    by false why e = let same : NoCodeword table.name ≡ why.reason = cc in subst (λ (x : Reason). number x ≤ n) same l

alone_tcoeff : (table : CodeTable) → Alone 8 (tcoeff table)
unfolding tcoeff
alone_tcoeff table = alone_whole (alone_then (alone_word table (lit≤ tt)) (λ m. after (eqb m end_of_block) (eqb m escape) m))
  where
    after : (end esc : Bool) (m : ℕ) → Alone 8 (pick end (done over) (pick esc escaped (paired m)))
    after true esc m = alone_done
    after false true m = alone_then (alone_field 6 (lit≤ tt)) (λ run. alone_then (alone_field 8 (lit≤ tt)) (λ code. alone_done))
    after false false m = alone_then (alone_field 1 (lit≤ tt)) (λ s. alone_done)

landed : (s t : Bool) (a b : ℤ) (reason : Reason) → pick s (fine a) (pick t (fine b) (against VectorOut)) ≡ against reason → number reason ≤ 12
unfolding number
landed true t a b reason e = absurd (let z : ◌≡◌ {A = ℕ} 0 1 = cc in omega arith)
landed false true a b reason e = absurd (let z : ◌≡◌ {A = ℕ} 0 1 = cc in omega arith)
landed false false a b reason e = let same : VectorOut ≡ reason = cc in subst (λ (x : Reason). number x ≤ 12) same (lit≤ tt)

alone_component : (before : ℤ) → Alone 12 (component_read before)
unfolding component_read number
alone_component before =
    alone_judged (λ n. component before (pair_of n))
    (λ n reason e. landed (in_range (before +ℤ (pair_of n).printed)) (in_range (before +ℤ (pair_of n).other)) (before +ℤ (pair_of n).printed) (before +ℤ (pair_of n).other) reason e)
    (alone_word table3 (lit≤ tt))

alone_components : (before : Vector) → Alone 12 (components_read before)
unfolding components_read
alone_components before = alone_then (alone_component before.horizontal) (λ h. alone_then (alone_component before.vertical) (λ v. alone_done))

-- ---- the same judgements, as a list of rules
same_judged : {A B : Type 0} {one other : A → Judged B} (r : Reader A) → ((a : A) → one a ≡ other a) → (bs : List Bit) (at : ℕ) → judged_read r one bs at ≡ judged_read r other bs at
same_judged {A} {one = one} {other} r e bs at = by (r bs at)
  where
    by : (x : Read A) → next x (λ a. settle at (one a)) ≡ next x (λ a. settle at (other a))
    by (got a left p) = ap (λ (j : Judged _). settle at j left p) (e a)
    by (refused why) = refl
    by endless = refl

turned : {A : Type 0} (b : Bool) (x y : A) → pick b x y ≡ pick (opposite b) y x
turned true x y = refl
turned false x y = refl

mba_rules_lem : (last : Bool) (address m : ℕ) → mba_of last address m ≡ first_broken (mba_rules last address m) (mba_meaning m)
mba_rules_lem last address m = by (eqb m stuffing) (eqb m start_code) last (ltb 33 (address + m)) (λ s t. clash (eqb→eq m stuffing s) (eqb→eq m start_code t))
  where
    clash : m ≡ stuffing → m ≡ start_code → ⊥
    clash e f = omega arith

    by : (s t l u : Bool) → (T s → T t → ⊥)
        → pick s (fine stuffed) (pick t (pick l (against AfterLast) (fine ended)) (pick u (against AddressPast) (fine (step m))))
        ≡ pick (both (opposite (either s t)) u) (against AddressPast) (pick (both l t) (against AfterLast) (fine (pick s stuffed (pick t ended (step m)))))
    by true true l u n = absurd (n tt tt)
    by true false true u n = refl
    by true false false u n = refl
    by false true true u n = refl
    by false true false u n = refl
    by false false true true n = refl
    by false false true false n = refl
    by false false false true n = refl
    by false false false false n = refl

level_rules : (room : ℕ) (c : Coefficient) (at : ℕ) (left : List Bit) (p : ℕ) (b : Bool)
    → next {P = plain} (settle at (pick b (against Forbidden) (fine (sent c))) left p) (λ a. settle at (fits room a))
    ≡ settle at (pick b (against Forbidden) (pick (leb room c.run) (against CoefficientPast) (fine (sent c)))) left p
level_rules room c at left p true = refl
level_rules room c at left p false = refl

coefficient_rules_lem : (room : ℕ) (table : CodeTable) (bs : List Bit) (at : ℕ)
    → judged_read {P = plain} (coefficient_read table) (fits room) bs at ≡ judged_read (tcoeff table) (λ e. first_broken (coefficient_rules room e) e) bs at
unfolding coefficient_read
coefficient_rules_lem room table bs at = by (tcoeff table bs at)
  where
    by : (x : Read Event)
        → next (next x (λ a. settle at (allowed a))) (λ a. settle at (fits room a)) ≡ next x (λ a. settle at (first_broken (coefficient_rules room a) a))
    by (got (sent c) left p) = level_rules room c at left p (forbidden c.code)
    by (got over left p) = refl
    by (refused why) = refl
    by endless = refl

rising_so : (room : ℕ) (e : Event) → T (rising 8 (coefficient_rules room e))
unfolding number
rising_so room (sent c) = tt
rising_so room over = tt

pub picture_smallest : PictureSmallest
unfolding vector_read number
picture_smallest = record {
  start_code = λ k v. record { alone = (alone_field k (lit≤ tt)).alone; rises = λ x. tt; judged = same_judged (field k) (λ x. turned (eqb x v) _ _) };
  ptype = λ f. record { alone = (alone_field 6 (lit≤ tt)).alone; rises = λ x. tt; judged = same_judged (field 6) (λ x. turned (both (eqb (x / 4 % 2) (format_bit f)) (eqb (x / 2 % 2) 1)) (fine (x / 8)) (against OtherFormat)) };
  group_number = λ k v. record { alone = (alone_field k (lit≤ tt)).alone; rises = λ x. tt; judged = same_judged (field k) (λ x. turned (eqb x v) _ _) };
  quantisers = record { alone = (alone_field 5 (lit≤ tt)).alone; rises = λ x. tt; judged = λ bs at. refl };
  addresses = λ last address. record { alone = (alone_word table1 (lit≤ tt)).alone; rises = λ m. tt; judged = same_judged (word table1) (mba_rules_lem last address) };
  dc_codes = record { alone = (alone_field 8 (lit≤ tt)).alone; rises = λ x. tt; judged = λ bs at. refl };
  coefficients = λ room table. record { alone = (alone_tcoeff table).alone; rises = rising_so room; judged = coefficient_rules_lem room table };
  vectors = λ f group address preceding. record { alone = (alone_components preceding).alone; rises = λ v. tt; judged = same_judged (components_read preceding) (λ v. turned (in_picture f group address v) (fine v) (against VectorOut)) };
}
