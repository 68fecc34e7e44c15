-- A picture with or without fill, by the verdict of each read. Assumes nothing.
use Prim.Native.Nat.{ℕ, ◌<◌, ◌≤◌}
use native.Mathlib.Omega.{arith}
use borrow.Author.Tests.{le-leb, lt-leb}
use mathlib.Core.Path.{◌≡◌, refl, sym, ap, subst, ◌∙◌}
use mathlib.Core.Bool.{Bool, true, false}
use mathlib.Core.List.{List}
use lib.Dec.{leb}
use Rattle.laws.specs.Choice.{pick, both}
use Rattle.laws.proofs.Choice.{second_no}
use Rattle.refusals.specs.declared.Refusal.{Refusal}
use Rattle.refusals.specs.Number.{number}
use Rattle.refusals.specs.Told.{Numbers, Told, accepted, refused_by, verdict_on, found_or}
use Rattle.refusals.proofs.Told.{told_apart, same_numbers}
use Rattle.h261_groups.specs.declared.Format.{Format}
use Rattle.layout.specs.Flat.{Flat}
use Rattle.coding.specs.declared.Kind.TheVariants.{H261}
use Rattle.coding.specs.Described.{read_of}
use Rattle.stream.specs.Filled.{count_of, among_zeros, or_else, unfilled, by_first, filled_read}

-- ---- a refusal among the zeros
module _ (why : Refusal) (ones : ℕ) {n : ℕ} (e : n ≡ number why.reason) where
  pub not_below : n < 3 → false ≡ among_zeros (number why.reason) why.place ones
  not_below l =
      let low : number why.reason < 3 = omega (arith, e, l) in
      sym (ap (λ (t : Bool). both (both t (leb (number why.reason) 13)) (leb ones why.place)) (lt-leb 3 (number why.reason) low))

  pub not_above : 13 < n → false ≡ among_zeros (number why.reason) why.place ones
  not_above l =
      let high : 13 < number why.reason = omega (arith, e, l) in
      sym (ap (λ (t : Bool). both t (leb ones why.place)) (second_no (leb 3 (number why.reason)) _ (lt-leb (number why.reason) 13 high)))

  pub by_place : 3 ≤ n → n ≤ 13 → leb ones why.place ≡ among_zeros (number why.reason) why.place ones
  by_place l m =
      let low : 3 ≤ number why.reason = omega (arith, e, l) in
      let high : number why.reason ≤ 13 = omega (arith, e, m) in
      sym (λ i. both (both (le-leb 3 (number why.reason) low i) (le-leb (number why.reason) 13 high i)) (leb ones why.place))

-- what is said and left is what a read says and leaves
abbrev Says : Told (Unit {0}) → Flat → Flat → Told Flat → Type 0
Says v before left x = (v ≡ verdict_on x) × (left ≡ found_or before x)

module _ (f : Format) (bytes : List ℕ) (ones : ℕ) (before : Flat) where
  -- ---- without fill
  module _ (numbers : Numbers) where
    abbrev second : Told Flat
    second = or_else numbers (read_of (H261 f) bytes numbers.place before)

    pub stays : {b : Bool} → b ≡ among_zeros numbers.number numbers.place ones → b ≡ false → Says (refused_by numbers) before before (unfilled f bytes ones before numbers)
    unfolding unfilled
    stays e l =
        let is : refused_by numbers ≡ pick (among_zeros numbers.number numbers.place ones) second (refused_by numbers) = sym (ap (λ (t : Bool). pick t second (refused_by numbers)) (sym e ∙ l)) in
        (ap verdict_on is, ap (found_or before) is)

    tried : {b : Bool} → b ≡ among_zeros numbers.number numbers.place ones → b ≡ true → second ≡ unfilled f bytes ones before numbers
    unfolding unfilled
    tried e l = sym (ap (λ (t : Bool). pick t second (refused_by numbers)) (sym e ∙ l))

    whole_is : (x : Told Flat) → accepted tt ≡ verdict_on x → Says (accepted tt) before (found_or before x) (or_else numbers x)
    whole_is (accepted d) e = (refl, refl)
    whole_is (refused_by others) e = absurd (told_apart e)

    broken_is : (x : Told Flat) {others : Numbers} → refused_by others ≡ verdict_on x → Says (refused_by numbers) before (found_or before x) (or_else numbers x)
    broken_is (accepted d) e = absurd (told_apart (sym e))
    broken_is (refused_by others) e = (refl, refl)

    pub whole : {b : Bool} {v : Told (Unit {0})} {left : Flat} → b ≡ among_zeros numbers.number numbers.place ones → b ≡ true
        → Says v before left (read_of (H261 f) bytes numbers.place before) → v ≡ accepted tt → Says (accepted tt) before left (unfilled f bytes ones before numbers)
    whole e l s a =
        let said = whole_is (read_of (H261 f) bytes numbers.place before) (sym a ∙ s.0) in
        (said.0 ∙ ap verdict_on (tried e l), s.1 ∙ said.1 ∙ ap (found_or before) (tried e l))

    pub broken : {b : Bool} {v : Told (Unit {0})} {left : Flat} {others : Numbers} → b ≡ among_zeros numbers.number numbers.place ones → b ≡ true
        → Says v before left (read_of (H261 f) bytes numbers.place before) → v ≡ refused_by others → Says (refused_by numbers) before left (unfilled f bytes ones before numbers)
    broken e l s a =
        let said = broken_is (read_of (H261 f) bytes numbers.place before) (sym a ∙ s.0) in
        (said.0 ∙ ap verdict_on (tried e l), s.1 ∙ said.1 ∙ ap (found_or before) (tried e l))

  -- ---- all of it
  first_whole : (x : Told Flat) → accepted tt ≡ verdict_on x → Says (accepted tt) before (found_or before x) (by_first f bytes ones before x)
  first_whole (accepted d) e = (refl, refl)
  first_whole (refused_by others) e = absurd (told_apart e)

  first_broken : (x : Told Flat) {numbers : Numbers} → refused_by numbers ≡ verdict_on x
      → (found_or before x ≡ before) × ((verdict_on (unfilled f bytes ones before numbers) ≡ verdict_on (by_first f bytes ones before x)) × (found_or before (unfilled f bytes ones before numbers) ≡ found_or before (by_first f bytes ones before x)))
  first_broken (accepted d) e = absurd (told_apart (sym e))
  first_broken (refused_by others) {numbers} e =
      let same : numbers ≡ others = same_numbers e in
      (refl, (ap (λ (x : Numbers). verdict_on (unfilled f bytes ones before x)) same, ap (λ (x : Numbers). found_or before (unfilled f bytes ones before x)) same))

  module _ (count : ℕ) {k : ℕ} (c : k ≡ count_of f count ones) {v : Told (Unit {0})} {left : Flat} (s : Says v before left (read_of (H261 f) bytes k before)) where
    pub at_once : v ≡ accepted tt → Says (accepted tt) before left (filled_read f bytes count ones before)
    unfolding filled_read
    at_once a =
        let said = first_whole (read_of (H261 f) bytes k before) (sym a ∙ s.0) in
        let is = ap (λ (m : ℕ). by_first f bytes ones before (read_of (H261 f) bytes m before)) c in
        (said.0 ∙ ap verdict_on is, s.1 ∙ said.1 ∙ ap (found_or before) is)

    pub kept : {numbers : Numbers} → v ≡ refused_by numbers → left ≡ before
    kept a = s.1 ∙ (first_broken (read_of (H261 f) bytes k before) (sym a ∙ s.0)).0

    pub again : {numbers : Numbers} {r : Told (Unit {0})} {last : Flat} → v ≡ refused_by numbers
        → Says r left last (unfilled f bytes ones left numbers) → Says r before last (filled_read f bytes count ones before)
    unfolding filled_read
    again {numbers} {r} {last} a u =
        let two = first_broken (read_of (H261 f) bytes k before) (sym a ∙ s.0) in
        let is = ap (λ (m : ℕ). by_first f bytes ones before (read_of (H261 f) bytes m before)) c in
        let w : Says r before last (unfilled f bytes ones before numbers) = subst (λ (d : Flat). Says r d last (unfilled f bytes ones d numbers)) (kept a) u in
        (w.0 ∙ two.1.0 ∙ ap verdict_on is, w.1 ∙ two.1.1 ∙ ap (found_or before) is)
