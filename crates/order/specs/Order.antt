-- "Order: .. then the earliest place, then the smaller number.": what that says of any way to read. Assumes nothing.
use Rattle.std.specs.Prelude.{ℕ, ◌+◌, ◌≤◌, ◌≡◌, Bool, true, false, List, [], ◌∷◌, ◌++◌, T, eqb, leb, take}
use Rattle.laws.specs.Choice.{pick, both}
use Rattle.refusals.specs.declared.Reason.{Reason}
use Rattle.refusals.specs.declared.Reason.TheVariants.{BitsEnd}
use Rattle.refusals.specs.declared.Refusal.{Refusal}
use Rattle.refusals.specs.Number.{number}
use Rattle.bits.specs.Bits.{Bit}
use Rattle.bits.specs.Read.{Reader, got, refused, bad, Judged, fine, against, judged_read}

-- refusal 3, "bits end inside a field or codeword": with more bits there may be none
unfoldable pub bits_end : Reason → Bool
bits_end reason = eqb (number reason) 3

-- ---- the earliest place
-- Bits beside the same bits with more after them. `back` is how many bits before what is taken already a rule's refusal may be placed: none, but for a rule over several
-- codewords, which is placed at the first of them.
pub record EarliestPlace {A : Type 0} (back : Reason → ℕ) (r : Reader A) : Type 0 where
  -- the bits before the place are against no rule: by themselves they are refused by 3 alone, if at all
  pub before : (bs : List Bit) (at j : ℕ) (why cut : Refusal) → r bs at ≡ refused why → at + j ≤ why.place → r (take j bs) at ≡ refused cut → bits_end cut.reason ≡ true
  -- a refusal but 3 stays, whatever bits follow: no later place counts
  pub stays : (bs more : List Bit) (at : ℕ) (why : Refusal) → r bs at ≡ refused why → bits_end why.reason ≡ false → r (bs ++ more) at ≡ refused why
  -- where the bits before a place were taken, since they end there (3), whatever follows is refused there or later
  pub taken : (bs more : List Bit) (at place : ℕ) (why : Refusal) → r bs at ≡ bad BitsEnd place → r (bs ++ more) at ≡ refused why → place ≤ why.place + back why.reason
  -- and where they were accepted
  pub accepted : (bs left more : List Bit) (at place : ℕ) (a : A) (why : Refusal) → r bs at ≡ got a left place → r (bs ++ more) at ≡ refused why → place ≤ why.place + back why.reason

-- ---- the smaller number: the rules that judge what was read at one place
pub record Rule : Type 0 where
  pub reason : Reason
  pub broken : Bool

abbrev pub rule : Reason → Bool → Rule
rule reason broken = record { reason = reason; broken = broken }

-- the first that is broken refuses
abbrev pub first_broken : {A : Type 0} → List Rule → A → Judged A
first_broken [] a = fine a
first_broken (x ∷ rules) a = pick x.broken (against x.reason) (first_broken rules a)

-- their numbers rise, from n on
abbrev pub rising : ℕ → List Rule → Bool
rising n [] = true
rising n (x ∷ rules) = both (leb n (number x.reason)) (rising (number x.reason) rules)

-- A read of several refusals at one place: those of reading alone, whose numbers are up to `own`, then its rules in the order of their numbers. Each rule is a test of what was
-- read that looks at no other, so where two are broken the smaller number is given.
pub record SmallestNumber {A B : Type 0} (own : ℕ) (plain : Reader A) (rules : A → List Rule) (meaning : A → B) (r : Reader B) : Type 0 where
  pub alone : (bs : List Bit) (at : ℕ) (why : Refusal) → plain bs at ≡ refused why → number why.reason ≤ own
  pub rises : (a : A) → T (rising own (rules a))
  pub judged : (bs : List Bit) (at : ℕ) → r bs at ≡ judged_read plain (λ a. first_broken (rules a) (meaning a)) bs at
