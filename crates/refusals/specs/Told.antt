-- What document 01 calls an outcome, by its own numbers. "Where an answer is an enum, a definition sets out this paper's number and values for each of its cases."
-- Assumes nothing.
use Rattle.std.specs.Prelude.{ℕ, ◌≡◌, Result, Ok, Err}
use Rattle.refusals.specs.declared.Reason.{Reason}
use Rattle.refusals.specs.declared.Refusal.{Refusal}
use Rattle.refusals.specs.Number.{number, read_table}

-- a refusal in numbers: its own in the table of refusals, its bit place, and the table of codewords that was being read
pub record Numbers : Type 0 where
  pub number : ℕ
  pub place : ℕ
  pub table : ℕ

abbrev pub numbers_of : Refusal → Numbers
numbers_of why = record { number = number why.reason; place = why.place; table = read_table why.reason }

-- what carries table 0
abbrev pub untabled : ℕ → ℕ → Numbers
untabled n place = record { number = n; place = place; table = 0 }

-- what was asked is given, with its values; or it is refused, by these numbers
pub data Told (A : Type 0) : Type 0 where
  accepted : A → Told A
  refused_by : Numbers → Told A

abbrev pub refused : {A : Type 0} → ℕ → ℕ → Told A
refused n place = refused_by (untabled n place)

-- ---- a verdict: its acceptance has no value
abbrev pub told_verdict : Result (Unit {0}) Refusal → Told (Unit {0})
told_verdict (Ok u) = accepted tt
told_verdict (Err why) = refused_by (numbers_of why)

-- the verdict alone, without what is given
abbrev pub verdict_on : {A : Type 0} → Told A → Told (Unit {0})
verdict_on (accepted a) = accepted tt
verdict_on (refused_by numbers) = refused_by numbers

-- what is given, or what was there before: "A refusal changes no buffer"
abbrev pub found_or : {A : Type 0} → A → Told A → A
found_or before (accepted a) = a
found_or before (refused_by numbers) = before

-- ---- nothing is lost by that
abbrev pub NumbersOnce : Type 0
NumbersOnce = (a b : Reason) → number a ≡ number b → read_table a ≡ read_table b → a ≡ b

abbrev pub RefusalToldOnce : Type 0
RefusalToldOnce = (a b : Refusal) → numbers_of a ≡ numbers_of b → a ≡ b

abbrev pub VerdictToldOnce : Type 0
VerdictToldOnce = (a b : Result (Unit {0}) Refusal) → told_verdict a ≡ told_verdict b → a ≡ b
