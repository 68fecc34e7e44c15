-- "Everything else in an answer stays. Other refusals carry table 0.": what is promised of the table that a refusal carries. Assumes nothing.
use Rattle.std.specs.Prelude.{ℕ, ◌≤◌, ◌≡◌, Result, Ok, Err}
use Rattle.refusals.specs.declared.Refusal.{Refusal}
use Rattle.refusals.specs.Number.{number}
use Rattle.refusals.specs.Told.{Numbers, numbers_of, Told, accepted, refused_by, told_verdict}

-- ---- the table is 1 to 10 exactly with 8
pub record Tabled (numbers : Numbers) : Type 0 where
  pub read : numbers.number ≡ 8 → (1 ≤ numbers.table) × (numbers.table ≤ 10)
  pub other : (numbers.number ≡ 8 → ⊥) → numbers.table ≡ 0

-- of every refusal that there is
abbrev pub TabledExactly : Type 0
TabledExactly = (why : Refusal) → Tabled (numbers_of why)

-- ---- what was told before there were tables: a refusal's number and its place
pub data ToldBefore (A : Type 0) : Type 0 where
  given : A → ToldBefore A
  refused_at : ℕ → ℕ → ToldBefore A

abbrev pub verdict_before : Result (Unit {0}) Refusal → ToldBefore (Unit {0})
verdict_before (Ok u) = given tt
verdict_before (Err why) = refused_at (number why.reason) why.place

-- an answer without its table
abbrev pub without_table : {A : Type 0} → Told A → ToldBefore A
without_table (accepted a) = given a
without_table (refused_by numbers) = refused_at numbers.number numbers.place

-- the old answer is the new one without its table
abbrev pub VerdictStays : Type 0
VerdictStays = (v : Result (Unit {0}) Refusal) → verdict_before v ≡ without_table (told_verdict v)
