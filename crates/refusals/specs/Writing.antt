-- What a writer answers, in document 01's numbers: N, or a refusal's. Assumes nothing.
use Rattle.std.specs.Prelude.{ℕ, ◌≡◌, Result, Ok, Err}
use Rattle.refusals.specs.declared.Refusal.{Refusal}
use Rattle.refusals.specs.Told.{numbers_of, Told, accepted, refused_by}

abbrev pub told_written : Result ℕ Refusal → Told ℕ
told_written (Ok n) = accepted n
told_written (Err why) = refused_by (numbers_of why)

-- nothing of the answer is lost by that
abbrev pub WrittenToldOnce : Type 0
WrittenToldOnce = (a b : Result ℕ Refusal) → told_written a ≡ told_written b → a ≡ b
