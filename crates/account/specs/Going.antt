-- How a program's run goes on after a write. Assumes nothing.
use Rattle.std.specs.Prelude.{Result, Ok, Err}
use Rattle.account.specs.declared.Failure.{Failure}

-- it goes on where all was written, and else ends, with why it is not: `ends` makes a run's failure of that
abbrev pub going_after_write : {Why : Type 0} → (Why → Failure) → Result (Unit {0}) Why → Result (Unit {0}) Failure
going_after_write ends (Ok done) = Ok done
going_after_write ends (Err why) = Err (ends why)
