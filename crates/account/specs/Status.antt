-- The status that a program ends with, by how its run ended. Assumes nothing.
use Rattle.std.specs.Prelude.{ℕ, Bool, eqb, Result, Ok, Err}
use Rattle.laws.specs.Choice.{pick}
use Rattle.account.specs.declared.Ended.{Ended}
use Rattle.account.specs.declared.Failure.{Failure}
use Rattle.account.specs.declared.Failure.TheVariants as F

-- the input came to its end: 2 where no picture came out, 1 where something was cut, 0 where all that came in went out whole
abbrev pub done_status : Bool → ℕ → ℕ
done_status cut pictures = pick (eqb pictures 0) 2 (pick cut 1 0)

-- 2 where the words name nothing or the input can't be read, 3 where the output can't be written
unfoldable pub status_of : Result Ended Failure → ℕ
status_of (Ok run) = done_status run.cut run.count
status_of (Err F.Misnamed) = 2
status_of (Err (F.Unread why)) = 2
status_of (Err (F.Unwritten why)) = 3

-- a run whose output could not be written
abbrev pub IsUnwritten : Failure → Type 0
IsUnwritten F.Misnamed = ⊥
IsUnwritten (F.Unread why) = ⊥
IsUnwritten (F.Unwritten why) = Unit {0}
