-- The blocks that led to no picture, and the pictures that are missing, as far as they are known since the last picture that was finished. Assumes nothing.
use Rattle.std.specs.Prelude.{ℕ, ◌+◌, Bool, true, false, eqb, leb}
use Rattle.laws.specs.Choice.{pick, both}
use Rattle.refusals.specs.Number.{number}
use Rattle.standing.specs.declared.Answer.{Answer}
use Rattle.standing.specs.declared.Answer.TheVariants as A
use Rattle.account.specs.declared.idle.Idle.{Idle}

-- nothing since the picture before this one
abbrev pub fresh_idle : ℕ → Idle
fresh_idle next = record { any = false; from = 0; to = 0; begun = false; first = 0; last = 0; next = next }

-- the blocks of a picture that has begun, and is dropped, led to none
unfoldable pub dropped : Idle → Idle
dropped i =
    pick i.begun
    (record { any = true; from = pick i.any i.from i.first; to = i.last; begun = false; first = i.first; last = i.last; next = i.next })
    i

-- block n led to none
unfoldable pub wasted : Idle → ℕ → Idle
wasted i n = record { any = true; from = pick i.any i.from n; to = n; begun = i.begun; first = i.first; last = i.last; next = i.next }

-- a picture begins with block n, or goes on with it
unfoldable pub beginning : Idle → ℕ → Idle
beginning i n = record { any = i.any; from = i.from; to = i.to; begun = true; first = n; last = n; next = i.next }

unfoldable pub going_on : Idle → ℕ → Idle
going_on i n = pick i.begun (record { any = i.any; from = i.from; to = i.to; begun = i.begun; first = i.first; last = n; next = i.next }) (beginning i n)

-- 21, 22 and 23 are of the block alone, and leave what was collected
abbrev pub of_block : ℕ → Bool
of_block n = both (leb 21 n) (leb n 23)

-- block n and what came of it: part 0 begins a picture, and drops the one before; a block that came before, or too late, changes nothing
unfoldable pub idle_after : Idle → ℕ → Answer → Idle
idle_after i n (A.Old p part) = i
idle_after i n (A.Taken p part) = pick (eqb part 0) (beginning (dropped i) n) (going_on i n)
idle_after i n A.Lost = wasted (dropped i) n
idle_after i n (A.Picture p tick) = fresh_idle (p + 1)
idle_after i n (A.Refused why) = pick (of_block (number why.reason)) i (wasted (dropped i) n)
