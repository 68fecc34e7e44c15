-- What is known of a block's picture when the block is met, and how a second receiver that runs ahead finds it out. Assumes nothing.
use Rattle.std.specs.Prelude.{◌≡◌, Bool, true, false, Option, Some, None, List, ℕ, ◌+◌, ◌≤◌, eqb}
use Rattle.laws.specs.Choice.{pick, both, opposite, one_of}
use Rattle.standing.specs.declared.Progress.{Progress}
use Rattle.standing.specs.declared.Receiver.{Receiver}
use Rattle.standing.specs.Answered.{Said}
use Rattle.standing.specs.Answered as A
use Rattle.standing.specs.Receive.{is_lost}
use Rattle.salvaging.specs.Kept.{kept_numbers}
use Rattle.salvaging.specs.declared.Tally.{Tally}
use Rattle.salvaging.specs.declared.Fate.{Fate}
use Rattle.salvaging.specs.declared.Sight.{Sight}
use Rattle.salvaging.specs.declared.Sight.TheVariants as L

-- ---- the pictures so far
abbrev pub tally_after : Tally → Said → Tally
tally_after t (A.picture n tick) = record { pictures = t.pictures + 1; next = n + 1 }
tally_after t (A.taken n part) = t
tally_after t (A.old n part) = t
tally_after t A.lost = t
tally_after t (A.refused numbers) = t

-- ---- whether the picture that is collected will be finished
abbrev pub is_known : Option Fate → ℕ → Bool
is_known None n = false
is_known (Some fate) n = eqb fate.picture n

abbrev pub is_kept : Option Fate → Bool
is_kept None = false
is_kept (Some fate) = fate.kept

-- a block that is taken asks for its picture's fate, where it isn't known yet
abbrev pub asked_by : Option Fate → Said → Option ℕ
asked_by fate (A.taken n part) = pick (is_known fate n) None (Some n)
asked_by fate (A.picture n tick) = None
asked_by fate (A.old n part) = None
asked_by fate A.lost = None
asked_by fate (A.refused numbers) = None

-- what stays known: a finished picture's fate is past
abbrev pub still_known : Option Fate → Said → Option Fate
still_known fate (A.picture n tick) = None
still_known fate (A.taken n part) = fate
still_known fate (A.old n part) = fate
still_known fate A.lost = fate
still_known fate (A.refused numbers) = fate

-- it is right about what is still to come
abbrev pub FateRight : Option Fate → List Said → Type 0
FateRight None rest = Unit {0}
FateRight (Some fate) rest = one_of (kept_numbers rest) fate.picture ≡ fate.kept

-- ---- running ahead
-- a receiver that collects picture n: its part 0 was taken, and it is not lost
pub record Collects (n : ℕ) (p : Progress) : Type 0 where
  pub wants : p.wanted.picture ≡ n
  pub begun : 1 ≤ p.wanted.part
  pub stands : is_lost p.standing ≡ false

abbrev pub still_collects : ℕ → Progress → Bool
still_collects n p = both (eqb p.wanted.picture n) (opposite (is_lost p.standing))

-- what a block ahead comes to for picture n, by its answer and how the receiver goes on
abbrev pub looked_at : ℕ → Said → Progress → Sight
looked_at n (A.picture m tick) p = pick (eqb m n) L.Finished L.Gone
looked_at n (A.taken m part) p = pick (still_collects n p) L.Collecting L.Gone
looked_at n (A.old m part) p = pick (still_collects n p) L.Collecting L.Gone
looked_at n A.lost p = pick (still_collects n p) L.Collecting L.Gone
looked_at n (A.refused numbers) p = pick (still_collects n p) L.Collecting L.Gone
