-- Document 02, T-02: the tick of a finished picture. "From now the first finished picture has tick equal to its TR. Each next consecutive one adds the TR difference modulo 32, where 0
-- counts as 32. Where numbers were skipped the tick is the least one above the last finished picture's with the new TR (modulo 32), and it and all later ticks are estimated."
-- Over any modulus: it is a number of the coding. Assumes nothing.
use Rattle.std.specs.Prelude.{◌≡◌, Bool, true, false, ℕ, ◌+◌, ◌-◌, ◌%◌, ◌≤◌, ◌<◌, eqb, ltb}
use Rattle.laws.specs.Choice.{pick, both}
use Rattle.ticks.specs.declared.Tick.{Tick}
use Rattle.ticks.specs.declared.Tick.TheVariants.{Exact, Estimated}

-- ---- a tick is exact or estimated
abbrev pub tick_number : Tick → ℕ
tick_number (Exact n) = n
tick_number (Estimated n) = n

abbrev pub is_exact : Tick → Bool
is_exact (Exact n) = true
is_exact (Estimated n) = false

abbrev pub tick_as : Bool → ℕ → Tick
tick_as true n = Exact n
tick_as false n = Estimated n

-- ---- the rule, one for both: each tick has its picture's TR, so that the TR difference leads from the last tick to the least one above it with the new TR (`TickIsLeast`, `TickAddsDifference`)
-- "the TR difference modulo 32, where 0 counts as 32"
abbrev pub counted_difference : ℕ → ℕ → ℕ
counted_difference m d = pick (eqb d 0) m d

unfoldable pub tr_difference : ℕ → ℕ → ℕ → ℕ
tr_difference m before tr = counted_difference m ((tr + (m - before % m)) % m)

unfoldable pub tick_above : ℕ → ℕ → ℕ → ℕ
tick_above m last tr = last + tr_difference m last tr

-- ticks have 32 bits: one that would pass the greatest is the greatest. No opening leads there
abbrev pub greatest_tick : ℕ
greatest_tick = 4294967295

abbrev pub cut_tick : ℕ → ℕ
cut_tick n = pick (ltb n greatest_tick) n greatest_tick

-- ---- whether it is exact
-- "A clip whose first finished picture is picture 0 starts exact, any other estimated."
abbrev pub first_tick : ℕ → ℕ → Tick
first_tick picture tr = tick_as (eqb picture 0) tr

-- "Where numbers were skipped .. it and all later ticks are estimated": after the picture of this number with this tick
unfoldable pub later_tick : ℕ → ℕ → Tick → ℕ → ℕ → Tick
later_tick m before last picture tr = tick_as (both (is_exact last) (eqb picture (before + 1))) (cut_tick (tick_above m (tick_number last) tr))

-- ---- that both rules are one
-- "the least one above the last finished picture's with the new TR (modulo 32)"
pub record LeastAbove (m last tr tick : ℕ) : Type 0 where
  pub above : last < tick
  pub has_tr : tick % m ≡ tr % m
  pub least : (other : ℕ) → last < other → other % m ≡ tr % m → tick ≤ other

abbrev pub TickIsLeast : Type 0
TickIsLeast = (m last tr : ℕ) → 1 ≤ m → LeastAbove m last tr (tick_above m last tr)

-- "Each next consecutive one adds the TR difference": where the last tick has the last picture's TR
abbrev pub TickAddsDifference : Type 0
TickAddsDifference = (m last before tr : ℕ) → last % m ≡ before % m → tick_above m last tr ≡ last + tr_difference m before tr
