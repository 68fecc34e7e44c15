-- What is shown between two finished pictures, a frame for each tick: the first of them, until the tick of the second; where the receiver left step in between, it stands for one tick and the
-- rest is grey, never an old picture. Assumes nothing.
use Rattle.std.specs.Prelude.{ℕ, ◌+◌, ◌-◌, Bool, false, eqb}
use Rattle.laws.specs.Choice.{pick}
use Rattle.ticks.specs.declared.Tick.{Tick}
use Rattle.ticks.specs.Tick.{tick_number}
use Rattle.standing.specs.declared.Last.{Last}
use Rattle.standing.specs.declared.Receiver.{Receiver}
use Rattle.standing.specs.declared.Standing.{Standing}
use Rattle.standing.specs.Stores.{any_finished}
use Rattle.standing.specs.declared.Standing.TheVariants as S
use Rattle.pace.specs.declared.Between.{Between}
use Rattle.pace.specs.declared.Between.TheVariants.{Repeated, Grey}

-- step was left where line 3 began the later picture: it was kept where the receiver was in step at the one before until the block that finished this one
abbrev pub kept_step : Standing → ℕ → Bool
kept_step (S.InStep k) picture = eqb picture (k + 1)
kept_step S.Catching picture = false
kept_step S.Lost picture = false

-- the ticks after the last picture's own, before this one; none before the first picture
abbrev pub ticks_between : Last → Tick → ℕ
ticks_between last tick = pick (any_finished last.holder) (tick_number tick - (tick_number last.tick + 1)) 0

-- of the receiver as it stood before the block that finished this picture
unfoldable pub frames_between : Receiver → ℕ → Tick → Between
frames_between r picture tick = pick (kept_step r.progress.standing picture) (Repeated (ticks_between r.last tick)) (Grey (ticks_between r.last tick))
