-- Document 01: "Its due time in seconds is 1001 times the tick, over 30000, in f64: one division, rounded once, of two exactly converted whole numbers." Document 02, T-02: "So a due time is
-- either exact seconds or estimated seconds." Assumes nothing.
use Rattle.std.specs.Prelude.{◌≡◌, false, ℕ, ◌*◌, ◌^◌, ◌<◌, pos, Float}
use Rattle.std.specs.Float.{binary64}
use Rattle.std.specs.Float.Ieee.{div, round, of_int, of_bits}
use Rattle.std.specs.Float.Ieee.Exact.{HasValue}
use Rattle.ticks.specs.declared.Tick.{Tick}
use Rattle.ticks.specs.declared.DueTime.{DueTime}
use Rattle.ticks.specs.declared.Tick.TheVariants as T
use Rattle.ticks.specs.declared.DueTime.TheVariants as D

-- a whole number `as f64`
unfoldable pub converted : ℕ → Float
converted n = of_int binary64 (pos n)

unfoldable pub seconds_of : ℕ → Float
unfolding converted
seconds_of tick = div binary64 (converted (1001 * tick)) (converted 30000)

-- "either exact seconds or estimated seconds", as the tick is
abbrev pub due_of : Tick → DueTime
due_of (T.Exact tick) = D.Exact (seconds_of tick)
due_of (T.Estimated tick) = D.Estimated (seconds_of tick)

-- "exactly converted": the f64 is finite, not negative, and n over 1 in size
abbrev pub Exactly : ℕ → Type 0
Exactly n = HasValue (converted n) false n 1

-- "two exactly converted whole numbers", whichever u32 the tick is
abbrev pub ConvertedExactly : Type 0
ConvertedExactly = ((tick : ℕ) → tick < 2 ^ 32 → Exactly (1001 * tick)) × Exactly 30000

-- "one division, rounded once": the f64 that is nearest to 1001 times the tick over 30000
abbrev pub RoundedOnce : Type 0
RoundedOnce = (tick : ℕ) → tick < 2 ^ 32 → seconds_of tick ≡ round binary64 false (1001 * tick) 30000

-- "Tick 3750 gives exactly 125.125.", whose bits are 405f480000000000 (hex)
abbrev pub Due3750 : Type 0
Due3750 = seconds_of 3750 ≡ of_bits binary64 0x405f_4800_0000_0000
