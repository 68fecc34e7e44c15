-- What one frame gives: the step that both `replay` and the program over a stream take. Assumes nothing.
use Rattle.std.specs.Prelude.{◌≡◌, Option, Some, None, List, [], ◌∷◌, ℕ, ◌+◌, ◌*◌, ◌≤◌, ◌<◌, length, set, take}
use Rattle.bits.specs.Bits.{bit0, bit1, bits_from}
use Rattle.bits.specs.Write.{bytes_with}
use Rattle.bch.specs.Code.{Outcome, mended, unmended, corrected}
use Rattle.bch.specs.Frame.{byte_steps}
use Rattle.capture.specs.Capture.{LockPlace, lock_at, no_lock}
use Rattle.capture.specs.declared.Came.{Came}
use Rattle.capture.specs.declared.Came.TheVariants.{Data, Fill, Unmended}
use Rattle.capture.specs.declared.Tally.{Tally}

abbrev pub as_lock : Option ℕ → LockPlace
as_lock (Some p) = lock_at p
as_lock None = no_lock

-- a whole frame at a place of the capture, and room for its data bits at a place of the output
pub record Steppable (steps capture : List ℕ) (at : ℕ) (out : List ℕ) (to : ℕ) : Type 0 where
  pub table : steps ≡ byte_steps
  pub whole : at + 512 ≤ 8 * length capture
  pub room : to + 492 ≤ 8 * length out
  pub end_fits : at + 512 < 18446744073709551616
  pub last_fits : to + 492 < 18446744073709551616

-- the mended word of the frame at a place
abbrev pub outcome_at : List ℕ → ℕ → Outcome
outcome_at capture at = corrected (bits_from capture (at + 1) 511)

abbrev pub came_of : Outcome → Came
came_of (mended []) = Fill
came_of (mended (bit0 ∷ w)) = Fill
came_of (mended (bit1 ∷ w)) = Data
came_of unmended = Unmended

abbrev pub out_after : List ℕ → ℕ → Outcome → List ℕ
out_after out to (mended []) = out
out_after out to (mended (bit0 ∷ w)) = out
out_after out to (mended (bit1 ∷ w)) = bytes_with out to (take 492 w)
out_after out to unmended = out

-- ---- what a frame adds to the tally, and to the list of places
abbrev pub tally_after : Came → Tally → Tally
tally_after Data t = record { bits = t.bits + 492; places = t.places }
tally_after Fill t = t
tally_after Unmended t = record { bits = t.bits; places = t.places + 1 }

abbrev pub places_after : Came → ℕ → Tally → List ℕ → List ℕ
places_after Data at t places = places
places_after Fill at t places = places
places_after Unmended at t places = set places t.places at
