-- `capture::counted` meets its contract: by what came.
use mathlib.Core.Path.{sym, ap}
use native.Mathlib.Omega.{arith}
use Rattle.capture.specs.Step.{tally_after, places_after}
use Rattle.capture.specs.declared.Came.{Came}
use Rattle.capture.proofs.counted.Goals as goal

pub overflow_add-result : goal.overflow_add-result
overflow_add-result c = omega (arith, c.requires.1 c.in-Data.is)

pub returns-in-Data : goal.returns-in-Data
returns-in-Data c =
    let a = c.args in
    record { value = sym (ap (λ (k : Came). tally_after k a.tally) c.in-Data.is); places_after = sym (ap (λ (k : Came). places_after k a.at a.tally a.places.now) c.in-Data.is) }

pub returns-in-Unmended : goal.returns-in-Unmended
returns-in-Unmended c =
    let a = c.args in
    record { value = sym (ap (λ (k : Came). tally_after k a.tally) c.in-Unmended.is); places_after = sym (ap (λ (k : Came). places_after k a.at a.tally a.places.now) c.in-Unmended.is) }
