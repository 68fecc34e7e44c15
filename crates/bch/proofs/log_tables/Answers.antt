-- `bch::log_tables` meets its contract: antt computes the definitions.
use mathlib.Core.Path.{refl}
use Rattle.laws.specs.Row.{row}
use Rattle.bch.specs.Division.{up}
use Rattle.bch.specs.Locate.{powers_from, places_of, first_powers, second_powers, first_logs, second_logs, step, lags, gaps, starts}
use Rattle.bch.specs.Frame.{log_tables}
use Rattle.bch.proofs.log_tables.Goals as goal

pub returns : goal.returns
unfolding log_tables first_powers second_powers first_logs second_logs step lags gaps starts row powers_from places_of up
returns c = refl
