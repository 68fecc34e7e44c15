-- What the code's read of a coefficient answers, as a read of the bits left. Assumes nothing.
use Rattle.std.specs.Prelude.{ℕ, List}
use Rattle.bits.specs.Bits.{bits_left}
use Rattle.bits.specs.Read.{Read, got, refused}
use Rattle.h261_words.specs.Words.{Event, sent, over}
use Rattle.layout.specs.Value.{coefficient}
use Rattle.h261_words.specs.declared.CoefficientRead.{CoefficientRead}
use Rattle.h261_words.specs.declared.CoefficientRead.TheVariants.{Coefficient, EndOfBlock, Refused}

abbrev pub as_coefficient : List ℕ → ℕ → CoefficientRead → Read Event
as_coefficient s n (Coefficient run code p) = got (sent (coefficient run code)) (bits_left s n p) p
as_coefficient s n (EndOfBlock p) = got over (bits_left s n p) p
as_coefficient s n (Refused r) = refused r
