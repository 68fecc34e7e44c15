-- What the code's read of an event answers, as a read of the bits left. Assumes nothing.
use Rattle.std.specs.Prelude.{ℕ, List}
use Rattle.bits.specs.Bits.{bits_left}
use Rattle.bits.specs.Read.{Read, got, refused}
use Rattle.h263_words.specs.Words.{Event, event_of}
use Rattle.h263_words.specs.declared.EventRead.{EventRead}
use Rattle.h263_words.specs.declared.EventRead.TheVariants.{Event as EventGot, Refused}

abbrev pub as_event : List ℕ → ℕ → EventRead → Read Event
as_event s n (EventGot last run code p) = got (event_of last run code) (bits_left s n p) p
as_event s n (Refused r) = refused r
