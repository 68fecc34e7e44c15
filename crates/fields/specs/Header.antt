-- What the reads of a header come to, as any answer that may be a refusal: each field in turn, refused, or against its rule, or got; then what comes of it. Assumes nothing.
use Rattle.std.specs.Prelude.{ℕ, ◌+◌, ◌<◌}
use Rattle.refusals.specs.Number.{refusal}
use Rattle.bits.specs.Places.{counted, stop_in}
use Rattle.bits.specs.Read.{Judged, fine, against}
use Rattle.bits.specs.declared.Place.{Place}
use Rattle.bits.specs.declared.Stopped.{Stopped}
use Rattle.bits.specs.declared.FieldRead.{FieldRead}
use Rattle.bits.specs.declared.FieldRead.TheVariants.{Got as GotField, Refused as NoField}
use Rattle.fields.specs.Answer.{place_of}
use Rattle.fields.specs.declared.CountedRead.{CountedRead}
use Rattle.fields.specs.declared.CountedRead.TheVariants.{Got, Refused}

-- a field that was got is below m
abbrev pub Below : ℕ → FieldRead ℕ → Type 0
Below m (GotField x p) = x < m
Below m (NoField r) = Unit {0}

-- a field after so many reads: its refusal, one read more; else what comes of its meaning and its next place
abbrev pub and_then : {A : Type 0} → (Stopped → A) → ℕ → FieldRead ℕ → (ℕ → Place → A) → A
and_then stopped reads (GotField x p) rest = rest x (place_of p (reads + 1))
and_then stopped reads (NoField r) rest = stopped (record { refusal = r; reads = reads + 1 })

-- the refusal of a field against its rule, placed where it began, else what comes of its meaning
abbrev pub ruled : {A : Type 0} → (Stopped → A) → Judged ℕ → ℕ → Place → (ℕ → A) → A
ruled stopped (fine x) at next rest = rest x
ruled stopped (against reason) at next rest = stopped (stop_in counted (refusal reason at) next)

-- what comes of the spares
abbrev pub after_spare : {A : Type 0} → (Stopped → A) → CountedRead (Unit {0}) → (Place → A) → A
after_spare stopped (Got u p) rest = rest p
after_spare stopped (Refused r) rest = stopped r
