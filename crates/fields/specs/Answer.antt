-- A layer's answer as a read that counts. A layer writes the description as it reads: its answer is the place where it ended, or the refusal. Assumes nothing.
use Rattle.std.specs.Prelude.{ℕ, List, Err}
use Rattle.refusals.specs.declared.Reason.TheVariants.{BitsEnd}
use Rattle.refusals.specs.Number.{refusal}
use Rattle.refusals.specs.Told.{numbers_of, Told, accepted, refused_by, refused as unread}
use Rattle.bits.specs.Bits.{bits_left}
use Rattle.bits.specs.Places.{Places, counted, past_in, stop_in}
use Rattle.bits.specs.Read.{ReadIn, Read, got, refused, endless}
use Rattle.bits.specs.Answer.{refusal_of}
use Rattle.bits.specs.declared.Place.{Place}
use Rattle.bits.specs.declared.Stopped.{Stopped}
use Rattle.bits.specs.declared.FieldRead.{FieldRead}
use Rattle.bits.specs.declared.FieldRead.TheVariants.{Got as GotField, Refused as NoField}
use Rattle.fields.specs.declared.CountedRead.{CountedRead}
use Rattle.fields.specs.declared.CountedRead.TheVariants.{Got, Refused}
use Rattle.fields.specs.declared.PictureRead.{PictureRead}

-- the same read with another meaning
abbrev pub map_read : {P : Places} {A B : Type 0} → (A → B) → ReadIn P A → ReadIn P B
map_read g (got a bs at) = got (g a) bs at
map_read g (refused r) = refused r
map_read g endless = endless

-- what is found by reading, or the refusal. No reading is endless, so what stands there is never given
abbrev pub found : {A : Type 0} → Read A → Told A
found (got a left at) = accepted a
found (refused why) = refused_by (numbers_of why)
found endless = unread 1 0

-- ---- answers
-- this bit, after so many reads
abbrev pub place_of : ℕ → ℕ → Place
place_of bit reads = record { bit = bit; reads = reads }

-- a field or codeword, as one read from a place
abbrev pub read_once : Place → FieldRead ℕ → CountedRead ℕ
read_once at (GotField v p) = Got v (past_in counted at p)
read_once at (NoField r) = Refused (stop_in counted r (past_in counted at at.bit))

abbrev pub as_number : List ℕ → ℕ → CountedRead ℕ → ReadIn counted ℕ
as_number s n (Got v p) = got v (bits_left s n p.bit) p
as_number s n (Refused r) = refused r

-- a number, or a pair, that stands for this
abbrev pub as_meant : {A : Type 0} → (ℕ → A) → List ℕ → ℕ → CountedRead ℕ → ReadIn counted A
as_meant f s n (Got v p) = got (f v) (bits_left s n p.bit) p
as_meant f s n (Refused r) = refused r

abbrev pub as_meant_pair : {A : Type 0} → (ℕ → ℕ → A) → List ℕ → ℕ → CountedRead (ℕ × ℕ) → ReadIn counted A
as_meant_pair f s n (Got (x, y) p) = got (f x y) (bits_left s n p.bit) p
as_meant_pair f s n (Refused r) = refused r

-- a layer's answer, with what it left in the buffers; on a refusal that is not said
abbrev pub leaving : {A : Type 0} → List ℕ → ℕ → CountedRead (Unit {0}) → A → ReadIn counted A
leaving s n (Got u p) a = got a (bits_left s n p.bit) p
leaving s n (Refused r) a = refused r

-- spares as a bit reader's field
abbrev pub plain_spares : CountedRead (Unit {0}) → FieldRead ℕ
plain_spares (Got u p) = GotField 0 p.bit
plain_spares (Refused r) = NoField r.refusal

-- ---- the refusal of an answer that was refused; of another it is never asked
abbrev pub bits_end_at : Place → Stopped
bits_end_at p = stop_in counted (refusal BitsEnd p.bit) p

abbrev pub field_stopped : ℕ → FieldRead ℕ → Stopped
field_stopped reads read = record { refusal = refusal_of read; reads = reads }

abbrev pub stopped_of : {T : Type 0} → CountedRead T → Stopped
stopped_of (Got v p) = bits_end_at p
stopped_of (Refused r) = r

-- the report of a picture that was refused
abbrev pub refused_picture : Stopped → PictureRead
refused_picture r = record { verdict = Err r.refusal; reads = r.reads }
