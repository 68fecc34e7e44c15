-- What a place is. A place is the number of a bit; beside it may be kept how many reads were made before it, or the width of each of them.
-- A read is one field or one codeword. Document 02, T-13: "The number equals the length of the list of reads that the rules give for those bits, also up to a refusal. The failed read counts as one". Assumes nothing.
use Rattle.std.specs.Prelude.{ℕ, ◌+◌, ◌-◌, List, [], ◌∷◌, ◌++◌, length}
use Rattle.refusals.specs.declared.Refusal.{Refusal}
use Rattle.bits.specs.declared.Place.{Place}
use Rattle.bits.specs.declared.Stopped.{Stopped}

-- the bit alone; with the number of reads; with the list of reads
pub data Places : Type 0 where
  plain : Places
  counted : Places
  listed : Places

-- a place with the widths of the reads before it, the first read first
pub record ListedPlace : Type 0 where
  pub bit : ℕ
  pub widths : List ℕ

-- a refusal with the widths of the reads up to it
pub record ListedRefusal : Type 0 where
  pub refusal : Refusal
  pub widths : List ℕ

abbrev pub PlaceIn : Places → Type 0
PlaceIn plain = ℕ
PlaceIn counted = Place
PlaceIn listed = ListedPlace

abbrev pub RefusedIn : Places → Type 0
RefusedIn plain = Refusal
RefusedIn counted = Stopped
RefusedIn listed = ListedRefusal

-- the number of the bit there
abbrev pub bit_in : (P : Places) → PlaceIn P → ℕ
bit_in plain p = p
bit_in counted p = p.bit
bit_in listed p = p.bit

-- where one read from there ends: at the bit of this number
abbrev pub past_in : (P : Places) → PlaceIn P → ℕ → PlaceIn P
past_in plain p end = end
past_in counted p end = record { bit = end; reads = p.reads + 1 }
past_in listed p end = record { bit = end; widths = p.widths ++ ((end - p.bit) ∷ []) }

-- a refusal, and where reading had come to
abbrev pub stop_in : (P : Places) → Refusal → PlaceIn P → RefusedIn P
stop_in plain r p = r
stop_in counted r p = record { refusal = r; reads = p.reads }
stop_in listed r p = record { refusal = r; widths = p.widths }

-- ---- what is seen of a listed place: the bit, or the bit and the number of reads
abbrev pub seen_place : (P : Places) → ListedPlace → PlaceIn P
seen_place plain p = p.bit
seen_place counted p = record { bit = p.bit; reads = length p.widths }
seen_place listed p = p

abbrev pub seen_refusal : (P : Places) → ListedRefusal → RefusedIn P
seen_refusal plain r = r.refusal
seen_refusal counted r = record { refusal = r.refusal; reads = length r.widths }
seen_refusal listed r = r

-- where no read has been made
abbrev pub unread_place : ListedPlace
unread_place = record { bit = 0; widths = [] }

-- the bits of some reads
unfoldable pub total_width : List ℕ → ℕ
total_width [] = 0
total_width (w ∷ ws) = w + total_width ws
