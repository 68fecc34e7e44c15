-- "How much reading can a picture cause?" (document 02, T-13): what holds of the list of reads of a picture of H.263, for any bytes and any N. Assumes nothing.
use Rattle.std.specs.Prelude.{ℕ, ◌+◌, ◌≤◌, ◌≡◌, ◌⊎◌, List, [], eqb, length}
use Rattle.refusals.specs.declared.Reason.TheVariants.{Count}
use Rattle.refusals.specs.declared.Refusal.{Refusal}
use Rattle.refusals.specs.Number.{number}
use Rattle.bits.specs.Bits.{Bit}
use Rattle.bits.specs.Places.{plain, total_width}
use Rattle.bits.specs.Read.{got, refused, seen_read}
use Rattle.bits.specs.Among.{StandsAmong}
use Rattle.size.specs.declared.Size.{Size}
use Rattle.layout.specs.Proper.{If}
use Rattle.h263_description.specs.Value.{Picture}
use Rattle.h263_layers.specs.Among.{InPtype, PastReads}
use Rattle.h263_layers.specs.Grammar.{reading, reading_listed, read_widths}

-- the reading that the other promises speak of is the listed one, without its list
abbrev pub ListedAlike : Type 0
ListedAlike = (size : Size) (s : List ℕ) (n : ℕ) → reading size s n ≡ seen_read plain (reading_listed size s n)

-- "Show that it is at most N + 1"
abbrev pub ReadsFew : Type 0
ReadsFew = (size : Size) (s : List ℕ) (n : ℕ) → length (read_widths size s n) ≤ n + 1

-- "and that for an accepted picture the widths of the reads add up to exactly N"
abbrev pub WidthsAddUp : Type 0
WidthsAddUp = (size : Size) (s : List ℕ) (n : ℕ) (p : Picture) (left : List Bit) (at : ℕ) → reading size s n ≡ got p left at → total_width (read_widths size s n) ≡ n

-- 13 stands after all reads; any other refusal where one begins, or, 14 at a PTYPE bit, inside the last
abbrev pub AmongReads : Refusal → List ℕ → Type 0
AmongReads r widths = If (eqb (number r.reason) 13) (PastReads r widths) (StandsAmong r widths ⊎ InPtype r widths)

abbrev pub RefusedAmong : Type 0
RefusedAmong = (size : Size) (s : List ℕ) (n : ℕ) (r : Refusal) → reading size s n ≡ refused r → (r.reason ≡ Count → ⊥) → AmongReads r (read_widths size s n)

-- "Refusals 1 and 2 report 0."
abbrev pub CountUnread : Type 0
CountUnread = (size : Size) (s : List ℕ) (n : ℕ) (r : Refusal) → reading size s n ≡ refused r → r.reason ≡ Count → read_widths size s n ≡ []
