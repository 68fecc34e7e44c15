-- "How much reading can a picture cause?" (document 02, T-13): what holds of the list of reads, for any bytes and any N. Assumes nothing.
use Rattle.std.specs.Prelude.{ℕ, ◌+◌, ◌≤◌, ◌≡◌, List, [], length}
use Rattle.refusals.specs.declared.Reason.TheVariants.{Count}
use Rattle.refusals.specs.declared.Refusal.{Refusal}
use Rattle.bits.specs.Bits.{Bit}
use Rattle.bits.specs.Places.{plain, total_width}
use Rattle.bits.specs.Read.{got, refused, seen_read}
use Rattle.bits.specs.Among.{StandsAmong}
use Rattle.h261_groups.specs.declared.Format.{Format}
use Rattle.h261_description.specs.Value.{Picture}
use Rattle.h261_layers.specs.Grammar.{reading, reading_listed, read_widths}

-- the reading that the other promises speak of is the listed one, without its list
abbrev pub ListedAlike : Type 0
ListedAlike = (f : Format) (s : List ℕ) (n : ℕ) → reading f s n ≡ seen_read plain (reading_listed f s n)

-- "Show that it is at most N + 1"
abbrev pub ReadsFew : Type 0
ReadsFew = (f : Format) (s : List ℕ) (n : ℕ) → length (read_widths f s n) ≤ n + 1

-- "and that for an accepted picture the widths of the reads add up to exactly N"
abbrev pub WidthsAddUp : Type 0
WidthsAddUp = (f : Format) (s : List ℕ) (n : ℕ) (p : Picture) (left : List Bit) (at : ℕ) → reading f s n ≡ got p left at → total_width (read_widths f s n) ≡ n

-- where a refusal stands among the reads
abbrev pub RefusedAmong : Type 0
RefusedAmong = (f : Format) (s : List ℕ) (n : ℕ) (r : Refusal) → reading f s n ≡ refused r → (r.reason ≡ Count → ⊥) → StandsAmong r (read_widths f s n)

-- "Refusals 1 and 2 report 0."
abbrev pub CountUnread : Type 0
CountUnread = (f : Format) (s : List ℕ) (n : ℕ) (r : Refusal) → reading f s n ≡ refused r → r.reason ≡ Count → read_widths f s n ≡ []
