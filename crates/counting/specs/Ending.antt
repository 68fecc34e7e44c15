-- Document 02, T-13: which blocks of a vault end a picture, "a last part was taken and read", and of how many bits. Assumes nothing.
use Rattle.std.specs.Prelude.{ℕ, List, Option, Some, None}
use Rattle.laws.specs.Choice.{pick}
use Rattle.refusals.specs.Told.{Told, accepted, refused_by}
use Rattle.size.specs.declared.Size.{Size}
use Rattle.layout.specs.Flat.{Flat}
use Rattle.coding.specs.Kind.{coding_of}
use Rattle.vault.specs.declared.Header.{Header}
use Rattle.standing.specs.declared.Line.{Line}
use Rattle.standing.specs.declared.Line.TheVariants.{Earlier, Next, Anew, Otherwise}
use Rattle.standing.specs.declared.Receiver.{Receiver}
use Rattle.standing.specs.Receive.{Event, refusing, old, taken, lost, failed, finished, count_of, Buffers, decide}
use Rattle.listing.specs.declared.Clip.{Clip}
use Rattle.listing.specs.Listed.{found_by}

-- a picture was read exactly where it failed or was finished
abbrev pub ended_after : Event Flat → Option ℕ
ended_after (refusing numbers) = None
ended_after (old header) = None
ended_after (taken header standing) = None
ended_after lost = None
ended_after (failed header numbers) = Some (count_of header)
ended_after (finished header d) = Some (count_of header)

-- of a block that comes to this receiver, or to none
abbrev pub ended_opened : Told Receiver → List ℕ → Buffers → Option ℕ
ended_opened (accepted r) block b = ended_after (decide coding_of r block b)
ended_opened (refused_by numbers) block b = None

abbrev pub ended_in : Size → Clip → List ℕ → Buffers → Option ℕ
ended_in size clip block b = ended_opened (found_by size clip block) block b

-- ---- the same without reading: by the header of a block that is taken, and by its line
abbrev pub ended_with : Header → Option ℕ
ended_with header = pick header.last (Some (count_of header)) None

abbrev pub ended_by : Line → Header → Option ℕ
ended_by Earlier header = None
ended_by Next header = ended_with header
ended_by Anew header = ended_with header
ended_by Otherwise header = None
