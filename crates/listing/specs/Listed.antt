-- Document 01, "The vault lister": the clip that is listed, and what each block comes to. Assumes nothing.
use Rattle.std.specs.Prelude.{ℕ, List, ◌++◌, Option, Some, None}
use Rattle.laws.specs.Choice.{pick}
use Rattle.refusals.specs.declared.Refusal.{Refusal}
use Rattle.refusals.specs.Told.{Told, accepted, refused_by, refused}
use Rattle.size.specs.declared.Size.{Size}
use Rattle.coding.specs.declared.Kind.{Kind}
use Rattle.coding.specs.Kind.{kind_in, coding_of}
use Rattle.vault.specs.declared.Header.{Header}
use Rattle.vault.specs.Block.{of_clip, check_of}
use Rattle.standing.specs.declared.Receiver.{Receiver}
use Rattle.standing.specs.declared.Standing.{Standing}
use Rattle.standing.specs.Answered.{Said, said}
use Rattle.standing.specs.Receive.{Buffers, lent_lengths, Outcome, opened_receiver, step}
use Rattle.text.specs.Text.{decimal}
use Rattle.listing.specs.declared.Clip.{Clip}
use Rattle.listing.specs.declared.Listed.{Listed}
use Rattle.listing.specs.Lines.{end_none, end_clip, standing_text, newline}
use Rattle.standing.specs.declared.Answer.TheVariants as R
use Rattle.standing.specs.declared.Standing.TheVariants as S
use Rattle.standing.specs.Answered as A
use Rattle.listing.specs.declared.Clip.TheVariants as K

-- ---- the receiver that a block comes to
-- for a good block's clip, by what its standard has in this size: where that is nothing, as of H.261 in sub-QCIF, the block is one of the other standard, 5
abbrev pub opened_kind : ℕ → Option Kind → Told Receiver
opened_kind clip (Some kind) = opened_receiver clip kind
opened_kind clip None = refused 5 0

abbrev pub opened_by : Size → Told Header → Told Receiver
opened_by size (accepted header) = opened_kind header.clip (kind_in header.standard size)
opened_by size (refused_by numbers) = refused_by numbers

-- "takes the first block without 21 or 22 as the clip", and its standard; where a clip was asked for, the first of its own, and another's is 23
unfoldable pub found_by : Size → Clip → List ℕ → Told Receiver
found_by size K.Unknown block = opened_by size (check_of size block)
found_by size (K.Asked clip) block = opened_by size (of_clip clip (check_of size block))
found_by size (K.Known r) block = accepted r

-- ---- what a block comes to: the answer with the clip afterwards, and what is left in the lent buffers
pub record Came : Type 0 where
  pub answer : Said
  pub next : Clip
  pub left : Buffers

-- of what the code gives back and leaves
abbrev pub came : Listed → Buffers → Came
came gave left = record { answer = said gave.answer; next = gave.next; left = left }

-- the code's answer where a refusal changes nothing
abbrev pub stays : Clip → Refusal → Listed
stays clip why = record { answer = R.Refused why; next = clip }

unfoldable pub stepped : Outcome → Came
stepped o = record { answer = o.gave.answer; next = K.Known o.gave.next; left = o.left }

-- "A refusal changes no buffer and no state": no receiver is opened by it
unfoldable pub by_opened : Clip → Told Receiver → List ℕ → Buffers → Came
by_opened clip (accepted r) block b = stepped (step coding_of r block b)
by_opened clip (refused_by numbers) block b = record { answer = A.refused numbers; next = clip; left = b }

-- "Blocks: 1, 21, 22, 23", and 5: of the lent buffers' lengths 1 comes first
unfoldable pub begun : Size → Clip → List ℕ → Buffers → Came
begun size clip block b = by_opened clip (pick (lent_lengths size b) (found_by size clip block) (refused 1 0)) block b

unfoldable pub listed : Size → Clip → List ℕ → Buffers → Came
listed size K.Unknown block b = begun size K.Unknown block b
listed size (K.Asked clip) block b = begun size (K.Asked clip) block b
listed size (K.Known r) block b = stepped (step coding_of r block b)

-- ---- the clip that a block chose, where none was asked for or known before it; 0, which no clip has, where it chose none
abbrev pub known_number : Clip → ℕ
known_number K.Unknown = 0
known_number (K.Asked clip) = 0
known_number (K.Known r) = r.clip

abbrev pub chosen_clip : Clip → Clip → ℕ
chosen_clip K.Unknown after = known_number after
chosen_clip (K.Asked clip) after = 0
chosen_clip (K.Known r) after = 0

-- ---- the end: "end clip 7 in step at 0", "end clip 7 lost", "end clip 7 catching", "end none"
unfoldable pub end_of : ℕ → Standing → List ℕ
end_of clip standing = end_clip ++ decimal clip ++ standing_text standing ++ newline

-- a receiver "starts lost"
unfoldable pub end_text : Clip → List ℕ
end_text K.Unknown = end_none ++ newline
end_text (K.Asked clip) = end_of clip S.Lost
end_text (K.Known r) = end_of r.clip r.progress.standing
