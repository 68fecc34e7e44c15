-- Salvages that the promises rule out: each of any program that is so. Assumes nothing.
use Rattle.std.specs.Prelude.{◌≡◌, true, ℕ, length}
use mathlib.Core.List.{List, [], Memᴰ}
use Rattle.laws.specs.Choice.{one_of}
use Rattle.refusals.specs.Told.{accepted}
use Rattle.coding.specs.declared.Kind.{Kind}
use Rattle.coding.specs.Coding.{Coding}
use Rattle.coding.specs.Kind.{kind_size, kind_standard}
use Rattle.vault.specs.declared.Header.{Header}
use Rattle.vault.specs.Block.{judge_of}
use Rattle.salvaging.specs.Salvage.{Salvage, salvage_from}
use Rattle.salvaged.specs.Told.{numbers_from, dropped_in, old_numbers, new_numbers, AllTold}

-- a program, whichever: over any coding, what it makes of blocks, the old clip's number and the new one
abbrev pub Program : Type 1
Program = (D : Type 0) → (Kind → Coding D) → Kind → ℕ → ℕ → List (List ℕ) → Salvage

-- what is promised of ours (`LogTellsAll`)
abbrev pub TellsAll : Program → Type 1
TellsAll salvage = (D : Type 0) (coding : Kind → Coding D) (kind : Kind) (old new : ℕ) (blocks : List (List ℕ)) → AllTold coding kind old new blocks (salvage D coding kind old new blocks)

-- ---- wrong: "one that keeps a picture that was never shown": each that a good block of the list is the whole of, also one that came too late
abbrev pub KeepsUnshown : Program → Type 1
KeepsUnshown salvage = (D : Type 0) (coding : Kind → Coding D) (kind : Kind) (old new : ℕ) (blocks : List (List ℕ)) (block : List ℕ) (header : Header) → Memᴰ block blocks
    → judge_of (kind_size kind) (kind_standard kind) old block ≡ accepted header → header.part ≡ 0 → header.last ≡ true → one_of (old_numbers (salvage D coding kind old new blocks).log) header.picture ≡ true

abbrev pub KeepsUnshownWrong : Type 1
KeepsUnshownWrong = (salvage : Program) → KeepsUnshown salvage → TellsAll salvage → ⊥

-- ---- wrong: "one that leaves a gap in the numbers": each picture keeps its own
abbrev pub LeavesGaps : Program → Type 1
LeavesGaps salvage = (D : Type 0) (coding : Kind → Coding D) (kind : Kind) (old new : ℕ) (blocks : List (List ℕ))
    → new_numbers (salvage D coding kind old new blocks).log ≡ old_numbers (salvage D coding kind old new blocks).log

abbrev pub LeavesGapsWrong : Type 1
LeavesGapsWrong = (salvage : Program) → LeavesGaps salvage → TellsAll salvage → ⊥

-- ---- wrong: "one that drops a picture it could keep": all after the first hole
abbrev pub StopsAtHole : Program → Type 1
StopsAtHole salvage = (D : Type 0) (coding : Kind → Coding D) (kind : Kind) (old new : ℕ) (blocks : List (List ℕ))
    → (let kept = old_numbers (salvage D coding kind old new blocks).log in kept ≡ numbers_from (length kept) 0)

abbrev pub StopsAtHoleWrong : Type 1
StopsAtHoleWrong = (salvage : Program) → StopsAtHole salvage → TellsAll salvage → ⊥

-- ---- wrong: "one that says nothing of a dropped block": ours, but for the log
pub record Silent (salvage : Program) : Type 1 where
  pub clip_is : (D : Type 0) (coding : Kind → Coding D) (kind : Kind) (old new : ℕ) (blocks : List (List ℕ)) → (salvage D coding kind old new blocks).clip ≡ (salvage_from coding kind old new blocks).clip
  pub says_none : (D : Type 0) (coding : Kind → Coding D) (kind : Kind) (old new : ℕ) (blocks : List (List ℕ)) → dropped_in (salvage D coding kind old new blocks).log ≡ []

abbrev pub SilentWrong : Type 1
SilentWrong = (salvage : Program) → Silent salvage → TellsAll salvage → ⊥
