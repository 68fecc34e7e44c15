-- Document 02, T-09: "A sender's clip, whole and in order, comes back with its pictures unchanged." And salvaging a second time changes nothing. Assumes nothing.
use Rattle.std.specs.Prelude.{◌≡◌, true, List, [], ◌∷◌, ℕ, ◌≤◌, length}
use Rattle.coding.specs.declared.Kind.{Kind}
use Rattle.coding.specs.Coding.{Coding}
use Rattle.coding.specs.Kind.{kind_size, coding_of, AllLawful}
use Rattle.standing.specs.Receive.{Buffers, lent_lengths}
use Rattle.salvaging.specs.Log.{LogEntry, kept, skipped, dropped}
use Rattle.salvaging.specs.Clip.{listed, joined}
use Rattle.salvaging.specs.Salvage.{salvage_from}
use Rattle.demand3.specs.Clip.{Picture, Clip, blocks_in, pictures_in}
use Rattle.salvaged.specs.Replayed.{AllReadBits, opened_world, stores_shown}

-- a log with kept pictures alone, under their own numbers: nothing was skipped and nothing dropped
abbrev pub KeptAlone : List LogEntry → Type 0
KeptAlone [] = Unit {0}
KeptAlone (kept block old new ∷ rest) = (old ≡ new) × KeptAlone rest
KeptAlone (skipped block first last ∷ rest) = ⊥
KeptAlone (dropped block answer ∷ rest) = ⊥

module _ {D : Type 0} (coding : Kind → Coding D) where
  -- ---- the new clip, salvaged again under its number
  pub record SameAgain (kind : Kind) (old new : ℕ) (blocks : List (List ℕ)) : Type 0 where
    pub clip_same : (salvage_from coding kind new new (salvage_from coding kind old new blocks).clip).clip ≡ (salvage_from coding kind old new blocks).clip
    pub pictures_same : (salvage_from coding kind new new (salvage_from coding kind old new blocks).clip).pictures ≡ (salvage_from coding kind old new blocks).pictures
    pub log_alone : KeptAlone (salvage_from coding kind new new (salvage_from coding kind old new blocks).clip).log
    -- the bytes that `salvage` leaves are the clip's blocks
    pub bytes_are : listed (joined (salvage_from coding kind old new blocks).clip) ≡ (salvage_from coding kind old new blocks).clip

  abbrev pub SecondAlike : Type 0
  SecondAlike = (kind : Kind) (old new : ℕ) (blocks : List (List ℕ)) → 1 ≤ new → SameAgain kind old new blocks

  -- ---- a sender's clip
  -- the sender's stores
  abbrev pub stores_sent : List (Picture D) → List (List ℕ)
  stores_sent [] = []
  stores_sent (x ∷ xs) = x.store ∷ stores_sent xs

  pub record ComesBack (c : Clip D) (new : ℕ) (lent : Buffers) : Type 0 where
    pub pictures_all : (salvage_from coding c.kind c.number new (blocks_in coding c)).pictures ≡ length (pictures_in coding c)
    pub log_alone : KeptAlone (salvage_from coding c.kind c.number new (blocks_in coding c)).log
    pub blocks_all : length (salvage_from coding c.kind c.number new (blocks_in coding c)).clip ≡ length (blocks_in coding c)
    -- what a fresh receiver of the new clip shows of its pictures are the sender's stores
    pub stores_same : stores_shown coding (opened_world new c.kind lent) (salvage_from coding c.kind c.number new (blocks_in coding c)).clip ≡ stores_sent (pictures_in coding c)

  pub record WholeComesBack (c : Clip D) : Type 0 where
    -- under any number
    pub back : (new : ℕ) → 1 ≤ new → (lent : Buffers) → lent_lengths (kind_size c.kind) lent ≡ true → ComesBack c new lent
    -- "under its own number with the same bytes"
    pub same_bytes : (salvage_from coding c.kind c.number c.number (blocks_in coding c)).clip ≡ blocks_in coding c

-- ---- the theorems
abbrev pub SecondAlikeAlways : Type 1
SecondAlikeAlways = (D : Type 0) (coding : Kind → Coding D) → AllLawful coding → AllReadBits coding → SecondAlike coding

abbrev pub WholeComesBackAlways : Type 1
WholeComesBackAlways = (D : Type 0) (coding : Kind → Coding D) → AllLawful coding → AllReadBits coding → (c : Clip D) → WholeComesBack coding c

-- and so of ours
abbrev pub SecondAlikeMet : Type 0
SecondAlikeMet = SecondAlike coding_of
