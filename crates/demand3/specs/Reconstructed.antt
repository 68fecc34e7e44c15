-- "the sender's store is demand 2's reconstruction of what it was given": after each picture it is what the bits in that picture's blocks decode to, over the store after the
-- picture before. Assumes nothing.
use Rattle.std.specs.Prelude.{◌≡◌, List, [], ◌∷◌, ◌++◌, ℕ, ◌+◌, length}
use Rattle.std.proofs.Math.Option.{some}
use Rattle.std.proofs.Math.ListN.{get_elem?}
use Rattle.refusals.specs.Told.{accepted}
use Rattle.size.specs.Size.{store_length}
use Rattle.layout.specs.Flat.{Flat}
use Rattle.coding.specs.declared.Kind.{Kind}
use Rattle.coding.specs.Coding.{Coding}
use Rattle.coding.specs.Kind.{kind_size, coding_of, AllLawful}
use Rattle.vault.specs.Block.{header_of, payload_of}
use Rattle.standing.specs.Receive.{count_of}
use Rattle.decoder.specs.Decoded.{drawn_by, decoded}
use Rattle.demand3.specs.Clip.{Picture, Clip, pictures_in}

-- ---- the bits in a picture's blocks: the first N of their payloads, one after another
unfoldable pub payloads : List (List ℕ) → List ℕ
payloads [] = []
payloads (block ∷ blocks) = payload_of block ++ payloads blocks

-- N, by the part and the used bits of the last one
unfoldable pub count_in : List (List ℕ) → ℕ
count_in [] = 0
count_in (block ∷ []) = count_of (header_of block)
count_in (block ∷ (next ∷ blocks)) = count_in (next ∷ blocks)

-- ---- of any coding: they are read as a description, and the sender's store after the picture is that description drawn over this reference
abbrev pub DrawnOver : {D : Type 0} → Coding D → List ℕ → Picture D → Type 0
DrawnOver coding reference x = drawn_by coding reference (coding.read (payloads x.blocks) (count_in x.blocks)) ≡ accepted x.store

pub record Reconstructed {D : Type 0} (coding : Kind → Coding D) (c : Clip D) : Type 0 where
  -- picture 0 is a refresh: over any reference
  pub first : (x : Picture D) → get_elem? (pictures_in coding c) 0 ≡ some x → (reference : List ℕ) → DrawnOver (coding c.kind) reference x
  -- each next one: over the sender's store after the one before
  pub next : (k : ℕ) (before x : Picture D) → get_elem? (pictures_in coding c) k ≡ some before → get_elem? (pictures_in coding c) (k + 1) ≡ some x
      → DrawnOver (coding c.kind) before.store x

abbrev pub StoresReconstructed : Type 1
StoresReconstructed = (D : Type 0) (coding : Kind → Coding D) → AllLawful coding → (c : Clip D) → Reconstructed coding c

-- ---- of ours: what `decode` promises to make of them (`decoded`), with stores of their named length
abbrev pub DecodedOver : Kind → List ℕ → Picture Flat → Type 0
DecodedOver k reference x = decoded k (payloads x.blocks) (count_in x.blocks) reference (store_length (kind_size k)) ≡ accepted x.store

pub record AsDecoded (c : Clip Flat) : Type 0 where
  pub first : (x : Picture Flat) → get_elem? (pictures_in coding_of c) 0 ≡ some x → (reference : List ℕ) → length reference ≡ store_length (kind_size c.kind) → DecodedOver c.kind reference x
  pub next : (k : ℕ) (before x : Picture Flat) → get_elem? (pictures_in coding_of c) k ≡ some before → get_elem? (pictures_in coding_of c) (k + 1) ≡ some x
      → DecodedOver c.kind before.store x

abbrev pub StoresDecoded : Type 0
StoresDecoded = (c : Clip Flat) → AsDecoded c
