-- Document 02, T-09: "write a new clip under a given number: keep exactly the pictures a fresh receiver finishes in step, renumber them from 0 without gaps, and set the checks anew." Assumes nothing.
use Rattle.std.specs.Prelude.{List, [], ◌∷◌, ◌++◌, ℕ, ◌/◌, length, replicate}
use Rattle.laws.specs.Choice.{pick}
use Rattle.size.specs.declared.Size.{Size}
use Rattle.size.specs.Size.{store_length, collection_length}
use Rattle.coding.specs.declared.Kind.{Kind}
use Rattle.coding.specs.Coding.{Coding}
use Rattle.coding.specs.Kind.{kind_size}
use Rattle.vault.specs.Renewed.{renewed_block}
use Rattle.sender.specs.Run.{cut}
use Rattle.standing.specs.Answered.{Said}
use Rattle.standing.specs.Receive.{Buffers, buffers, fresh_receiver}
use Rattle.standing.specs.Run.{World, answers}
use Rattle.salvaging.specs.Kept.{new_number, finished_later, goes_on}

-- ---- a list of blocks, in one lent slice
abbrev pub listed : List ℕ → List (List ℕ)
listed list = cut (length list / 512) list

-- blocks one after another
unfoldable pub joined : List (List ℕ) → List ℕ
joined [] = []
joined (block ∷ blocks) = block ++ joined blocks

-- ---- "a fresh receiver": its buffers are zeros. What it answers doesn't depend on them (`AnswersAlike`)
abbrev pub blank_buffers : Size → Buffers
blank_buffers size = buffers (replicate (collection_length size) 0) (replicate (store_length size) 0) (replicate (store_length size) 0)

abbrev pub fresh_world : ℕ → Kind → World
fresh_world clip kind = record { receiver = fresh_receiver clip kind; lent = blank_buffers (kind_size kind) }

abbrev pub answers_to : {D : Type 0} → (Kind → Coding D) → ℕ → Kind → List (List ℕ) → List Said
answers_to coding clip kind blocks = answers coding (fresh_world clip kind) blocks

-- ---- the new clip's blocks
-- what a block becomes, between blocks that were answered so
abbrev pub written_for : ℕ → List Said → Said → List Said → List ℕ → List (List ℕ)
written_for clip before answer after block = pick (goes_on answer (finished_later answer after)) (renewed_block clip (new_number before) block ∷ []) []

-- of these blocks, which were answered so, after those before
unfoldable pub clip_from : ℕ → List Said → List Said → List (List ℕ) → List (List ℕ)
clip_from clip before [] blocks = []
clip_from clip before (answer ∷ after) [] = []
clip_from clip before (answer ∷ after) (block ∷ blocks) = written_for clip before answer after block ++ clip_from clip (before ++ (answer ∷ [])) after blocks
