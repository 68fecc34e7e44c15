-- The two stores after a picture that may have been refused. Assumes nothing.
use Rattle.std.specs.Prelude.{ℕ, List}
use Rattle.refusals.specs.Told.{Told, accepted, refused_by}
use Rattle.standing.specs.declared.Holder.{Holder}
use Rattle.standing.specs.Stores.{Stores, stores_with}

-- a finished picture in its store; "no sample store changes by" a refusal
unfoldable pub stores_or : Holder → Stores → Told (List ℕ) → Stores
stores_or holder s (accepted picture) = stores_with holder picture s
stores_or holder s (refused_by numbers) = s
