-- What a codeword of H.261 is asked for. Assumes nothing.
use Rattle.std.specs.Prelude.{List, ℕ, ◌≤◌}
use Rattle.h261_words.specs.Lookup.{Tables}

-- a meaning that has a codeword: 1 to `most`
pub record MeaningAsked (t : List ℕ) (most meaning : ℕ) : Type 0 where
  pub tables : Tables t
  pub some : 1 ≤ meaning
  pub known : meaning ≤ most
