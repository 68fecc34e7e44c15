-- The tables of both standards, lent together. Assumes nothing.
use Rattle.std.specs.Prelude.{List, ℕ}
use Rattle.h261_words.specs.Lookup.{Tables}
use Rattle.h263_words.specs.Lookup.{Tables as NewerTables}

pub record TablesLent (t u : List ℕ) : Type 0 where
  pub older : Tables t
  pub newer : NewerTables u
