-- What a codeword of H.263 is asked for. Assumes nothing.
use Rattle.std.specs.Prelude.{Bool, List, ℕ, ◌≤◌, T}
use Rattle.bits.specs.Code.{has}
use Rattle.layout.specs.Value.{coefficient}
use Rattle.layout.specs.Sendable.{Sendable}
use Rattle.h263_words.specs.Tables.{mcbpc_of}
use Rattle.h263_words.specs.Lookup.{Tables}

-- a meaning of MCBPC that the picture's table has
pub record KindAsked (t : List ℕ) (intra : Bool) (meaning : ℕ) : Type 0 where
  pub tables : Tables t
  pub known : T (has (mcbpc_of intra) meaning)

-- a coefficient that can be sent, its block's last (1) or not (0)
pub record EventAsked (t : List ℕ) (end run code : ℕ) : Type 0 where
  pub tables : Tables t
  pub last : end ≤ 1
  pub sendable : Sendable (coefficient run code)
