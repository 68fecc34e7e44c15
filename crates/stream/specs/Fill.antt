-- Fill up to the end of a byte: up to seven zeros after the zero that follows a picture's last one. Assumes nothing.
use Rattle.std.specs.Prelude.{◌≡◌, List, ℕ, ◌+◌, ◌-◌, ◌*◌, ◌<◌, ◌≤◌, length}
use Rattle.bits.specs.Bits.{value}
use Rattle.size.specs.Size.{limit}
use Rattle.h261_groups.specs.declared.Format.{Format}
use Rattle.h261_groups.specs.Format.{size_of}

-- a picture of `count` bits, within the limit, that may end one bit after its last one: zeros alone follow
pub record ShortFill (f : Format) (bytes : List ℕ) (count ones : ℕ) : Type 0 where
  pub some : ones + 1 < count
  pub few : count ≤ ones + 8
  pub lent : count < 8 * length bytes
  pub low : count ≤ limit (size_of f)
  pub none : value bytes (ones + 1) (count - (ones + 1)) ≡ 0
