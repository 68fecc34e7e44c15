-- What the functions on blocks want of their callers: room in the lent slices for the samples that are used, and for no other. Assumes nothing.
use Rattle.std.specs.Prelude.{List, ℕ, ◌+◌, ◌≤◌, ◌<◌, get_or}
use Rattle.laws.specs.Rows.{Room}
use Rattle.samples.specs.Ready.{Fits}

-- eight samples at a and eight at b
pub record BothRows (a b n : ℕ) : Type 0 where
  pub one : a + 8 ≤ n
  pub two : b + 8 ≤ n

-- eight sums of two samples
abbrev pub Among : List ℕ → Type 0
Among row = (j : ℕ) → j < 8 → get_or row j 0 ≤ 510

-- of a reference of length n, a block with a column more to the right, or a row more below, where it is moved by half a sample there; and one of a store of length m
pub record Halves (from to stride right down n m : ℕ) : Type 0 where
  pub rightmost : right ≤ 1
  pub lowest : down ≤ 1
  pub source : Room (8 + down) (8 + right) from stride n
  pub target : Fits 8 to stride m
