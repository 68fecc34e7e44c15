-- What drawing wants of its caller: room in the lent slices, and numbers in their ranges. Assumes nothing.
use Rattle.std.specs.Prelude.{◌≡◌, List, ℕ, ◌+◌, ◌≤◌, ◌<◌, ℤ}
use Rattle.laws.specs.Rows.{Room}
use Rattle.size.specs.declared.Size.{Size}
use Rattle.size.specs.Size.{store_length}
use Rattle.size.specs.Place.{macroblocks_across, macroblocks_down, wide, high, base}
use Rattle.quantiser.specs.Lines.{Small}
use Rattle.quantiser.specs.Level.{Coded}

-- row y, column x of plane p is one of the picture
pub record Inside (f : Size) (p y x : ℕ) : Type 0 where
  pub plane : p < 3
  pub row : y < high f p
  pub column : x < wide f p

-- row y, column x of plane p, which starts there and has its rows a stride apart
pub record InPlane (f : Size) (p start stride y x : ℕ) : Type 0 where
  pub inside : Inside f p y x
  pub starts : start ≡ base f p
  pub apart : stride ≡ wide f p

-- n rows of n samples, a stride apart, can be put at `to` in a store of this length: they lie in it, and none meets another
pub record Fits (n to stride size : ℕ) : Type 0 where
  pub apart : n ≤ stride
  pub room : Room n n to stride size

-- n rows of n samples can be copied from one place to another
pub record Copies (n from read to written stride : ℕ) : Type 0 where
  pub most : n ≤ 16
  pub source : Room n n from stride read
  pub target : Fits n to stride written

-- eight samples of a slice of length n, and row i of a block of small numbers, to be added to them
pub record Addends (at i : ℕ) (block : List (List ℤ)) (n : ℕ) : Type 0 where
  pub room : at + 8 ≤ n
  pub small : Small 256 block
  pub row : i < 8

-- where a block lies in a store of length m, and its levels among k
pub record Sent (to stride at quantiser m k : ℕ) : Type 0 where
  pub target : Fits 8 to stride m
  pub coded : Coded 64 at quantiser k

-- a reference and a store of these lengths, and a row and a column of macroblocks
pub record Ready (f : Size) (r c n m : ℕ) : Type 0 where
  pub reference : n ≡ store_length f
  pub store : m ≡ store_length f
  pub row : r < macroblocks_down f
  pub column : c < macroblocks_across f
