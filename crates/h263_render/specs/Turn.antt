-- What the rendering functions want of their callers, by block, macroblock and turn. Assumes nothing.
use Rattle.std.specs.Prelude.{◌≡◌, Bool, false, ℕ, ◌*◌, ◌≤◌, ◌<◌, T, ℤ, pos, ◌+ℤ◌}
use Rattle.size.specs.declared.Size.{Size}
use Rattle.size.specs.Size.{store_length}
use Rattle.size.specs.Place.{macroblocks_across, macroblocks_down, wide, base, index, own, On}
use Rattle.quantiser.specs.Level.{Coded}
use Rattle.samples.specs.Ready.{Ready}
use Rattle.layout.specs.Value.{Vector}
use Rattle.layout.specs.Flat.{Flat}
use Rattle.h263_description.specs.Fields.{quantiser_before}
use Rattle.h263_description.specs.Moved.{in_plane, half_place, Aims}
use Rattle.h263_description.specs.Valid.{valid}

-- row or column k of plane p, moved by a component, isn't negative
pub record Moves (p k : ℕ) (z : ℤ) : Type 0 where
  pub small : k ≤ 65535
  pub place : pos (half_place p k z) ≡ pos (2 * k) +ℤ in_plane p z

-- ---- lengths: n of the reference, m of the store, k of the levels
-- a block of the grid and where its vector points; it lies at `to`, its plane starts at `start`, and the rows of it are a stride apart
pub record PredictionOf (size : Size) (p y x to start stride : ℕ) (v : Vector) (n m : ℕ) : Type 0 where
  pub reference : n ≡ store_length size
  pub store : m ≡ store_length size
  pub on : On size p y x
  pub aims : Aims size p y x v
  pub corner : to ≡ index size p (y * 8) (x * 8)
  pub starts : start ≡ base size p
  pub apart : stride ≡ wide size p

-- a block of the grid; where it isn't INTRA, its vector points into the picture
pub record BlockOf (size : Size) (p y x : ℕ) (intra : Bool) (v : Vector) (at quantiser n m k : ℕ) : Type 0 where
  pub reference : n ≡ store_length size
  pub store : m ≡ store_length size
  pub on : On size p y x
  pub aims : intra ≡ false → Aims size p y x v
  pub coded : Coded 64 at quantiser k

-- a macroblock, with the levels of its six blocks
pub record MacroblockOf (size : Size) (r c : ℕ) (intra : Bool) (v : Vector) (at quantiser n m k : ℕ) : Type 0 where
  pub ready : Ready size r c n m
  pub aims : intra ≡ false → (p y x : ℕ) → own p y ≡ r → own p x ≡ c → Aims size p y x v
  pub coded : Coded 384 at quantiser k

-- a valid description, and two stores of their named length
pub record PictureOf (size : Size) (d : Flat) (n m : ℕ) : Type 0 where
  pub fine : T (valid size d)
  pub reference : n ≡ store_length size
  pub store : m ≡ store_length size

-- macroblock i of it, with the quantiser that stood before
pub record TurnOf (size : Size) (d : Flat) (i last n m : ℕ) : Type 0 where
  pub picture : PictureOf size d n m
  pub number : i < macroblocks_down size * macroblocks_across size
  pub before : last ≡ quantiser_before (macroblocks_across size) d i
