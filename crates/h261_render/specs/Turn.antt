-- What the rendering functions want of their callers, by block, macroblock and turn. Assumes nothing.
use Rattle.std.specs.Prelude.{◌≡◌, Bool, true, false, ℕ, ◌/◌, ◌%◌, ◌<◌, T}
use Rattle.laws.specs.Rows.{Room}
use Rattle.size.specs.Size.{store_length}
use Rattle.size.specs.Place.{On}
use Rattle.quantiser.specs.Level.{Coded}
use Rattle.samples.specs.Ready.{Fits, Ready}
use Rattle.h261_groups.specs.declared.Format.{Format}
use Rattle.h261_groups.specs.Format.{size_of}
use Rattle.h261_groups.specs.Order.{macroblock_count}
use Rattle.layout.specs.Value.{Vector}
use Rattle.layout.specs.Flat.{Flat, number_of}
use Rattle.h261_description.specs.Fields.{quantiser_before}
use Rattle.h261_description.specs.Moved.{Aims, Points}
use Rattle.h261_description.specs.Valid.{valid}
use Rattle.h261_render.specs.declared.Prediction.{Prediction}
use Rattle.h261_render.specs.declared.Prediction.TheVariants.{Intra, Inter, Filtered}

-- a prediction's blocks have a DC code first
abbrev pub intra_of : Prediction → Bool
intra_of Intra = true
intra_of Inter = false
intra_of Filtered = false

-- a vector's two bytes
abbrev pub vector_from : ℕ → ℕ → Vector
vector_from horizontal vertical = record { horizontal = number_of horizontal; vertical = number_of vertical }

-- ---- lengths: n of the reference, m of the store, k of the levels
-- a block predicted from one place and put at another
pub record BlockAt (from to stride at quantiser n m k : ℕ) : Type 0 where
  pub source : Room 8 8 from stride n
  pub target : Fits 8 to stride m
  pub coded : Coded 64 at quantiser k

-- a block of the grid, and where its vector points
pub record BlockOf (f : Format) (p y x : ℕ) (v : Vector) (at quantiser n m k : ℕ) : Type 0 where
  pub reference : n ≡ store_length (size_of f)
  pub store : m ≡ store_length (size_of f)
  pub on : On (size_of f) p y x
  pub aims : Aims f p y x v
  pub coded : Coded 64 at quantiser k

-- a macroblock, with the levels of its six blocks
pub record MacroblockOf (f : Format) (r c : ℕ) (v : Vector) (at quantiser n m k : ℕ) : Type 0 where
  pub ready : Ready (size_of f) r c n m
  pub points : Points f r c v
  pub coded : Coded 384 at quantiser k

-- a valid description, and two stores of their named length
pub record PictureOf (f : Format) (d : Flat) (n m : ℕ) : Type 0 where
  pub fine : T (valid f d)
  pub reference : n ≡ store_length (size_of f)
  pub store : m ≡ store_length (size_of f)

-- macroblock i of it, with the quantiser of the one before
pub record TurnOf (f : Format) (d : Flat) (i last n m : ℕ) : Type 0 where
  pub picture : PictureOf f d n m
  pub number : i < macroblock_count f
  pub before : (i % 33 ≡ 0 → ⊥) → last ≡ quantiser_before d (i / 33) (i % 33)
