-- What a rendered store owes to the reference: nothing where no content does, everything where no macroblock is sent. Assumes nothing.
use Rattle.std.specs.Prelude.{◌≡◌, true, false, List, ℕ, ◌<◌, length}
use Rattle.size.specs.declared.Size.{Size}
use Rattle.size.specs.Size.{store_length}
use Rattle.size.specs.Place.{macroblocks_across, macroblocks_down}
use Rattle.samples.specs.Content.{Content, Contents, rendered_store}

-- two contents, over two references, that draw the same: both are sent, predicted alike, and the same is added
pub record Alike (m k : Content) : Type 0 where
  pub one : m.sent ≡ true
  pub other : k.sent ≡ true
  pub prediction : (p y x i j : ℕ) → m.prediction p y x i j ≡ k.prediction p y x i j
  pub difference : (b i j : ℕ) → m.difference b i j ≡ k.difference b i j

-- a picture whose contents owe the reference nothing renders the same over any
abbrev pub ContentsSame : Type 0
ContentsSame = (f : Size) (m k : Contents) (s t : List ℕ) → ((r c : ℕ) → r < macroblocks_down f → c < macroblocks_across f → Alike (m r c) (k r c)) → rendered_store f m s ≡ rendered_store f k t

-- a picture with no macroblock sent is the reference
abbrev pub UnsentSame : Type 0
UnsentSame = (f : Size) (m : Contents) (s : List ℕ) → ((r c : ℕ) → r < macroblocks_down f → c < macroblocks_across f → (m r c).sent ≡ false) → length s ≡ store_length f → rendered_store f m s ≡ s
