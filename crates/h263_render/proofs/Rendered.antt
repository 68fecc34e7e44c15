-- The store that a description gives, by its places: it has its length, and each place its sample. Assumes nothing.
use mathlib.Core.Path.{◌≡◌}
use mathlib.Core.List.{List}
use Prim.Native.Nat.{ℕ, ◌<◌}
use lib.ListN.{length, get_or}
use Rattle.size.specs.declared.Size.{Size}
use Rattle.size.specs.Size.{store_length}
use Rattle.size.specs.Place.{wide, high, index}
use Rattle.samples.specs.Content.{sample_at}
use Rattle.samples.proofs.Rendered as samples
use Rattle.layout.specs.Flat.{Flat}
use Rattle.h263_render.specs.Sample.{contents_of, rendered}

pub rendered-length : (size : Size) (d : Flat) (s : List ℕ) → length (rendered size d s) ≡ store_length size
unfolding rendered
rendered-length size d s = samples.rendered-length size (contents_of size d s) s

pub rendered_at : (size : Size) (d : Flat) (s : List ℕ) (p y x : ℕ) → p < 3 → y < high size p → x < wide size p
    → get_or (rendered size d s) (index size p y x) 0 ≡ sample_at size (contents_of size d s) s p y x
unfolding rendered
rendered_at size d s p y x hp hy hx = samples.rendered_at size (contents_of size d s) s p y x hp hy hx
