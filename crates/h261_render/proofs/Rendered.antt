-- The store that a description gives, by its places: it has its length, and each place its sample. Assumes nothing.
use mathlib.Core.Path.{◌≡◌}
use mathlib.Core.List.{List}
use Prim.Native.Nat.{ℕ, ◌<◌}
use lib.ListN.{length, get_or}
use Rattle.size.specs.Size.{store_length}
use Rattle.size.specs.Place.{wide, high, index}
use Rattle.samples.specs.Content.{sample_at}
use Rattle.samples.proofs.Rendered as samples
use Rattle.h261_groups.specs.declared.Format.{Format}
use Rattle.h261_groups.specs.Format.{size_of}
use Rattle.layout.specs.Flat.{Flat}
use Rattle.h261_render.specs.Sample.{contents_of, rendered}

pub rendered-length : (f : Format) (d : Flat) (s : List ℕ) → length (rendered f d s) ≡ store_length (size_of f)
unfolding rendered
rendered-length f d s = samples.rendered-length (size_of f) (contents_of f d s) s

pub rendered_at : (f : Format) (d : Flat) (s : List ℕ) (p y x : ℕ) → p < 3 → y < high (size_of f) p → x < wide (size_of f) p
    → get_or (rendered f d s) (index (size_of f) p y x) 0 ≡ sample_at (size_of f) (contents_of f d s) s p y x
unfolding rendered
rendered_at f d s p y x hp hy hx = samples.rendered_at (size_of f) (contents_of f d s) s p y x hp hy hx
