-- `h261_render::render` meets its contract: each turn of its loop is one macroblock more, and the last one makes the picture. Assumes nothing.
use mathlib.Core.Path.{◌≡◌}
use Prim.Native.Nat.{◌/◌, ◌%◌, ◌≤◌}
use Rattle.layout.specs.Flat.{flat}
use Rattle.h261_description.specs.Fields.{quantiser_before}
use Rattle.samples.specs.Content.{picture_values}
use Rattle.samples.proofs.Rendered.{Drawn}
use Rattle.h261_groups.specs.Format.{size_of}
use Rattle.h261_groups.specs.Order.{macroblock_at}
use Rattle.h261_render.specs.Sample.{contents_of}
use Rattle.h261_render.proofs.render.Given as goal

abbrev pub invariant-loop-n : goal.invariant-loop-n
invariant-loop-n l =
    (l.n ≤ l.count) × ((l.n % 33 ≡ 0 → ⊥) → l.quantiser ≡ quantiser_before (flat l.head l.macroblocks l.levels) (l.n / 33) (l.n % 33)) × Drawn (size_of l.format) (macroblock_at l.format) l.n
    (picture_values (size_of l.format) (contents_of l.format (flat l.head l.macroblocks l.levels) l.reference) l.reference) l.store
