-- `h263_render::render` meets its contract: each turn of its loop is one macroblock more, and the last one makes the picture. Assumes nothing.
use mathlib.Core.Path.{◌≡◌}
use Prim.Native.Nat.{◌≤◌}
use Rattle.size.specs.Place.{macroblocks_across}
use Rattle.samples.specs.Content.{picture_values}
use Rattle.samples.proofs.Rendered.{Drawn}
use Rattle.layout.specs.Flat.{flat}
use Rattle.h263_description.specs.Fields.{quantiser_before}
use Rattle.h263_render.specs.Sample.{macroblock_at, contents_of}
use Rattle.h263_render.proofs.render.Given as goal

abbrev pub invariant-loop-n : goal.invariant-loop-n
invariant-loop-n l =
    (l.n ≤ l.count) × (l.quantiser ≡ quantiser_before (macroblocks_across l.size) (flat l.head l.macroblocks l.levels) l.n) × Drawn l.size (macroblock_at l.size) l.n
    (picture_values l.size (contents_of l.size (flat l.head l.macroblocks l.levels) l.reference) l.reference) l.store
