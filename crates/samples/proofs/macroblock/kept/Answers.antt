-- `samples::macroblock::kept` meets its contract: sixteen rows of Y and eight of CB and CR are the six blocks. Assumes nothing.
use mathlib.Core.Path.{◌∙◌}
use Prim.Native.Nat.{ℕ, ◌*◌, ◌≤◌, ◌<◌}
use native.Mathlib.Omega.{arith}
use Rattle.size.specs.Place.{On}
use Rattle.size.proofs.Blocks.{size_small}
use Rattle.samples.proofs.Corner.{Corner, corner, block_copies, four_copies}
use Rattle.samples.proofs.Turns.{chroma, kept_six}
use Rattle.samples.proofs.macroblock.kept.Goals as goal
use Rattle.samples.proofs.macroblock.kept.Goals.{After-copy-arg-1, After-copy-arg-2-1, After-copy-arg-3-1, After-slice_known-4-1}

luminance : (c : After-copy-arg-1) → Corner c.args.size 0 (c.args.row * 16) (c.args.column * 16) c.place-at.result c.stride-stride.result
luminance c = corner c.args.size 0 (c.args.row * 16) (c.args.column * 16) c.place-at.ensures c.stride-stride.ensures

cb : (c : After-copy-arg-2-1) → Corner c.args.size 1 (c.args.row * 8) (c.args.column * 8) c.place-cb.result c.stride-half.result
cb c = corner c.args.size 1 (c.args.row * 8) (c.args.column * 8) c.place-cb.ensures c.stride-half.ensures

chroma_on : (c : After-copy-arg-2-1) → (p : ℕ) → 1 ≤ p → p < 3 → On c.args.size p c.args.row c.args.column
chroma_on c p l m = (chroma c.args.size p c.args.row c.args.column l m c.requires.row c.requires.column).on

cr : (c : After-copy-arg-3-1) → Corner c.args.size 2 (c.args.row * 8) (c.args.column * 8) c.place-cr.result c.stride-half.result
cr c = corner c.args.size 2 (c.args.row * 8) (c.args.column * 8) c.place-cr.ensures c.stride-half.ensures

chroma_on-at2 : (c : After-copy-arg-3-1) → (p : ℕ) → 1 ≤ p → p < 3 → On c.args.size p c.args.row c.args.column
chroma_on-at2 c p l m = (chroma c.args.size p c.args.row c.args.column l m c.requires.row c.requires.column).on

luminance-at2 : (c : After-slice_known-4-1) → Corner c.args.size 0 (c.args.row * 16) (c.args.column * 16) c.place-at.result c.stride-stride.result
luminance-at2 c = corner c.args.size 0 (c.args.row * 16) (c.args.column * 16) c.place-at.ensures c.stride-stride.ensures

cb-at2 : (c : After-slice_known-4-1) → Corner c.args.size 1 (c.args.row * 8) (c.args.column * 8) c.place-cb.result c.stride-half.result
cb-at2 c = corner c.args.size 1 (c.args.row * 8) (c.args.column * 8) c.place-cb.ensures c.stride-half.ensures

cr-at2 : (c : After-slice_known-4-1) → Corner c.args.size 2 (c.args.row * 8) (c.args.column * 8) c.place-cr.result c.stride-half.result
cr-at2 c = corner c.args.size 2 (c.args.row * 8) (c.args.column * 8) c.place-cr.ensures c.stride-half.ensures

pub overflow_mul-row : goal.overflow_mul-row
overflow_mul-row c = omega (arith, size_small c.args.size)

pub copy-requires : goal.copy-requires
copy-requires c =
    four_copies (luminance c) c.requires.row c.requires.column c.requires.reference c.requires.store

pub overflow_mul-row-2 : goal.overflow_mul-row-2
overflow_mul-row-2 c = omega (arith, size_small c.args.size)

pub copy-requires-2 : goal.copy-requires-2
copy-requires-2 c =
    block_copies (cb c) (chroma_on c 1 (omega arith) (omega arith)) c.requires.reference (c.copy.ensures.size ∙ c.requires.store)

pub overflow_mul-row-3 : goal.overflow_mul-row-3
overflow_mul-row-3 c = omega (arith, size_small c.args.size)

pub copy-requires-3 : goal.copy-requires-3
copy-requires-3 c =
    block_copies (cr c) (chroma_on-at2 c 2 (omega arith) (omega arith)) c.requires.reference
    (c.copy-2.ensures.size ∙ c.copy.ensures.size ∙ c.requires.store)

pub returns : goal.returns
returns c =
    kept_six c.args.reference.now c.requires.row c.requires.column (luminance-at2 c) (cb-at2 c) (cr-at2 c)
    c.copy.ensures c.copy-2.ensures c.copy-3.ensures
