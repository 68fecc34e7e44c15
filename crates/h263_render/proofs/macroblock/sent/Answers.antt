-- `h263_render::macroblock::sent` meets its contract: each turn of its loop is one block more of the six. Assumes nothing.
use mathlib.Core.Path.{◌∙◌}
use mathlib.Core.Bool.{Bool}
use mathlib.Core.List.{List}
use Prim.Native.Nat.{ℕ, ◌+◌, ◌*◌}
use native.Mathlib.Omega.{arith}
use borrow.Author.Rules.{rules}
use Rattle.size.proofs.Blocks.{Placed, placed, size_small}
use Rattle.quantiser.specs.Level.{bytes_from}
use Rattle.samples.specs.Content.{Differences, difference_of}
use Rattle.samples.proofs.Wrote.{part_none, part_end}
use Rattle.samples.proofs.Turns.{sent_more}
use Rattle.layout.specs.Flat.{byte_vector}
use Rattle.h263_render.specs.Sample.{predictions_from}
use Rattle.h263_render.proofs.macroblock.sent.Goals as goal
use Rattle.h263_render.proofs.macroblock.sent.Goals.{After-block-arg-1}

abbrev added : List ℕ → ℕ → Bool → ℕ → Differences
added levels at intra quantiser b = difference_of (bytes_from levels (at + b * 64)) intra quantiser

place : (c : After-block-arg-1) → Placed c.args.size c.args.row c.args.column c.loop-b.b c.plane_of-plane.result
    c.grid-y.result c.grid-x.result
place c =
    placed c.args.size c.args.row c.args.column c.loop-b.b c.plane_of-plane.result
    c.grid-y.result c.grid-x.result c.requires.ready.row c.requires.ready.column (search rules) c.plane_of-plane.ensures
    c.grid-y.ensures c.grid-x.ensures

pub loop-b-init : goal.loop-b-init
loop-b-init c = (search rules, part_none)

pub grid-y-requires : goal.grid-y-requires
grid-y-requires c =
    omega (arith, c.requires.ready.row, size_small c.args.size)

pub grid-x-requires : goal.grid-x-requires
grid-x-requires c =
    omega (arith, c.requires.ready.column, size_small c.args.size)

pub block-requires : goal.block-requires
block-requires c =
    let coded = c.requires.coded in
    record {
      reference = c.requires.ready.reference;
      store = c.loop-b.invariant.1.size ∙ c.requires.ready.store;
      on = (place c).on;
      aims = λ e. c.requires.aims e _ _ _ (place c).row (place c).column;
      coded = record { room = omega arith; least = coded.least; most = coded.most };
    }

pub loop-b-preserved : goal.loop-b-preserved
loop-b-preserved c =
    let a = c.args in (
      search rules,
      sent_more (predictions_from a.size a.reference.now a.intra (byte_vector a.horizontal a.vertical)) (added a.levels.now a.at a.intra a.quantiser) (place (goal.at.loop-b-preserved c).After-block-arg-1)
          c.loop-b.invariant.1 c.block.ensures,
    )

pub returns : goal.returns
returns c = part_end c.loop-b.invariant.1 (search rules) (search rules)
