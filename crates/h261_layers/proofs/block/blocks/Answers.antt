-- `h261_layers::block::blocks` meets its contract: by turns over the six bits of the pattern; a turn reads the block that its bit names, or none.
use mathlib.Core.Path.{sym, ap, ◌∙◌}
use native.Mathlib.Omega.{arith}
use Rattle.bits.specs.Read.{refused}
use Rattle.fields.proofs.Told.{no_place, is_place}
use Rattle.h261_layers.proofs.BlocksTurn.{blocks_first, blocks_done, blocks_skip, blocks_refused, blocks_more, blocks_as}
use Rattle.h261_layers.proofs.block.blocks.Goals as goal
use Rattle.h261_layers.proofs.block.blocks.Goals.{then-pattern-after-eq1+in-Got, else-pattern-after-eq1}

pub loop-b-init : goal.loop-b-init
loop-b-init c = blocks_first _ _ _ _ _ _ _ c.requires.0.placed

pub one_block-read-requires : goal.one_block-read-requires
one_block-read-requires c = (
  record { tabled = c.requires.0.tabled; placed = c.loop-b.invariant.placed },
  omega (arith, c.loop-b.invariant.long, c.requires.1),
)

pub returns-in_default : goal.returns-in_default
returns-in_default c =
    ap refused c.stopped.ensures
    ∙ blocks_refused c.loop-b.invariant c.loop-b-test.true c.if-pattern-after-eq1.true _
    (sym (no_place _ _ _ c.one_block-read.result c.in_default.is c.one_block-read.ensures))

pub loop-b-preserved : goal.loop-b-preserved
loop-b-preserved c =
    let inv = c.loop-b.invariant in
    let more = c.loop-b-test.true in
    elim c.if-pattern-after-eq1.branch [
      | then-pattern-after-eq1+in-Got w ↦
          blocks_as (blocks_more inv more w.if-pattern-after-eq1.true _ _ (sym (is_place _ _ _ _ _ w.one_block-read.ensures w.in-Got.is)) w.one_block-read.auto.levels)
          w.levels-is w.place-is
      | else-pattern-after-eq1 w ↦ blocks_as (blocks_skip inv more w.if-pattern-after-eq1.false) w.levels-is w.place-is
    ]

pub returns : goal.returns
returns c = blocks_done c.loop-b.invariant c.loop-b-test.false
