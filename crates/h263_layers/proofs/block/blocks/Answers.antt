-- `h263_layers::block::blocks` meets its contract: by turns over the six bits of the pattern.
use mathlib.Core.Path.{sym, ap, ◌∙◌}
use native.Mathlib.Omega.{arith}
use Rattle.bits.specs.Read.{refused}
use Rattle.fields.proofs.Told.{no_place, is_place}
use Rattle.h263_layers.proofs.BlocksTurn.{blocks_first, blocks_done, blocks_refused, blocks_more}
use Rattle.h263_layers.proofs.block.blocks.Goals as goal

pub loop-b-init : goal.loop-b-init
loop-b-init c = blocks_first _ _ _ _ _ _ _ c.requires.0.placed

pub one_block-read-requires : goal.one_block-read-requires
one_block-read-requires c = (
  record { tabled = c.requires.0.tabled; placed = c.loop-b.invariant.placed },
  omega (arith, c.loop-b.invariant.long, c.requires.1),
)

pub returns-in_default : goal.returns-in_default
returns-in_default c =
    ap refused c.stopped.ensures
    ∙ blocks_refused c.loop-b.invariant c.loop-b-test.true _
    (sym (no_place _ _ _ c.one_block-read.result c.in_default.is c.one_block-read.ensures))

pub loop-b-preserved : goal.loop-b-preserved
loop-b-preserved c =
    blocks_more c.loop-b.invariant c.loop-b-test.true _ _
    (sym (is_place _ _ _ _ _ c.one_block-read.ensures c.in-Got.is)) c.one_block-read.auto.levels

pub returns : goal.returns
returns c = blocks_done c.loop-b.invariant c.loop-b-test.false
