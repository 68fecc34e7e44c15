-- `h263_layers::block::inter_block` meets its contract: no event, or all from the first place on.
use borrow.Author.Rules.{rules}
use Rattle.h263_layers.proofs.BlockSteps.{bit_off, bit_on, inter_none, inter_some}
use Rattle.h263_layers.proofs.block.inter_block.Goals as goal

pub returns-then-coded-eq0 : goal.returns-then-coded-eq0
returns-then-coded-eq0 c = inter_none _ _ _ _ _ (bit_off _ c.if-coded-eq0.true)

pub events-requires : goal.events-requires
events-requires c =
    (c.requires.0, record { forward = search rules; room = search rules })

pub returns : goal.returns
returns c = inter_some _ _ _ _ _ _ (bit_on _ c.if-coded-eq0.false) c.events.ensures
