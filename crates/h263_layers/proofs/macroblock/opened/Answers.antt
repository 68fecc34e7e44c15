-- `h263_layers::macroblock::opened` meets its contract: each turn of the loop reads a header, where one may stand, and what stands after it; stuffing alone makes another turn.
use mathlib.Core.Path.{ap, ◌∙◌}
use native.Mathlib.Omega.{arith}
use Rattle.bits.specs.Read.{refused}
use Rattle.fields.proofs.Told.{no_number, is_number}
use Rattle.h263_layers.specs.declared.Found.TheVariants.{Stuffing, Macroblock}
use Rattle.h263_layers.specs.Answer.{slot_in}
use Rattle.h263_layers.proofs.OpenedTurn.{no_found, is_found, opened_first, opened_no_head, opened_headed, opened-refused, opened-slot, opened_less, opened_more}
use Rattle.h263_layers.proofs.macroblock.opened.Goals as goal

pub loop-quantiser-init : goal.loop-quantiser-init
loop-quantiser-init c = opened_first _ _ _ _ _ _ _ c.requires.0.placed

pub headed-head-requires : goal.headed-head-requires
headed-head-requires c = (c.loop-quantiser.invariant.placed, c.requires.1)

pub returns-in_default : goal.returns-in_default
returns-in_default c =
    ap refused c.stopped.ensures
    ∙ opened_no_head c.loop-quantiser.invariant _ (no_number _ _ c.headed-head.result c.in_default.is c.headed-head.ensures)

pub found-read-requires : goal.found-read-requires
found-read-requires c =
    record { tabled = c.requires.0.tabled; placed = opened_headed c.loop-quantiser.invariant _ _ (is_number _ _ _ _ _ c.headed-head.ensures c.in-Got.is) }

pub returns-in_default-read : goal.returns-in_default-read
returns-in_default-read c =
    ap refused c.stopped-in_default-read.ensures
    ∙ opened-refused c.loop-quantiser.invariant _ _ (is_number _ _ _ _ _ c.headed-head.ensures c.in-Got.is) _ (no_found _ _ c.found-read.result c.found-read.ensures c.in_default-read.is)

pub loop-quantiser-smaller : goal.loop-quantiser-smaller
loop-quantiser-smaller c =
    let l = opened_less c.loop-quantiser.invariant _ _ (is_number _ _ _ _ _ c.headed-head.ensures c.in-Got.is) _ (is_found _ _ c.found-read.result c.found-read.ensures c.in-Got-read.is Stuffing c.in-Stuffing.is) in
    omega arith

pub loop-quantiser-preserved : goal.loop-quantiser-preserved
loop-quantiser-preserved c =
    opened_more c.loop-quantiser.invariant _ _ (is_number _ _ _ _ _ c.headed-head.ensures c.in-Got.is) _ (is_found _ _ c.found-read.result c.found-read.ensures c.in-Got-read.is Stuffing c.in-Stuffing.is)

pub returns-in-Macroblock : goal.returns-in-Macroblock
returns-in-Macroblock c =
    opened-slot c.loop-quantiser.invariant _ _ (is_number _ _ _ _ _ c.headed-head.ensures c.in-Got.is) _ (slot_in c.in-Macroblock.mcbpc)
    (is_found _ _ c.found-read.result c.found-read.ensures c.in-Got-read.is (Macroblock c.in-Macroblock.mcbpc) c.in-Macroblock.is)
