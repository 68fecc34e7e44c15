-- `h261_layers::macroblock::put_fields` meets its contract: four stores, each at its place.
use native.Mathlib.Omega.{arith}
use lib.ListN.{length-set}
use Rattle.h261_layers.proofs.MacroblockWhole.{fields_are}
use Rattle.h261_layers.proofs.macroblock.put_fields.Goals as goal

pub bounds-macroblocks-at-2 : goal.bounds-macroblocks-at-2
bounds-macroblocks-at-2 c = simp length-set (omega (arith, c.requires.0))

pub component_byte-requires : goal.component_byte-requires
component_byte-requires c = c.requires.1.horizontally

pub bounds-macroblocks-at-3 : goal.bounds-macroblocks-at-3
bounds-macroblocks-at-3 c = simp length-set (omega (arith, c.requires.0))

pub component_byte-requires-2 : goal.component_byte-requires-2
component_byte-requires-2 c = c.requires.1.vertically

pub bounds-macroblocks-at-4 : goal.bounds-macroblocks-at-4
bounds-macroblocks-at-4 c = simp length-set (omega (arith, c.requires.0))

pub returns : goal.returns
returns c =
    fields_are c.args.macroblocks.now c.args.at c.args.mtype c.args.quantiser _ _ _ _ c.component_byte.ensures
    c.component_byte-2.ensures
