-- `h263_layers::macroblock::put_fields` meets its contract: four stores, each at its place.
use native.Mathlib.Omega.{arith}
use lib.ListN.{length-set}
use Rattle.h263_layers.proofs.MacroblockWhole.{fields_are}
use borrow.Author.Rules.{rules}
use Rattle.h263_layers.proofs.macroblock.put_fields.Goals as goal

pub bounds-macroblocks-at : goal.bounds-macroblocks-at
bounds-macroblocks-at c = omega (arith, c.requires.room)

pub overflow_add-macroblocks : goal.overflow_add-macroblocks
overflow_add-macroblocks c = search rules

pub bounds-macroblocks-at-2 : goal.bounds-macroblocks-at-2
bounds-macroblocks-at-2 c = simp length-set (omega (arith, c.requires.room))

pub component_byte-requires : goal.component_byte-requires
component_byte-requires c = c.requires.horizontally

pub bounds-macroblocks-at-3 : goal.bounds-macroblocks-at-3
bounds-macroblocks-at-3 c = simp length-set (omega (arith, c.requires.room))

pub component_byte-requires-2 : goal.component_byte-requires-2
component_byte-requires-2 c = c.requires.vertically

pub bounds-macroblocks-at-4 : goal.bounds-macroblocks-at-4
bounds-macroblocks-at-4 c = simp length-set (omega (arith, c.requires.room))

pub returns : goal.returns
returns c =
    let a = c.args in
    fields_are a.macroblocks.now a.at a.kind a.dquant _ _ _ _ c.component_byte.ensures c.component_byte-2.ensures
