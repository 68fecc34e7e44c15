-- `salvaging::put_entry` meets its contract: five stores in a row. Assumes nothing.
use Rattle.salvaging.specs.Log.{told_entry}
use Rattle.salvaging.proofs.Stores.{entry_long, five_stored}
use lib.ListN.{length-set}
use native.Mathlib.Omega.{arith}
use Rattle.salvaging.proofs.put_entry.Goals as goal

pub bounds-log-at-2 : goal.bounds-log-at-2
bounds-log-at-2 c = simp length-set (omega arith)

pub bounds-log-at-3 : goal.bounds-log-at-3
bounds-log-at-3 c = simp length-set (omega arith)

pub bounds-log-at-4 : goal.bounds-log-at-4
bounds-log-at-4 c = simp length-set (omega arith)

pub bounds-log-at-5 : goal.bounds-log-at-5
bounds-log-at-5 c = simp length-set (omega arith)

pub returns : goal.returns
returns c = five_stored c.args.log.now c.args.at c.laid-five.result _ c.laid-five.ensures (entry_long (told_entry c.args.entry))
