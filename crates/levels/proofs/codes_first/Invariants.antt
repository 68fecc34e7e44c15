-- `levels::codes_first` meets its contract: the first code of each block so far is no 0. Assumes nothing.
use Rattle.layout.specs.Numbers.{codes_first}
use Rattle.levels.proofs.Steps.{CodesSoFar}
use Rattle.levels.proofs.codes_first.Given as goal

abbrev pub invariant-loop-block : goal.invariant-loop-block
invariant-loop-block l = CodesSoFar (codes_first 6 l.bytes) l.bytes l.block
