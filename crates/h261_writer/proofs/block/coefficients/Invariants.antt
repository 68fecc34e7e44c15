-- `block::coefficients` meets its contract. The loop's invariant: what is written is the coefficients before this level.
use Prim.Native.Nat.{◌+◌}
use lib.ListN.{drop}
use Rattle.layout.specs.Flat.{gather}
use Rattle.h261_writer.specs.Sound.{coded_bits}
use Rattle.h261_writer.proofs.BlockTurn.{CodedSoFar}
use Rattle.h261_writer.proofs.block.coefficients.Given as goal

abbrev pub invariant-loop-code : goal.invariant-loop-code
invariant-loop-code l = CodedSoFar (coded_bits l.opening (gather 0 (drop l.from l.levels))) l.levels l.initial.out l.at l.out l.first l.run (l.from + l.code-index) l.place
