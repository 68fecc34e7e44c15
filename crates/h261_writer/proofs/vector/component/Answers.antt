-- `vector::component` meets its contract: the difference's codeword is Table 3's.
use mathlib.Core.Path.{ap}
use native.Mathlib.Omega.{arith}
use Rattle.bits.specs.Code.{word_of}
use Rattle.bits.proofs.Appended.{wrote_as}
use Rattle.h261_words.specs.Tables.{table3}
use Rattle.bits.proofs.Codewords.{word_ready, word_wrote}
use Rattle.h261_writer.proofs.MacroblockSteps.{difference, difference_counts}
use Rattle.h261_writer.proofs.vector.component.Goals as goal

pub overflow_sub-difference : goal.overflow_sub-difference
overflow_sub-difference c = omega (arith, c.ranges.preceding.fits)

pub mvd_codeword-word-requires : goal.mvd_codeword-word-requires
mvd_codeword-word-requires c = (c.requires.tables, omega arith)

pub append-requires : goal.append-requires
append-requires c =
    word_ready c.mvd_codeword-word.ensures (difference_counts c.ranges.preceding.fits c.ranges.byte.fits c.requires)

pub returns : goal.returns
returns c =
    wrote_as (word_wrote c.mvd_codeword-word.ensures c.append.ensures) (ap (word_of table3) (difference _ _ c.ranges.preceding.fits c.ranges.byte.fits c.requires.preceding_near c.requires.near))
