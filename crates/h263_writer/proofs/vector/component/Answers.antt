-- `vector::component` meets its contract: the codeword is that of the difference, modulo 64.
use native.Mathlib.Omega.{arith}
use Rattle.bits.proofs.Codewords.{word_ready, word_wrote}
use Rattle.h263_writer.proofs.MacroblockSteps.{own_low, difference_counts, component_wrote}
use Rattle.h263_writer.proofs.vector.component.Goals as goal

pub overflow_add-difference : goal.overflow_add-difference
overflow_add-difference c = omega (arith, own_low c.requires c.residue-own.ensures)

pub append-requires : goal.append-requires
append-requires c =
    word_ready c.mvd_codeword.ensures (difference_counts c.requires c.residue-own.ensures)

pub returns : goal.returns
returns c =
    component_wrote c.requires c.residue-own.ensures (word_wrote c.mvd_codeword.ensures c.append.ensures)
