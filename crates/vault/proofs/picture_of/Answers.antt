-- `vault::picture_of` meets its contract: a byte is below 256. Assumes nothing.
use native.Mathlib.Omega.{arith}
use Rattle.vault.proofs.picture_of.Goals as goal

pub overflow_mul-result : goal.overflow_mul-result
overflow_mul-result c = omega (arith, c.type_inv.block 508)

pub overflow_cast-result-2 : goal.overflow_cast-result-2
overflow_cast-result-2 c = omega (arith, c.type_inv.block 508)

pub overflow_add-result : goal.overflow_add-result
overflow_add-result c = omega (arith, c.type_inv.block 508)
