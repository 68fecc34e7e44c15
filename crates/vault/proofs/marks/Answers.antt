-- `vault::marks` meets its contract: the sum of two that its callees give. Assumes nothing.
use native.Mathlib.Omega.{arith}
use mathlib.Core.Bool.{Bool, true, false}
use Prim.Native.Nat.{◌≤◌}
use lib.Dec.{lit≤}
use Rattle.vault.specs.declared.Standard.{Standard}
use Rattle.vault.specs.declared.Standard.TheVariants.{H261, H263}
use Rattle.vault.specs.Block.{bit, standard_mark}
use Rattle.vault.proofs.marks.Goals as goal

mark_low : (standard : Standard) → standard_mark standard ≤ 4
mark_low H261 = lit≤ tt
mark_low H263 = lit≤ tt

bit_low : (b : Bool) → bit b ≤ 1
bit_low true = lit≤ tt
bit_low false = lit≤ tt

pub overflow_add-result : goal.overflow_add-result
overflow_add-result c =
    let header = c.args.header in
    omega (arith, c.standard_mark.ensures, c.low_marks.ensures, mark_low header.standard, bit_low header.last, bit_low header.refresh)
