-- `vault::kept` meets its contract: what is left of a byte is at most the byte. Assumes nothing.
use native.Mathlib.Omega.{arith}
use mathlib.Core.Path.{sym, ap}
use Prim.Native.Nat.{ℕ, ◌*◌, ◌/◌}
use native.Mathlib.Nat.{div-mul-le_self}
use lib.ListN.{get_or}
use lib.Pow.{pow_pos}
use Rattle.vault.specs.Block.{unused}
use Rattle.vault.proofs.KeptLaws.{kept_past}
use Rattle.vault.proofs.kept.Goals as goal

pub returns-then-bytes-i : goal.returns-then-bytes-i
returns-then-bytes-i c = sym (kept_past c.args.bytes.now c.args.count _ c.if-bytes-i.true)

pub nonzero_div-result : goal.nonzero_div-result
nonzero_div-result c = omega (arith, pow_pos (unused c.args.count c.args.i), c.unused_weight-weight.ensures)

pub overflow_mul-result : goal.overflow_mul-result
overflow_mul-result c =
    let i = c.args.i in
    omega (arith, c.type_inv.bytes i, div-mul-le_self (get_or c.args.bytes.now i 0) c.unused_weight-weight.result)

pub overflow_cast-result-2 : goal.overflow_cast-result-2
overflow_cast-result-2 c = omega (arith, c.type_inv.bytes c.args.i)

pub returns : goal.returns
returns c = ap (λ (w : ℕ). get_or c.args.bytes.now c.args.i 0 / w * w) c.unused_weight-weight.ensures
