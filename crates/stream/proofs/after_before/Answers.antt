-- `stream::after_before` meets its contract: what stands before the last one has a last one of its own, or not. Assumes nothing.
use mathlib.Core.Path.{sym, ap, ◌∙◌}
use Prim.Native.Nat.{ℕ}
use native.Mathlib.Omega.{arith}
use Rattle.stream.specs.Bytes.{bits_of_number, before_after}
use Rattle.stream.proofs.Ones.{before_none, byte_less, byte_above, byte_before}
use Rattle.stream.proofs.after_before.Goals as goal

pub returns-then-byte-eq0 : goal.returns-then-byte-eq0
returns-then-byte-eq0 c =
    let a = c.args in
    sym (ap (λ (n : ℕ). before_after a.place a.last a.otherwise (bits_of_number 8 n)) c.if-byte-eq0.true ∙ before_none a.place a.last a.otherwise 8)

pub overflow_cast-zeros-2 : goal.overflow_cast-zeros-2
overflow_cast-zeros-2 c = omega (arith, byte_less c.ranges.byte.fits c.requires c.if-byte-eq0.false)

pub overflow_add-zeros : goal.overflow_add-zeros
overflow_add-zeros c = omega (arith, byte_less c.ranges.byte.fits c.requires c.if-byte-eq0.false)

pub overflow_cast-zeros-3 : goal.overflow_cast-zeros-3
overflow_cast-zeros-3 c = omega (arith, byte_less c.ranges.byte.fits c.requires c.if-byte-eq0.false)

pub overflow_shr-byte : goal.overflow_shr-byte
overflow_shr-byte c = omega (arith, byte_less c.ranges.byte.fits c.requires c.if-byte-eq0.false)

pub overflow_sub-zeros : goal.overflow_sub-zeros
overflow_sub-zeros c = omega (arith, byte_less c.ranges.byte.fits c.requires c.if-byte-eq0.false)

pub after_last-requires : goal.after_last-requires
after_last-requires c = byte_above c.ranges.byte.fits c.requires c.if-byte-eq0.false

pub returns : goal.returns
returns c =
    c.after_last.ensures ∙ byte_before c.ranges.byte.fits c.requires c.if-byte-eq0.false c.args.last c.args.otherwise
