-- `stream::pass_bytes` meets its contract: byte by byte, as long as it is calm. Assumes nothing.
use mathlib.Core.Path.{◌≡◌, refl}
use Prim.Native.Nat.{◌*◌}
use native.Mathlib.Omega.{arith}
use lib.ListN.{length}
use borrow.Author.Tests.{not-false}
use Rattle.stream.proofs.Bytes.{reaches_here, reaches_more, reaches_byte}
use Rattle.stream.proofs.pass_bytes.Goals as goal

pub loop-i-init : goal.loop-i-init
loop-i-init c = (c.requires.1, reaches_here c.args.bytes.now c.args.stream (c.args.from * 8) c.args.picture.now)

pub overflow_mul-result : goal.overflow_mul-result
overflow_mul-result c = omega (arith, c.loop-i-test.true, c.requires.0)

pub returns-then-not-calm : goal.returns-then-not-calm
returns-then-not-calm c = c.loop-i.invariant.1

pub put_byte-requires : goal.put_byte-requires
put_byte-requires c =
    omega (arith, (c.calm.ensures (not-false _ c.if-not-calm.false-raw)).fits, c.min-room.ensures, c.loop-i.invariant.1.long)

pub longer_by_byte-next-requires : goal.longer_by_byte-next-requires
longer_by_byte-next-requires c =
    (c.calm.ensures (not-false _ c.if-not-calm.false-raw), omega (arith, c.min-room.ensures))

pub loop-i-preserved : goal.loop-i-preserved
loop-i-preserved c = (
  omega (arith, c.loop-i-test.true),
  reaches_more c.loop-i.invariant.1
      (reaches_byte (c.calm.ensures (not-false _ c.if-not-calm.false-raw)) (omega (arith, c.min-room.ensures)) (c.type_inv.bytes c.loop-i.i).fits
      c.args.bytes.now c.loop-i.i c.loop-i-test.true refl (omega (arith, c.min-room.ensures, c.loop-i.invariant.1.long)) c.longer_by_byte-next.ensures c.put_byte.ensures),
)

pub overflow_mul-result-2 : goal.overflow_mul-result-2
overflow_mul-result-2 c = omega (arith, c.requires.0)

pub returns : goal.returns
returns c =
    let all : c.loop-i.i ≡ length c.args.bytes.now = omega (arith, c.loop-i.invariant.0, c.loop-i-test.false) in
    rw all at c.loop-i.invariant.1
