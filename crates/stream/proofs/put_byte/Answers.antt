-- `stream::put_byte` meets its contract: in one byte or in two. Assumes nothing.
use Prim.Native.Nat.{ℕ, ◌+◌, ◌/◌}
use native.Mathlib.Omega.{arith}
use borrow.Author.Rules.{Below-set}
use Rattle.stream.proofs.Bytes.{put_whole, put_parted}
use Rattle.stream.proofs.put_byte.Goals as goal

pub returns-then-before-eq0 : goal.returns-then-before-eq0
returns-then-before-eq0 c =
    put_whole c.args.out.now c.args.at c.args.byte (λ i. (c.slice_known-1.given i).fits) c.ranges.byte.fits c.requires c.if-before-eq0.true

pub bounds-out-from-3 : goal.bounds-out-from-3
bounds-out-from-3 c =
    Below-set ℕ c.args.out.now (c.args.at / 8 + 1) (c.args.at / 8) _ (omega (arith, c.requires, c.if-before-eq0.false))

pub returns : goal.returns
returns c =
    put_parted c.args.out.now c.args.at c.args.byte (λ i. (c.slice_known-1.given i).fits) c.ranges.byte.fits c.requires c.if-before-eq0.false
