-- `stream::extend` meets its contract. Assumes nothing.
use native.Mathlib.Omega.{arith}
use Rattle.stream.proofs.Pushed.{bit_small, extends_in, extends_out}
use Rattle.stream.proofs.extend.Goals as goal

pub put-requires : goal.put-requires
put-requires c =
    let small = bit_small c.args.bit c.bit_number-value.ensures in
    (record { some = omega arith; short = omega arith; small = small }, omega (arith, c.if-count-picture.true))

pub returns-then-count-picture : goal.returns-then-count-picture
returns-then-count-picture c = extends_in c.args.picture.now c.args.count c.args.bit c.if-count-picture.true c.bit_number-value.ensures c.put.ensures

pub returns-else-count-picture : goal.returns-else-count-picture
returns-else-count-picture c = extends_out c.args.picture.now c.args.count c.args.bit c.if-count-picture.false
