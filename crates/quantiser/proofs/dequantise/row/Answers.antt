-- `quantiser::dequantise::row` meets its contract: a number of 16 bits is the same in 32.
use Rattle.quantiser.proofs.Lines.{line_of_lem}
use Rattle.quantiser.proofs.Coefficients.{wide_fits, wide}
use Rattle.quantiser.proofs.dequantise.row.Goals as goal

pub overflow_cast-result : goal.overflow_cast-result
overflow_cast-result c = wide_fits (c.requires.numbers c.args.a)

pub overflow_cast-result-2 : goal.overflow_cast-result-2
overflow_cast-result-2 c = wide_fits (c.requires.numbers c.args.b)

pub overflow_cast-result-3 : goal.overflow_cast-result-3
overflow_cast-result-3 c = wide_fits (c.requires.numbers c.args.c)

pub overflow_cast-result-4 : goal.overflow_cast-result-4
overflow_cast-result-4 c = wide_fits (c.requires.numbers c.args.d)

pub overflow_cast-result-5 : goal.overflow_cast-result-5
overflow_cast-result-5 c = wide_fits (c.requires.numbers c.args.e)

pub overflow_cast-result-6 : goal.overflow_cast-result-6
overflow_cast-result-6 c = wide_fits (c.requires.numbers c.args.f)

pub overflow_cast-result-7 : goal.overflow_cast-result-7
overflow_cast-result-7 c = wide_fits (c.requires.numbers c.args.g)

pub overflow_cast-result-8 : goal.overflow_cast-result-8
overflow_cast-result-8 c = wide_fits (c.requires.numbers c.args.h)

pub returns : goal.returns
returns c =
    let n = c.requires.numbers in
    line_of_lem (wide (n c.args.a)) (wide (n c.args.b)) (wide (n c.args.c)) (wide (n c.args.d)) (wide (n c.args.e))
    (wide (n c.args.f)) (wide (n c.args.g)) (wide (n c.args.h))
