-- `arguments::size_named` meets its contract: by the three comparisons. Assumes nothing.
use Rattle.arguments.proofs.Left.{names_sub_qcif, names_qcif, names_cif, names_none}
use Rattle.arguments.proofs.size_named.Goals as goal

pub returns-then-same : goal.returns-then-same
returns-then-same c = names_sub_qcif c.args.word.now c.same.ensures c.if-same.true

pub returns-then-same-2 : goal.returns-then-same-2
returns-then-same-2 c =
    let word = c.args.word.now in
    names_qcif word c.same.ensures c.if-same.false c.same-2.ensures c.if-same-2.true

pub returns-then-same-3 : goal.returns-then-same-3
returns-then-same-3 c =
    let word = c.args.word.now in
    names_cif word c.same.ensures c.if-same.false c.same-2.ensures c.if-same-2.false c.same-3.ensures c.if-same-3.true

pub returns : goal.returns
returns c =
    let word = c.args.word.now in
    names_none word c.same.ensures c.if-same.false c.same-2.ensures c.if-same-2.false c.same-3.ensures c.if-same-3.false
