-- `h263_words::mcbpc` meets its contract: in either picture's table the entry for nine bits settles the codeword.
use mathlib.Core.Path.{refl, ap, ◌∙◌}
use native.Mathlib.Omega.{arith}
use Rattle.bits.specs.Answer.{as_field}
use Rattle.bits.proofs.Value.{value-lt}
use Rattle.h263_words.proofs.Outcomes.{intra_is, inter_is}
use Rattle.h263_words.proofs.mcbpc.Goals as goal

pub bounds-tables-number : goal.bounds-tables-number
bounds-tables-number c = let a = c.args in omega (arith, c.window.ensures, value-lt a.bytes.now a.at 24)

pub returns-then-intra : goal.returns-then-intra
returns-then-intra c =
    let a = c.args in
    rw c.if-intra.true
    (ap (as_field a.bytes.now a.count) c.word.ensures
    ∙ intra_is a.tables.now a.bytes.now a.count a.at c.window.result c.requires.0 c.requires.1.inside c.window.ensures _ refl)

pub bounds-tables-number-2 : goal.bounds-tables-number-2
bounds-tables-number-2 c = let a = c.args in omega (arith, c.window.ensures, value-lt a.bytes.now a.at 24)

pub returns : goal.returns
returns c =
    let a = c.args in
    rw c.if-intra.false
    (ap (as_field a.bytes.now a.count) c.word-2.ensures
    ∙ inter_is a.tables.now a.bytes.now a.count a.at c.window.result c.requires.0 c.requires.1.inside c.window.ensures _ refl)
