-- `h263_words::cbpy` meets its contract: the entry for six bits settles the codeword.
use mathlib.Core.Path.{refl, ap, ◌∙◌}
use native.Mathlib.Omega.{arith}
use Rattle.bits.specs.Answer.{as_field}
use Rattle.bits.proofs.Value.{value-lt}
use Rattle.h263_words.proofs.Outcomes.{pattern_is}
use Rattle.h263_words.proofs.cbpy.Goals as goal

pub bounds-tables-number : goal.bounds-tables-number
bounds-tables-number c = let a = c.args in omega (arith, c.window.ensures, value-lt a.bytes.now a.at 24)

pub returns : goal.returns
returns c =
    let a = c.args in
    ap (as_field a.bytes.now a.count) c.word.ensures
    ∙ pattern_is a.tables.now a.bytes.now a.count a.at c.window.result c.requires.0 c.requires.1.inside c.window.ensures _ refl
