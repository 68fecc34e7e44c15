-- `h263_words::mvd` meets its contract: the entry for thirteen bits, or for the first eight of them, settles the codeword.
use mathlib.Core.Path.{ap, ◌∙◌}
use native.Mathlib.Omega.{arith}
use Rattle.bits.specs.Answer.{as_field}
use Rattle.bits.proofs.Value.{value-lt}
use Rattle.h263_words.proofs.Outcomes.{difference_is}
use Rattle.h263_words.proofs.mvd.Goals as goal

pub looked_up-e-requires : goal.looked_up-e-requires
looked_up-e-requires c =
    let a = c.args in omega (arith, c.window.ensures, value-lt a.bytes.now a.at 24)

pub returns : goal.returns
returns c =
    let a = c.args in
    ap (as_field a.bytes.now a.count) c.word.ensures
    ∙ difference_is a.tables.now a.bytes.now a.count a.at c.window.result c.requires.0 c.requires.1.inside c.window.ensures _
    c.looked_up-e.ensures
