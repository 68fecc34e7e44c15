-- `h261_words::coefficient` meets its contract: the entry says what the bits decide, and there is a law for each return.
use native.Mathlib.Omega.{arith}
use Rattle.bits.proofs.Value.{value-lt}
use Rattle.bits.proofs.SettledWords.{Known}
use Rattle.h261_words.specs.Tables.{table_of}
use Rattle.h261_words.specs.Lookup.{tail}
use Rattle.h261_words.proofs.Outcomes.{known, short, none, end, escape-bad, escape_good, pair_level, pair_plus, pair_minus}
use Rattle.h261_words.proofs.coefficient.Goals as goal
use Rattle.h261_words.proofs.coefficient.Goals.{After-looked_up-e}

look : (c : After-looked_up-e) → let a = c.args in Known tail (table_of a.first) a.bytes.now a.count a.at c.looked_up-e.result
look c =
    let a = c.args in
    rw c.looked_up-e.ensures (known a.tables.now a.bytes.now a.count a.at c.window-bits.result a.first
    c.requires.0 c.window-bits.ensures)

pub looked_up-e-requires : goal.looked_up-e-requires
looked_up-e-requires c = omega (arith, c.window-bits.ensures, value-lt c.args.bytes.now c.args.at 24)

pub returns-then-count-at : goal.returns-then-count-at
returns-then-count-at c = short c.args.first c.requires.1.inside (look (goal.at.returns-then-count-at c).After-looked_up-e) c.if-count-at.true

pub returns-then-meaning-eq0 : goal.returns-then-meaning-eq0
returns-then-meaning-eq0 c =
    none c.args.first c.requires.1.inside (look (goal.at.returns-then-meaning-eq0 c).After-looked_up-e) c.if-count-at.false c.if-meaning-eq0.true

pub returns-then-meaning-eq1 : goal.returns-then-meaning-eq1
returns-then-meaning-eq1 c =
    end c.args.first c.requires.1.inside (look (goal.at.returns-then-meaning-eq1 c).After-looked_up-e) c.if-count-at.false c.if-meaning-eq1.true

pub overflow_sub-after : goal.overflow_sub-after
overflow_sub-after c = omega (arith, (look (goal.at.overflow_sub-after c).After-looked_up-e).1.small)

pub returns-then-code-eq0 : goal.returns-then-code-eq0
returns-then-code-eq0 c =
    escape-bad c.args.first c.requires.1.inside (look (goal.at.returns-then-code-eq0 c).After-looked_up-e) c.if-count-at.false _ c.window-bits.ensures c.if-meaning-eq513.true c.if-code-eq0.true

pub returns-then-meaning-eq513 : goal.returns-then-meaning-eq513
returns-then-meaning-eq513 c =
    escape_good c.args.first c.requires.1.inside (look (goal.at.returns-then-meaning-eq513 c).After-looked_up-e) c.if-count-at.false _ c.window-bits.ensures c.if-meaning-eq513.true c.if-code-eq0.false

pub overflow_cast-result-else-taken-eq0-2 : goal.overflow_cast-result-else-taken-eq0-2
overflow_cast-result-else-taken-eq0-2 c =
    omega (arith, pair_level c.args.first c.requires.1.inside (look (goal.at.overflow_cast-result-else-taken-eq0-2 c).After-looked_up-e) c.if-count-at.false c.if-meaning-eq0.false c.if-meaning-eq1.false c.if-meaning-eq513.false)

pub returns-then-taken-eq0 : goal.returns-then-taken-eq0
returns-then-taken-eq0 c =
    pair_plus c.args.first c.requires.1.inside (look (goal.at.returns-then-taken-eq0 c).After-looked_up-e) c.if-count-at.false _ c.window-bits.ensures c.if-meaning-eq0.false c.if-meaning-eq1.false
    c.if-meaning-eq513.false c.if-taken-eq0.true

pub returns-else-taken-eq0 : goal.returns-else-taken-eq0
returns-else-taken-eq0 c =
    pair_minus c.args.first c.requires.1.inside (look (goal.at.returns-else-taken-eq0 c).After-looked_up-e) c.if-count-at.false _ c.window-bits.ensures c.if-meaning-eq0.false c.if-meaning-eq1.false
    c.if-meaning-eq513.false c.if-taken-eq0.false
