-- `h263_words::event` meets its contract: the entry settles the codeword, and there is a law for each return.
use native.Mathlib.Omega.{arith}
use Rattle.bits.proofs.Value.{value-lt}
use Rattle.bits.proofs.SettledWords.{Known}
use Rattle.h263_words.specs.Tables.{tcoef}
use Rattle.h263_words.specs.Lookup.{tail}
use Rattle.h263_words.proofs.Outcomes.{known, short, none, escape-bad, escape_good, event_level, event_plus, event_minus}
use Rattle.h263_words.proofs.event.Goals as goal
use Rattle.h263_words.proofs.event.Goals.{After-looked_up-e}

look : (c : After-looked_up-e) → let a = c.args in Known tail tcoef a.bytes.now a.count a.at c.looked_up-e.result
look c =
    let a = c.args in
    rw c.looked_up-e.ensures (known a.tables.now a.bytes.now a.count a.at c.window-bits.result c.requires.0 c.window-bits.ensures)

pub looked_up-e-requires : goal.looked_up-e-requires
looked_up-e-requires c = let a = c.args in omega (arith, c.window-bits.ensures, value-lt a.bytes.now a.at 24)

pub returns-then-count-at : goal.returns-then-count-at
returns-then-count-at c = short c.requires.1.inside (look (goal.at.returns-then-count-at c).After-looked_up-e) c.if-count-at.true

pub overflow_sub-after : goal.overflow_sub-after
overflow_sub-after c = omega (arith, (look (goal.at.overflow_sub-after c).After-looked_up-e).1.small)

pub returns-then-meaning-eq0 : goal.returns-then-meaning-eq0
returns-then-meaning-eq0 c =
    none c.requires.1.inside (look (goal.at.returns-then-meaning-eq0 c).After-looked_up-e) c.if-count-at.false c.if-meaning-eq0.true

pub returns-then-code-eq0 : goal.returns-then-code-eq0
returns-then-code-eq0 c =
    escape-bad c.requires.1.inside (look (goal.at.returns-then-code-eq0 c).After-looked_up-e) c.if-count-at.false _ c.window-bits.ensures (omega (arith, c.if-meaning-lt2.true, c.if-meaning-eq0.false)) c.if-code-eq0.true

pub returns-then-meaning-lt2 : goal.returns-then-meaning-lt2
returns-then-meaning-lt2 c =
    escape_good c.requires.1.inside (look (goal.at.returns-then-meaning-lt2 c).After-looked_up-e) c.if-count-at.false _ c.window-bits.ensures (omega (arith, c.if-meaning-lt2.true, c.if-meaning-eq0.false)) c.if-code-eq0.false

pub overflow_cast-result-else-taken-eq0 : goal.overflow_cast-result-else-taken-eq0
overflow_cast-result-else-taken-eq0 c =
    omega (arith, event_level c.requires.1.inside (look (goal.at.overflow_cast-result-else-taken-eq0 c).After-looked_up-e) c.if-count-at.false (λ z. omega (arith, c.if-meaning-lt2.false)) (λ z. omega (arith, c.if-meaning-lt2.false)))

pub returns-then-taken-eq0 : goal.returns-then-taken-eq0
returns-then-taken-eq0 c =
    event_plus c.requires.1.inside (look (goal.at.returns-then-taken-eq0 c).After-looked_up-e) c.if-count-at.false _ c.window-bits.ensures (λ z. omega (arith, c.if-meaning-lt2.false)) (λ z. omega (arith, c.if-meaning-lt2.false)) c.if-taken-eq0.true

pub returns-else-taken-eq0 : goal.returns-else-taken-eq0
returns-else-taken-eq0 c =
    event_minus c.requires.1.inside (look (goal.at.returns-else-taken-eq0 c).After-looked_up-e) c.if-count-at.false _ c.window-bits.ensures (λ z. omega (arith, c.if-meaning-lt2.false)) (λ z. omega (arith, c.if-meaning-lt2.false)) c.if-taken-eq0.false
