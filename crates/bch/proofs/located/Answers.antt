-- `bch::located` meets its contract.
use mathlib.Core.Path.{ap, ◌∙◌}
use Prim.Native.Nat.{ℕ}
use borrow.Author.Rules.{rules}
use lib.ListN.{get_or}
use Rattle.bch.specs.Locate.{first_logs, second_logs}
use Rattle.bch.proofs.Lookups.{low, firsts, seconds, locate-none, locate-some}
use Rattle.bch.proofs.located.Goals as goal

pub returns-then-r-eq0 : goal.returns-then-r-eq0
returns-then-r-eq0 c = locate-none c.args.r c.if-r-eq0.true

pub log_tables-table-requires : goal.log_tables-table-requires
log_tables-table-requires c = search rules

pub part-requires : goal.part-requires
part-requires c = search rules

pub overflow_cast-part : goal.overflow_cast-part
overflow_cast-part c = search rules

pub entry-u-requires : goal.entry-u-requires
entry-u-requires c = search rules

pub part-requires-2 : goal.part-requires-2
part-requires-2 c = search rules

pub overflow_cast-part-2 : goal.overflow_cast-part-2
overflow_cast-part-2 c = search rules

pub overflow_add-part : goal.overflow_add-part
overflow_add-part c = search rules

pub entry-v-requires : goal.entry-v-requires
entry-v-requires c = search rules

pub sought-requires : goal.sought-requires
sought-requires c =
    let h = c.log_tables-table.ensures in
    (h, low h _ c.entry-u.ensures, low h _ c.entry-v.ensures)

pub returns : goal.returns
returns c =
    let h = c.log_tables-table.ensures in
    let second = c.part-2.ensures in
    c.sought.ensures
    ∙ locate-some _ c.entry-u.result c.entry-v.result c.if-r-eq0.false
    (c.entry-u.ensures ∙ firsts h _ c.part.ensures.1 ∙ ap (λ (s : ℕ). get_or first_logs s 0) c.part.ensures.0)
    (c.entry-v.ensures ∙ seconds h _ second.1 ∙ ap (λ (s : ℕ). get_or second_logs s 0) second.0)
