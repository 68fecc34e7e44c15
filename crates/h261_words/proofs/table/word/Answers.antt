-- `h261_words::table::word` meets its contract: the entries and the tree that stand in the array are right for the table.
use mathlib.Core.Path.{◌∙◌}
use borrow.Author.Rules.{rules}
use Rattle.h261_words.proofs.Stands.{stands_room, stands_short, reads, reads_without}
use Rattle.h261_words.proofs.table.word.Goals as goal

pub entry-e-requires : goal.entry-e-requires
entry-e-requires o c =
    let h = o.met.W.Codewords.stands in
    let room = stands_room h c.ENTRIES.ensures c.WIDTH.ensures in
    record { room = search rules; short = stands_short h c.ENTRIES.ensures c.WIDTH.ensures; inside = c.requires.1.inside }

pub returns-then-length-eq0 : goal.returns-then-length-eq0
returns-then-length-eq0 o c =
    c.without_entry.ensures
    ∙ reads_without o.met.W.Codewords.stands c.ENTRIES.ensures c.WIDTH.ensures c.requires.0 c.requires.1 c.entry-e.ensures c.name.ensures c.TREE.ensures c.if-length-eq0.true

pub overflow_add-result : goal.overflow_add-result
overflow_add-result o c =
    let room = ((reads o.met.W.Codewords.stands c.ENTRIES.ensures c.WIDTH.ensures c.requires.0 c.requires.1 c.entry-e.ensures).found c.if-length-eq0.false).room in search rules

pub returns : goal.returns
returns o c =
    ((reads o.met.W.Codewords.stands c.ENTRIES.ensures c.WIDTH.ensures c.requires.0 c.requires.1 c.entry-e.ensures).found c.if-length-eq0.false).word_is
