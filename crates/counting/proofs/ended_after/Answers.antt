-- `counting::ended_after` meets its contract: by the lengths, then by the judgement of the block. Assumes nothing.
use mathlib.Core.Path.{sym, ap, ◌∙◌}
use Rattle.vault.specs.Block.{told_checked}
use Rattle.receiver.proofs.Laws.{ready}
use Rattle.counting.proofs.Endings.{good_ends, refused_ends, short_ends}
use Rattle.counting.proofs.ended_after.Goals as goal

pub ended_by-requires : goal.ended_by-requires
ended_by-requires c =
    let a = c.args in
    let fitting = (ready a.receiver.kind _ a.receiver.clip _ a.block.now a.collection.now a.first.now a.second.now c.size_of-size.ensures (sym c.named.ensures ∙ c.if-named.true)
    (sym c.judge.ensures ∙ ap told_checked c.in-Ok.is)).fitting in
    (fitting.part_is, fitting.used_is)

pub returns-in-Ok : goal.returns-in-Ok
returns-in-Ok c =
    let a = c.args in
    good_ends a.receiver a.block.now a.collection.now a.first.now a.second.now c.size_of-size.ensures c.named.ensures c.standard_of-standard.ensures c.if-named.true c.judge.ensures (ap told_checked c.in-Ok.is) c.ended_by.ensures

pub returns-in-Err : goal.returns-in-Err
returns-in-Err c =
    let a = c.args in
    refused_ends a.receiver a.block.now a.collection.now a.first.now a.second.now c.size_of-size.ensures c.named.ensures c.standard_of-standard.ensures c.if-named.true c.judge.ensures (ap told_checked c.in-Err.is)

pub returns-else-named : goal.returns-else-named
returns-else-named c =
    let a = c.args in
    short_ends a.receiver a.block.now a.collection.now a.first.now a.second.now c.size_of-size.ensures c.named.ensures c.if-named.false
