-- `decoder::draw_in` meets its contract: by the verdict, then by the mark. Assumes nothing.
use Rattle.refusals.specs.Number.{number, read_table}
use Rattle.refusals.proofs.Told.{was_accepted, was_refused}
use Rattle.layout.specs.Flat.{flat}
use Rattle.coding.proofs.AllLawful.{coding_lawful}
use Rattle.decoder.proofs.Steps.{drawn, untrue, unread}
use Rattle.decoder.proofs.draw_in.Goals as goal

pub parse-verdict-requires : goal.parse-verdict-requires
parse-verdict-requires c =
    c.requires.blank

pub is_true-requires : goal.is_true-requires
is_true-requires c =
    let lent = flat c.args.head.now c.args.macroblocks.now c.args.levels.now in
    (coding_lawful.each c.args.kind).reads_valid c.args.bytes.now c.args.count _
    (was_accepted lent _ c.parse-verdict.ensures.verdict c.parse-verdict.ensures.buffers c.in-Ok.is)

pub render-requires : goal.render-requires
render-requires c =
    let lent = flat c.args.head.now c.args.macroblocks.now c.args.levels.now in
    record {
      valid_is = (coding_lawful.each c.args.kind).reads_valid c.args.bytes.now c.args.count _
          (was_accepted lent _ c.parse-verdict.ensures.verdict c.parse-verdict.ensures.buffers c.in-Ok.is);
      reference_long = c.requires.drawing.reference_long;
      store_long = c.requires.drawing.store_long;
    }

pub returns-then-is_true : goal.returns-then-is_true
returns-then-is_true c =
    let lent = flat c.args.head.now c.args.macroblocks.now c.args.levels.now in
    let all = drawn c.args.kind c.args.mark c.args.bytes.now c.args.count c.args.reference.now
    (was_accepted lent _ c.parse-verdict.ensures.verdict c.parse-verdict.ensures.buffers c.in-Ok.is) c.is_true.ensures c.if-is_true.true
    c.tr_of-tr.result c.tr_of-tr.ensures c.args.store.now _ c.render.ensures in
    record { answer = all.0; samples = all.1 }

pub returns-in-Err : goal.returns-in-Err
returns-in-Err c =
    let lent = flat c.args.head.now c.args.macroblocks.now c.args.levels.now in
    let all = unread c.args.kind c.args.mark c.args.bytes.now c.args.count c.args.reference.now
    (was_refused lent _ c.parse-verdict.ensures.verdict c.parse-verdict.ensures.buffers c.in-Err.is) c.args.store.now in
    record { answer = all.0; samples = all.1 }

pub returns-else-is_true : goal.returns-else-is_true
unfolding number read_table
returns-else-is_true c =
    let lent = flat c.args.head.now c.args.macroblocks.now c.args.levels.now in
    let all = untrue c.args.kind c.args.mark c.args.bytes.now c.args.count c.args.reference.now
    (was_accepted lent _ c.parse-verdict.ensures.verdict c.parse-verdict.ensures.buffers c.in-Ok.is) c.is_true.ensures c.if-is_true.false
    c.args.store.now in
    record { answer = all.0; samples = all.1 }
