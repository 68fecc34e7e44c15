-- `h263_reader::parse_counted` meets its contract: the count is refused, or the header is, or what follows it, and the buffers are cleared; or the picture is laid out.
use mathlib.Core.Path.{refl, sym, ap, ◌∙◌}
use Rattle.fields.specs.Answer.{refused_picture}
use Rattle.fields.proofs.Told.{no_place}
use Rattle.fields.proofs.PictureAnswer.{above_by}
use Rattle.levels.proofs.Buffers.{zeros-flat, zeros_lengths}
use Rattle.h263_description.specs.Value.{shape}
use Rattle.h263_reader.proofs.ParseSteps.{described_above, lent_placed, described_no_header, header_placed, described-header, refused_blank, read_laid}
use Rattle.h263_reader.proofs.parse_counted.Goals as goal

pub returns-then-count_above : goal.returns-then-count_above
returns-then-count_above c =
    let all = refused_blank c.args.size _ _ (described_above c.args.size c.args.bytes.now c.args.count c.count_above.result (above_by _ _ c.count_above.ensures c.limit.ensures) c.if-count_above.true) refl c.requires in
    record { verdict = all.0; buffers = all.1.0; reads = all.1.1 }

pub header-opened-requires : goal.header-opened-requires
header-opened-requires c =
    lent_placed c.args.size c.args.bytes.now c.args.count c.count_above.result (above_by _ _ c.count_above.ensures c.limit.ensures) c.if-count_above.false

pub laid-read-requires : goal.laid-read-requires
laid-read-requires c = (
  header_placed c.args.size c.args.bytes.now c.args.count c.count_above.result (above_by _ _ c.count_above.ensures c.limit.ensures) c.if-count_above.false c.header-opened.result
      c.header-opened.ensures _ _ c.in-Got.is,
  c.requires,
)

pub returns-in_default : goal.returns-in_default
returns-in_default c =
    let long = zeros_lengths (shape c.args.size) c.requires in
    let described = described-header c.args.size c.args.bytes.now c.args.count c.count_above.result (above_by _ _ c.count_above.ensures c.limit.ensures) c.if-count_above.false c.header-opened.result
    c.header-opened.ensures _ _ c.in-Got.is in
    let all = refused_blank c.args.size _ _ (no_place _ _ _ c.laid-read.result c.in_default.is (c.laid-read.ensures ∙ sym described))
    (c.refused_picture-in_default.ensures ∙ ap refused_picture c.stopped.ensures)
    (zeros-flat (shape c.args.size) c.clear.ensures (c.laid-read.auto.head ∙ long.head_length) c.clear-in_default.ensures
    (c.laid-read.auto.macroblocks ∙ long.macroblocks_length) c.clear-in_default-2.ensures (c.laid-read.auto.levels ∙ long.levels_length)) in
    record { verdict = all.0; buffers = all.1.0; reads = all.1.1 }

pub returns-in-Refused : goal.returns-in-Refused
returns-in-Refused c =
    let all = refused_blank c.args.size _ _
    (described_no_header c.args.size c.args.bytes.now c.args.count c.count_above.result (above_by _ _ c.count_above.ensures c.limit.ensures) c.if-count_above.false c.header-opened.result
    c.header-opened.ensures _ c.in-Refused.is)
    c.refused_picture.ensures c.requires in
    record { verdict = all.0; buffers = all.1.0; reads = all.1.1 }

pub returns-in-Got-read : goal.returns-in-Got-read
returns-in-Got-read c =
    let described = described-header c.args.size c.args.bytes.now c.args.count c.count_above.result (above_by _ _ c.count_above.ensures c.limit.ensures) c.if-count_above.false c.header-opened.result
    c.header-opened.ensures _ _ c.in-Got.is in
    let all = read_laid c.args.size _ _ c.laid-read.result _ (c.laid-read.ensures ∙ sym described) _ c.in-Got-read.is in
    record { verdict = all.0; buffers = all.1.0; reads = all.1.1 }
