-- `h261_reader::parse_counted` meets its contract: the count is refused, or the header is, or a group is, and the buffers are cleared; or the groups are laid out.
use Prim.Native.Nat.{zero-le, ◌*◌}
use Rattle.h261_groups.specs.Format.{size_of}
use mathlib.Core.Path.{◌≡◌, refl, ap, ◌∙◌}
use native.Mathlib.Omega.{arith}
use lib.Dec.{ltb}
use lib.ListN.{length, length-set}
use Rattle.laws.specs.Choice.{either}
use Rattle.h261_layers.proofs.Layers as layers
use Rattle.bits.specs.Answer.{Placed}
use Rattle.fields.specs.Answer.{place_of, refused_picture}
use Rattle.fields.proofs.Told.{within_next, no_place}
use Rattle.fields.proofs.PictureAnswer.{above_by}
use Rattle.levels.proofs.Buffers.{zeros-flat, zeros_lengths}
use Rattle.size.specs.Size.{limit}
use Rattle.h261_description.specs.Value.{shape}
use Rattle.h261_reader.proofs.ParseSteps.{described_count, bounds, limit_low, described_no_header, header_is, groups_described, refused_blank, read_laid}
use Rattle.h261_reader.proofs.parse_counted.Goals as goal
use Rattle.h261_reader.proofs.parse_counted.Goals.{After-groups-arg-3-1, After-refused_picture, After-refused_picture-in_default-read, Else-count_above, In-Got-read, Then-count_above}

above_is : (c : Then-count_above) → c.count_above.result ≡ either (ltb (8 * length c.args.bytes.now) c.args.count) (ltb (limit (size_of c.args.format)) c.args.count)
above_is c = above_by (length c.args.bytes.now) c.args.count c.count_above.ensures c.limit.ensures

above_is-at2 : (c : Else-count_above) → c.count_above.result ≡ either (ltb (8 * length c.args.bytes.now) c.args.count) (ltb (limit (size_of c.args.format)) c.args.count)
above_is-at2 c = above_by (length c.args.bytes.now) c.args.count c.count_above.ensures c.limit.ensures

lent : (c : Else-count_above) → Placed c.args.bytes.now c.args.count (place_of 0 0)
lent c =
    let h = bounds c.args.format c.args.bytes.now _ c.count_above.result (above_is-at2 c) c.if-count_above.false in
    record { within = record { lent = h.0; inside = zero-le }; countable = omega (arith, h.1, limit_low c.args.format) }

above_is-at3 : (c : After-refused_picture) → c.count_above.result ≡ either (ltb (8 * length c.args.bytes.now) c.args.count) (ltb (limit (size_of c.args.format)) c.args.count)
above_is-at3 c = above_by (length c.args.bytes.now) c.args.count c.count_above.ensures c.limit.ensures

above_is-at4 : (c : After-groups-arg-3-1) → c.count_above.result ≡ either (ltb (8 * length c.args.bytes.now) c.args.count) (ltb (limit (size_of c.args.format)) c.args.count)
above_is-at4 c = above_by (length c.args.bytes.now) c.args.count c.count_above.ensures c.limit.ensures

above_is-at5 : (c : After-refused_picture-in_default-read) → c.count_above.result ≡ either (ltb (8 * length c.args.bytes.now) c.args.count) (ltb (limit (size_of c.args.format)) c.args.count)
above_is-at5 c = above_by (length c.args.bytes.now) c.args.count c.count_above.ensures c.limit.ensures

above_is-at6 : (c : In-Got-read) → c.count_above.result ≡ either (ltb (8 * length c.args.bytes.now) c.args.count) (ltb (limit (size_of c.args.format)) c.args.count)
above_is-at6 c = above_by (length c.args.bytes.now) c.args.count c.count_above.ensures c.limit.ensures

pub returns-then-count_above : goal.returns-then-count_above
returns-then-count_above c =
    let all = refused_blank c.args.format _ _ (described_count c.args.format c.args.bytes.now c.args.count c.count_above.result (above_is c) c.if-count_above.true) refl c.requires in
    record { verdict = all.0; buffers = all.1.0; reads = all.1.1 }

pub header-opened-requires : goal.header-opened-requires
header-opened-requires c = lent c

pub returns-in_default : goal.returns-in_default
returns-in_default c =
    let all = refused_blank c.args.format _ _
    (described_no_header _ _ _ c.count_above.result (above_is-at3 c) c.if-count_above.false c.header-opened.result c.header-opened.ensures
    c.in_default.is)
    (c.refused_picture.ensures ∙ ap refused_picture c.stopped.ensures) c.requires in
    record { verdict = all.0; buffers = all.1.0; reads = all.1.1 }

pub bounds-head-0 : goal.bounds-head-0
bounds-head-0 c = omega (arith, (zeros_lengths (shape c.args.format) c.requires).head_length)

pub bounds-head-1 : goal.bounds-head-1
bounds-head-1 c = simp length-set (omega (arith, (zeros_lengths (shape c.args.format) c.requires).head_length))

pub bounds-head-2 : goal.bounds-head-2
bounds-head-2 c = simp length-set (omega (arith, (zeros_lengths (shape c.args.format) c.requires).head_length))

pub groups-read-requires : goal.groups-read-requires
groups-read-requires c =
    let long = zeros_lengths (shape c.args.format) c.requires in (
      record {
        tabled = c.tables-tables.ensures;
        placed = within_next _ _ _ _ _ (layers.header_reads c.args.format) (lent (goal.at.groups-read-requires c).Else-count_above)
            (header_is _ _ _ c.count_above.result (above_is-at4 c) c.if-count_above.false c.header-opened.result c.header-opened.ensures _ _ _
            c.in-Got.is);
      },
      record { head_length = simp length-set long.head_length; macroblocks_length = long.macroblocks_length; levels_length = long.levels_length },
    )

pub returns-in_default-read : goal.returns-in_default-read
returns-in_default-read c =
    let long = zeros_lengths (shape c.args.format) c.requires in
    let laid = groups_described _ _ _ _ (above_is-at5 c) c.if-count_above.false c.header-opened.result c.header-opened.ensures c.in-Got.is
    c.bit.ensures c.requires c.groups-read.ensures in
    let all = refused_blank c.args.format _ _ (no_place _ _ _ c.groups-read.result c.in_default-read.is laid)
    (c.refused_picture-in_default-read.ensures ∙ ap refused_picture c.stopped-in_default-read.ensures)
    (zeros-flat (shape c.args.format) c.clear.ensures (c.groups-read.auto.head ∙ simp length-set long.head_length) c.clear-in_default-read.ensures
    (c.groups-read.auto.macroblocks ∙ long.macroblocks_length) c.clear-in_default-read-2.ensures (c.groups-read.auto.levels ∙ long.levels_length)) in
    record { verdict = all.0; buffers = all.1.0; reads = all.1.1 }

pub returns : goal.returns
returns c =
    let laid = groups_described _ _ _ _ (above_is-at6 c) c.if-count_above.false c.header-opened.result c.header-opened.ensures c.in-Got.is
    c.bit.ensures c.requires c.groups-read.ensures in
    let all = read_laid c.args.format _ _ c.groups-read.result _ laid _ c.in-Got-read.is in
    record { verdict = all.0; buffers = all.1.0; reads = all.1.1 }
