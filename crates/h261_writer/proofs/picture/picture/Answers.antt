-- `picture::picture` meets its contract: the header's fields one after another, then the groups.
use mathlib.Core.Path.{refl}
use native.Mathlib.Omega.{arith}
use Rattle.bits.proofs.Appended.{first_part, second_part, third_part, fourth_part, fifth_part, fixed_fits}
use Rattle.h261_writer.proofs.GroupTurn.{Described, valid_has, format_bit_lem, head_fits, ptype_fits, picture_parts, picture_whole}
use Rattle.h261_writer.proofs.picture.picture.Goals as goal
use Rattle.h261_writer.proofs.picture.picture.Goals.{After-append-arg-1, After-append-arg-3-1, After-append-arg-4-1, After-bit, After-groups-arg-1, After-shared_slice_known-4-1, After-shared_slice_known-4-1-unread, After-shared_slice_known-5-1, After-shared_slice_known-5-1-unread, After-slice_known-6-1}

described : (s : After-append-arg-1) → Described s.args.format s.args.head.now s.args.macroblocks.now s.args.levels.now
described s = valid_has s.args.format s.args.head.now s.args.macroblocks.now s.args.levels.now s.requires.1

described-at2 : (s : After-shared_slice_known-4-1-unread) → Described s.args.format s.args.head.now s.args.macroblocks.now s.args.levels.now
described-at2 s = valid_has s.args.format s.args.head.now s.args.macroblocks.now s.args.levels.now s.requires.1

described-at3 : (s : After-shared_slice_known-4-1) → Described s.args.format s.args.head.now s.args.macroblocks.now s.args.levels.now
described-at3 s = valid_has s.args.format s.args.head.now s.args.macroblocks.now s.args.levels.now s.requires.1

described-at4 : (s : After-shared_slice_known-5-1-unread) → Described s.args.format s.args.head.now s.args.macroblocks.now s.args.levels.now
described-at4 s = valid_has s.args.format s.args.head.now s.args.macroblocks.now s.args.levels.now s.requires.1

described-at5 : (s : After-shared_slice_known-5-1) → Described s.args.format s.args.head.now s.args.macroblocks.now s.args.levels.now
described-at5 s = valid_has s.args.format s.args.head.now s.args.macroblocks.now s.args.levels.now s.requires.1

described-at6 : (s : After-bit) → Described s.args.format s.args.head.now s.args.macroblocks.now s.args.levels.now
described-at6 s = valid_has s.args.format s.args.head.now s.args.macroblocks.now s.args.levels.now s.requires.1

described-at7 : (s : After-append-arg-3-1) → Described s.args.format s.args.head.now s.args.macroblocks.now s.args.levels.now
described-at7 s = valid_has s.args.format s.args.head.now s.args.macroblocks.now s.args.levels.now s.requires.1

described-at8 : (s : After-append-arg-4-1) → Described s.args.format s.args.head.now s.args.macroblocks.now s.args.levels.now
described-at8 s = valid_has s.args.format s.args.head.now s.args.macroblocks.now s.args.levels.now s.requires.1

described-at9 : (s : After-groups-arg-1) → Described s.args.format s.args.head.now s.args.macroblocks.now s.args.levels.now
described-at9 s = valid_has s.args.format s.args.head.now s.args.macroblocks.now s.args.levels.now s.requires.1

described-at10 : (s : After-slice_known-6-1) → Described s.args.format s.args.head.now s.args.macroblocks.now s.args.levels.now
described-at10 s = valid_has s.args.format s.args.head.now s.args.macroblocks.now s.args.levels.now s.requires.1

pub append-started-requires : goal.append-started-requires
append-started-requires c =
    (fixed_fits 20 16 tt tt tt, first_part (picture_parts (described c) _ refl))

pub bounds-head-0 : goal.bounds-head-0
bounds-head-0 c = omega (arith, (described-at2 c).head_long)

pub append-numbered-requires : goal.append-numbered-requires
append-numbered-requires c =
    (head_fits (described-at3 c), second_part (picture_parts (described-at3 c) _ refl) c.append-started.ensures)

pub bounds-head-1 : goal.bounds-head-1
bounds-head-1 c = omega (arith, (described-at4 c).head_long)

pub overflow_mul-kind : goal.overflow_mul-kind
overflow_mul-kind c = omega (arith, (described-at5 c).ptype)

pub overflow_cast-kind-2 : goal.overflow_cast-kind-2
overflow_cast-kind-2 c = omega (arith, (described-at6 c).ptype)

pub overflow_mul-kind-2 : goal.overflow_mul-kind-2
overflow_mul-kind-2 c = omega (arith, c.bit.ensures, format_bit_lem c.args.format)

pub overflow_add-kind : goal.overflow_add-kind
overflow_add-kind c = omega (arith, c.bit.ensures, format_bit_lem c.args.format, (described-at6 c).ptype)

pub overflow_add-kind-2 : goal.overflow_add-kind-2
overflow_add-kind-2 c = omega (arith, c.bit.ensures, format_bit_lem c.args.format, (described-at6 c).ptype)

pub append-typed-requires : goal.append-typed-requires
append-typed-requires c =
    (ptype_fits (described-at7 c) _ c.bit.ensures, third_part (picture_parts (described-at7 c) _ c.bit.ensures) c.append-started.ensures c.append-numbered.ensures)

pub append-ready-requires : goal.append-ready-requires
append-ready-requires c =
    (fixed_fits 1 0 tt tt tt, fourth_part (picture_parts (described-at8 c) _ c.bit.ensures) c.append-started.ensures c.append-numbered.ensures c.append-typed.ensures)

pub groups-requires : goal.groups-requires
groups-requires c =
    record { tables = c.requires.0; valid = c.requires.1; counts = fifth_part (picture_parts (described-at9 c) _ c.bit.ensures) c.append-started.ensures c.append-numbered.ensures c.append-typed.ensures c.append-ready.ensures }

pub returns : goal.returns
returns c =
    picture_whole (described-at10 c) _ c.bit.ensures c.append-started.ensures c.append-numbered.ensures c.append-typed.ensures c.append-ready.ensures c.groups.ensures
