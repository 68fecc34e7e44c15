-- `group::group` meets its contract: the fields one after another, then the macroblocks.
use native.Mathlib.Omega.{arith}
use Rattle.bits.proofs.Appended.{first_part, second_part, third_part, fourth_part, fifth_part, fixed_fits}
use Rattle.h261_writer.proofs.GroupTurn.{group_parts, number_fits, gquant_fits, macroblocks_asked, group_whole}
use Rattle.h261_writer.proofs.group.group.Goals as goal

pub append-started-requires : goal.append-started-requires
append-started-requires c = (fixed_fits 16 1 tt tt tt, first_part (group_parts c.requires))

pub overflow_cast-number : goal.overflow_cast-number
overflow_cast-number c = omega (arith, c.requires.numbered)

pub append-numbered-requires : goal.append-numbered-requires
append-numbered-requires c = let g = c.requires in (number_fits g, second_part (group_parts g) c.append-started.ensures)

pub append-quantised-requires : goal.append-quantised-requires
append-quantised-requires c =
    let g = c.requires in
    (gquant_fits g, third_part (group_parts g) c.append-started.ensures c.append-numbered.ensures)

pub append-ready-requires : goal.append-ready-requires
append-ready-requires c =
    (fixed_fits 1 0 tt tt tt, fourth_part (group_parts c.requires) c.append-started.ensures c.append-numbered.ensures c.append-quantised.ensures)

pub macroblocks-requires : goal.macroblocks-requires
macroblocks-requires c =
    let g = c.requires in
    macroblocks_asked g (fifth_part (group_parts g) c.append-started.ensures c.append-numbered.ensures c.append-quantised.ensures c.append-ready.ensures)

pub returns : goal.returns
returns c =
    group_whole c.requires c.append-started.ensures c.append-numbered.ensures c.append-quantised.ensures c.append-ready.ensures c.macroblocks.ensures
