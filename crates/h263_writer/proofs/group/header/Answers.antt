-- `group::header` meets its contract: by whether it stands, and then the fields one after another.
use borrow.Author.Tests.{not-true, not-false}
use Rattle.bits.proofs.Appended.{fixed_fits, first_part, second_part, third_part, fourth_part}
use Rattle.h263_writer.proofs.GroupTurn.{header_none, header_parts, header_whole, five_fits}
use Rattle.h263_writer.proofs.group.header.Goals as goal

pub returns-then-not-headed : goal.returns-then-not-headed
returns-then-not-headed c =
    header_none c.args.number c.args.gquant c.headed.ensures (not-true _ c.if-not-headed.true-raw)

pub append-started-requires : goal.append-started-requires
append-started-requires c =
    (fixed_fits 17 1 tt tt tt, first_part (header_parts c.args.number c.args.gquant c.headed.ensures (not-false _ c.if-not-headed.false-raw) c.requires.2))

pub append-numbered-requires : goal.append-numbered-requires
append-numbered-requires c =
    (five_fits _ c.requires.0, second_part (header_parts c.args.number c.args.gquant c.headed.ensures (not-false _ c.if-not-headed.false-raw) c.requires.2) c.append-started.ensures)

pub append-framed-requires : goal.append-framed-requires
append-framed-requires c =
    (fixed_fits 2 0 tt tt tt, third_part (header_parts c.args.number c.args.gquant c.headed.ensures (not-false _ c.if-not-headed.false-raw) c.requires.2) c.append-started.ensures c.append-numbered.ensures)

pub append-requires : goal.append-requires
append-requires c =
    (five_fits _ c.requires.1, fourth_part (header_parts c.args.number c.args.gquant c.headed.ensures (not-false _ c.if-not-headed.false-raw) c.requires.2) c.append-started.ensures c.append-numbered.ensures c.append-framed.ensures)

pub returns : goal.returns
returns c =
    header_whole c.args.number c.args.gquant c.headed.ensures (not-false _ c.if-not-headed.false-raw) c.append-started.ensures c.append-numbered.ensures c.append-framed.ensures c.append.ensures
