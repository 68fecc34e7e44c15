-- `decoder::draw` meets its contract: by the size, whose scratch has room for the kind. Assumes nothing.
use borrow.Author.Rules.{rules}
use mathlib.Core.Path.{ap}
use native.Mathlib.Omega.{arith}
use Rattle.size.specs.Size.{limit}
use Rattle.coding.proofs.Scratch.{room_small, room_large}
use Rattle.decoder.proofs.draw.Goals as goal

pub draw_with-requires : goal.draw_with-requires
draw_with-requires c =
    record { room = room_small c.args.kind c.size_of-size.ensures (omega (arith, ap limit c.in-SubQcif.is)); drawing = c.requires; sizes = search rules }

pub draw_with-requires-in-Qcif : goal.draw_with-requires-in-Qcif
draw_with-requires-in-Qcif c =
    record { room = room_small c.args.kind c.size_of-size.ensures (omega (arith, ap limit c.in-Qcif.is)); drawing = c.requires; sizes = search rules }

pub draw_with-requires-in-Cif : goal.draw_with-requires-in-Cif
draw_with-requires-in-Cif c = record { room = room_large c.args.kind; drawing = c.requires; sizes = search rules }
