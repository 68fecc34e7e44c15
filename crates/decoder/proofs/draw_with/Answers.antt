-- `decoder::draw_with` meets its contract: the scratch has room for the kind. Assumes nothing.
use Rattle.coding.proofs.Scratch.{scratch_zeros}
use Rattle.decoder.proofs.draw_with.Goals as goal

pub draw_in-requires : goal.draw_in-requires
draw_in-requires g c =
    record {
      blank = scratch_zeros c.args.kind c.requires.room c.head_length-heads.ensures c.macroblocks_length-fields.ensures c.levels_length-coefficients.ensures;
      drawing = c.requires.drawing;
    }
