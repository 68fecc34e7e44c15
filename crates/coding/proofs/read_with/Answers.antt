-- `coding::read_with` meets its contract: the scratch has room for the kind. Assumes nothing.
use Rattle.coding.proofs.Scratch.{scratch_zeros}
use Rattle.coding.proofs.read_with.Goals as goal

pub read_in-requires : goal.read_in-requires
read_in-requires g c =
    (scratch_zeros c.args.kind c.requires.room c.head_length-heads.ensures c.macroblocks_length-fours.ensures c.levels_length-numbers.ensures, c.requires.lengths)
