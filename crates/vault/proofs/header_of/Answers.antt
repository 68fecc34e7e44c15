-- `vault::header_of` meets its contract: field by field. Assumes nothing.
use Rattle.vault.specs.Block.{last_of, refresh_of, part_of}
use Rattle.vault.proofs.header_of.Goals as goal

pub returns : goal.returns
returns c =
    let block = c.args.block.now in
    λ i.
    record {
      standard = c.standard_in-standard.ensures i;
      clip = c.pair.ensures i;
      picture = c.picture_of.ensures i;
      part = part_of block;
      last = last_of block;
      refresh = refresh_of block;
      used = c.pair-2.ensures i;
    }
