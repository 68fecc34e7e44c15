-- `vault::write_block` meets its contract: the stores one after another. Assumes nothing.
use native.Mathlib.Omega.{arith}
use lib.ListN.{length-set}
use Rattle.vault.specs.Parts.{payload_at}
use Rattle.vault.proofs.KeptLaws.{payload_length}
use Rattle.vault.proofs.Made.{stored}
use Rattle.vault.proofs.write_block.Goals as goal

pub bounds-block-509 : goal.bounds-block-509
bounds-block-509 c = simp length-set (omega arith)

pub write_sum-requires : goal.write_sum-requires
write_sum-requires c = simp length-set (omega arith)

pub returns : goal.returns
returns c =
    let header = c.args.header in
    stored header (payload_at c.args.bytes.now c.args.count header.part) (payload_length _ _ _) c.args.block.now c.requires.0.block_long _ _ _
    c.write_head.ensures c.write_payload.ensures c.write_sum.ensures
