-- `vault::blocks` meets its contract. The loop's invariant: the blocks of the parts passed stand in `out`, and what follows is as it was.
-- Assumes nothing.
use Rattle.vault.proofs.BlocksStored.{Stored}
use Rattle.vault.proofs.blocks.Given as goal

abbrev pub invariant-loop-part : goal.invariant-loop-part
invariant-loop-part l = Stored l.standard l.clip l.picture l.refresh l.bytes l.count l.initial.out l.out l.part
