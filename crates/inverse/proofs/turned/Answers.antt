-- `inverse::turned` meets its contract: row u is column u, narrowed.
use Rattle.quantiser.proofs.Lines.{block_of}
use Rattle.inverse.proofs.turned.Goals as goal

pub returns : goal.returns
returns c =
    block_of c.narrowed.ensures c.narrowed-2.ensures c.narrowed-3.ensures c.narrowed-4.ensures c.narrowed-5.ensures c.narrowed-6.ensures c.narrowed-7.ensures c.narrowed-8.ensures
