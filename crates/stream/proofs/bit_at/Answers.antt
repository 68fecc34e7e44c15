-- `stream::bit_at` meets its contract. Assumes nothing.
use Rattle.stream.proofs.Bytes.{bit_is}
use Rattle.stream.proofs.bit_at.Goals as goal

pub returns : goal.returns
returns c = bit_is c.args.bytes.now c.args.at
