-- `h263_stream::read` meets its contract: it reads the picture of those bits. Assumes nothing.
use Rattle.layout.specs.Flat.{flat}
use Rattle.h263_stream.proofs.Dropped.{read_bits}
use Rattle.h263_stream.proofs.read.Goals as goal

pub returns : goal.returns
returns c =
    let a = c.args in
    let all = read_bits a.size a.bytes.now a.count (flat a.head.now a.macroblocks.now a.levels.now) c.picture_bits-bits.ensures c.read-read.ensures.verdict c.read-read.ensures.buffers in
    record { verdict = all.0; buffers = all.1 }
