-- `h263_layers::macroblock::moved` meets its contract: the vector, where the type has one.
use Rattle.layout.specs.Value.{zero_vector}
use Rattle.h263_words.specs.Words.{is_inter}
use Rattle.h263_layers.specs.Answer.{vector_kept}
use Rattle.h263_layers.specs.Vector.{vector_read}
use Rattle.h263_layers.proofs.MacroblockSteps.{optional_there, optional-not}
use Rattle.h263_layers.proofs.macroblock.moved.Goals as goal

pub returns-then-is_inter : goal.returns-then-is_inter
returns-then-is_inter c =
    let a = c.args in
    optional_there (is_inter a.kind) c.is_inter.result zero_vector (vector_read a.size a.number a.address (vector_kept a.predicted)) _ _ c.is_inter.ensures _ c.if-is_inter.true
    c.vector.ensures

pub returns : goal.returns
returns c =
    let a = c.args in
    optional-not (is_inter a.kind) c.is_inter.result zero_vector (vector_read a.size a.number a.address (vector_kept a.predicted)) _ _ c.is_inter.ensures c.if-is_inter.false
