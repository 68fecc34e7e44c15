-- `h263_layers::macroblock::pattern` meets its contract: CBPY as it is in an INTRA macroblock, else turned.
use Rattle.h263_layers.proofs.MacroblockSteps.{pattern_intra, pattern_turned}
use Rattle.h263_layers.proofs.macroblock.pattern.Goals as goal

pub returns-then-intra : goal.returns-then-intra
returns-then-intra c = let a = c.args in pattern_intra a.intra a.luminance a.kind c.if-intra.true

pub returns : goal.returns
returns c = let a = c.args in pattern_turned a.intra a.luminance a.kind c.if-intra.false
