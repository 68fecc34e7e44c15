-- `macroblock::turned` meets its contract: by the macroblock's kind.
use mathlib.Core.Path.{sym, ap}
use mathlib.Core.Bool.{Bool}
use Rattle.h263_words.specs.Words.{turned}
use Rattle.h263_writer.proofs.macroblock.turned.Goals as goal

pub returns-then-intra : goal.returns-then-intra
returns-then-intra c = sym (ap (λ (b : Bool). turned b c.args.pattern) c.if-intra.true)

pub returns : goal.returns
returns c = sym (ap (λ (b : Bool). turned b c.args.pattern) c.if-intra.false)
