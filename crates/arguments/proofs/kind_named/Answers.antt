-- `arguments::kind_named` meets its contract: by the word's first five characters. Assumes nothing.
use mathlib.Core.Path.{sym, ◌∙◌}
use lib.Seq.{length-take-le}
use Rattle.arguments.proofs.Left.{starts_short, starts_h261, starts_h263, rest_named}
use Rattle.arguments.proofs.kind_named.Goals as goal

pub returns-then-word-lt5 : goal.returns-then-word-lt5
returns-then-word-lt5 c =
    c.kind_sized.ensures ∙ starts_short c.args.word.now c.if-word-lt5.true

pub slice_bounds-same-end : goal.slice_bounds-same-end
slice_bounds-same-end c = sym (length-take-le 5 c.args.word.now c.if-word-lt5.false)

pub returns-then-same : goal.returns-then-same
returns-then-same c =
    let word = c.args.word.now in
    c.kind_sized-then-same.ensures ∙ rest_named word ∙ starts_h263 word c.same.ensures c.if-same.true

pub returns : goal.returns
returns c =
    let word = c.args.word.now in
    c.kind_sized-2.ensures ∙ starts_h261 word c.same.ensures c.if-same.false
