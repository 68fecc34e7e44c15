-- `arguments::clip_named` meets its contract. The loop's invariant: what is left, after the number so far, names what the whole names. Assumes nothing.
use borrow.Author.Rules.{rules}
use native.Mathlib.Omega.{arith}
use borrow.Author.Tests.{not-true, not-false}
use mathlib.Core.Path.{sym, ◌∙◌}
use Rattle.arguments.proofs.Left.{clip_none, clip_start, clip_other, clip_above, clip_more, clip_end, digit_from}
use Rattle.arguments.proofs.clip_named.Goals as goal

pub returns-then-word-eq0 : goal.returns-then-word-eq0
returns-then-word-eq0 c = sym (clip_none c.args.word.now c.if-word-eq0.true)

pub loop-c-init : goal.loop-c-init
loop-c-init c = (omega arith, clip_start c.args.word.now c.if-word-eq0.false)

pub returns-then-not-is_digit : goal.returns-then-not-is_digit
returns-then-not-is_digit c =
    sym (c.loop-c.invariant.1 ∙ clip_other c.args.word.now c.loop-c.n c.loop-c.c-index (search rules) c.is_digit.ensures (not-true _ c.if-not-is_digit.true-raw))

pub lengthen-n-requires : goal.lengthen-n-requires
lengthen-n-requires c = (c.loop-c.invariant.0, digit_from _ c.is_digit.ensures (not-false _ c.if-not-is_digit.false-raw))

pub returns-then-n-gt65535 : goal.returns-then-n-gt65535
returns-then-n-gt65535 c =
    sym (c.loop-c.invariant.1 ∙ clip_above c.args.word.now c.loop-c.n c.loop-c.c-index (search rules) c.is_digit.ensures (not-false _ c.if-not-is_digit.false-raw)
    c.lengthen-n.ensures c.if-n-gt65535.true)

pub loop-c-preserved : goal.loop-c-preserved
loop-c-preserved c = (
  search rules,
  c.loop-c.invariant.1 ∙ clip_more c.args.word.now c.loop-c.n c.loop-c.c-index (search rules) c.is_digit.ensures (not-false _ c.if-not-is_digit.false-raw)
      c.lengthen-n.ensures c.if-n-gt65535.false,
)

pub returns : goal.returns
returns c = sym (c.loop-c.invariant.1 ∙ clip_end c.args.word.now c.loop-c.n c.loop-c.c-index (search rules))
