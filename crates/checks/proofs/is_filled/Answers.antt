-- A place further, and what it says at the end. Assumes nothing.
use mathlib.Core.Path.{sym, ◌∙◌}
use lib.ListN.{length-replicate, get_or-replicate}
use Rattle.text.proofs.Compared.{alike-none, alike_more, alike_all, other_byte}
use Rattle.checks.proofs.is_filled.Goals as goal

pub loop-byte-init : goal.loop-byte-init
loop-byte-init c = alike-none _ _ (sym (length-replicate _ _))

pub returns-then-byte-value : goal.returns-then-byte-value
returns-then-byte-value c = other_byte c.loop-byte.invariant c.loop-byte-test.true (λ e. c.if-byte-value.true (e ∙ get_or-replicate _ _ _ 0 c.loop-byte-test.true))

pub loop-byte-preserved : goal.loop-byte-preserved
loop-byte-preserved c = alike_more c.loop-byte.invariant c.loop-byte-test.true (c.if-byte-value.false ∙ sym (get_or-replicate _ _ _ 0 c.loop-byte-test.true))

pub returns : goal.returns
returns c = alike_all c.loop-byte.invariant c.loop-byte-test.false
