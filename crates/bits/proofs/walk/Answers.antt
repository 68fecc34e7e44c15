-- `bits::walk` meets its contract: by turns, each a step down the tree by the next bit.
use lib.ListN.{get_or-eq_default}
use borrow.Author.Rules.{rules}
use Rattle.bits.proofs.Turns.{here_first, walk_end, walk_none, walk_leaf, walk_down, walk_deep}
use Rattle.bits.proofs.walk.Goals as goal

pub returns-then-left-taken : goal.returns-then-left-taken
returns-then-left-taken c = walk_end c.loop-taken.invariant.1 c.loop-taken-test.true c.if-left-taken.true

pub returns-then-tree-i : goal.returns-then-tree-i
returns-then-tree-i c =
    walk_none c.loop-taken.invariant.1 c.loop-taken-test.true c.if-left-taken.false c.window-bits.ensures (get_or-eq_default c.args.tree.now 0 c.if-tree-i.true)

pub returns-then-v-eq0 : goal.returns-then-v-eq0
returns-then-v-eq0 c =
    walk_none c.loop-taken.invariant.1 c.loop-taken-test.true c.if-left-taken.false c.window-bits.ensures c.if-v-eq0.true

pub returns-then-v-ge256 : goal.returns-then-v-ge256
returns-then-v-ge256 c =
    walk_leaf c.loop-taken.invariant.1 c.loop-taken-test.true c.if-left-taken.false c.window-bits.ensures c.if-v-eq0.false c.if-v-ge256.true

pub loop-taken-preserved : goal.loop-taken-preserved
loop-taken-preserved c =
    (c.if-v-ge256.false, walk_down c.loop-taken.invariant.1 c.loop-taken-test.true c.if-left-taken.false c.window-bits.ensures c.if-v-eq0.false c.if-v-ge256.false)

pub returns : goal.returns
returns c = walk_deep c.loop-taken.invariant.1 c.loop-taken-test.false

pub loop-taken-init : goal.loop-taken-init
loop-taken-init c = (search rules, here_first _ _ _ _ _ _)
