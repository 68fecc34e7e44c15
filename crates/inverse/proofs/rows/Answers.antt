-- `inverse::rows` meets its contract. The loop's invariant: the first v rows are the sums of the block's rows.
use borrow.Author.Rules.{rules}
use mathlib.Core.Path.{refl}
use Prim.Native.Nat.{zero-le}
use lib.Dec.{lit≤}
use lib.IntN.{ℤ, pos}
use lib.ListN.{replicate}
use Rattle.laws.specs.Integer.{Low}
use Rattle.laws.proofs.Integer.{low_up}
use Rattle.laws.proofs.Block.{is_each}
use Rattle.quantiser.specs.Lines.{Small}
use Rattle.quantiser.proofs.Lines.{line_low, lines_none, lines_more, lines_all}
use Rattle.inverse.proofs.Split.{across_line, across_rows}
use Rattle.inverse.proofs.rows.Goals as goal
use Rattle.inverse.proofs.rows.Goals.{After-turned-n}

small : (c : After-turned-n) → Small 2048 c.turned-n.result
small c = is_each (λ (z : ℤ). Low 2048 z) c.turned-n.ensures (record { low = zero-le }) (λ u v. c.requires v u)

pub loop-v-init : goal.loop-v-init
loop-v-init c = (search rules, lines_none _ {t = replicate 8 (replicate 8 (pos 0))} refl)

pub line-requires : goal.line-requires
line-requires c = (small (goal.at.line-requires c).After-turned-n, search rules)

pub pass-requires : goal.pass-requires
pass-requires c =
    line_low c.line.ensures (λ u. low_up 16384 (small (goal.at.pass-requires c).After-turned-n u c.loop-v.v) (lit≤ tt))

pub loop-v-preserved : goal.loop-v-preserved
loop-v-preserved c =
    let l = c.loop-v in
    (search rules, lines_more _ l.invariant.1 (search rules) (across_line c.turned-n.result l.v c.line.ensures c.pass.ensures))

pub returns : goal.returns
returns c = across_rows c.args.f _ _ c.turned-n.ensures (lines_all _ c.loop-v.invariant.1 (search rules))
