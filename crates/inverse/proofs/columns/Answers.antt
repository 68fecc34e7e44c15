-- `inverse::columns` meets its contract. The loops' invariant: the columns before x, and the first y numbers of column x, are the definition's.
use borrow.Author.Rules.{rules}
use mathlib.Core.Path.{◌∙◌}
use lib.IntN.{pos}
use Rattle.laws.proofs.Block.{shape_fill}
use Rattle.quantiser.specs.Lines.{SmallRow}
use Rattle.quantiser.proofs.Lines.{columns_none, columns_more, columns_next, columns_all, back32}
use Rattle.inverse.specs.Passes.{finished}
use Rattle.inverse.proofs.Bounds.{column_small, highs_small, lows_small, pass_is, pass_low}
use Rattle.inverse.proofs.Split.{column_finished}
use Rattle.std.proofs.Common.{rules}
use Rattle.inverse.proofs.columns.Goals as goal
use Rattle.inverse.proofs.columns.Goals.{After-pass-l}

highs_s : (c : After-pass-l) → SmallRow 16384 c.highs.result
highs_s c =
    highs_small c.column-g.result (column_small _ _ c.requires c.column-g.ensures)
    c.highs.ensures

pub loop-x-init : goal.loop-x-init
loop-x-init c = (search rules, columns_none _ (shape_fill (pos 0)))

pub column-g-requires : goal.column-g-requires
column-g-requires c = (c.requires, search rules)

pub highs-requires : goal.highs-requires
highs-requires c = column_small _ _ c.requires c.column-g.ensures

pub pass-h-requires : goal.pass-h-requires
pass-h-requires c = highs_small c.column-g.result (column_small _ _ c.requires c.column-g.ensures) c.highs.ensures

pub lows-requires : goal.lows-requires
lows-requires c = column_small _ _ c.requires c.column-g.ensures

pub pass-l-requires : goal.pass-l-requires
pass-l-requires c = lows_small c.column-g.result c.lows.ensures

pub loop-y-init : goal.loop-y-init
loop-y-init c = (search rules, c.loop-x.invariant.1)

pub finish-requires : goal.finish-requires
finish-requires c =
    (pass_low c.highs.result (highs_s (goal.at.finish-requires c).After-pass-l) c.pass-h.ensures c.loop-y-test.true, pass_low c.lows.result (lows_small c.column-g.result c.lows.ensures) c.pass-l.ensures c.loop-y-test.true)

pub loop-y-preserved : goal.loop-y-preserved
loop-y-preserved c =
    let t = c.loop-y-test.true in
    let y = c.loop-y.y in
    let x = c.loop-x.x in (
      search rules,
      columns_more _ y x _ c.loop-y.invariant.1 (search rules) (search rules)
          (back32 c.finish.result c.finish.type_inv ∙ c.finish.ensures
          ∙ (λ i. finished (pass_is c.highs.result (highs_s (goal.at.loop-y-preserved c).After-pass-l) c.pass-h.ensures t i) (pass_is c.lows.result (lows_small c.column-g.result c.lows.ensures) c.pass-l.ensures t i))
          ∙ column_finished _ x y _ _ _ c.column-g.ensures c.highs.ensures c.lows.ensures),
    )

pub loop-x-preserved : goal.loop-x-preserved
loop-x-preserved c = (search rules, columns_next _ _ _ c.loop-y.invariant.1 (search rules))

pub returns : goal.returns
returns c = columns_all _ _ c.loop-x.invariant.1 (search rules)
