-- `h261_filter::filter` meets its contract. The loop's invariant: the rows before are filtered; the edge rows stand outside it.
use mathlib.Core.Path.{refl}
use Prim.Native.Nat.{◌+◌, ◌-◌}
use native.Mathlib.Omega.{arith}
use lib.IntN.{pos}
use lib.ListN.{replicate}
use borrow.Author.Rules.{rules}
use Rattle.quantiser.proofs.Lines.{lines_none, lines_more, lines_last, line_low}
use Rattle.quantiser.proofs.SampleLaws.{sample_low}
use Rattle.h261_filter.proofs.FilterLaws.{edge_low, inside_low}
use Rattle.h261_filter.proofs.Rows.{row_edge, row_inside}
use Rattle.h261_filter.proofs.filter.Goals as goal

pub border-requires : goal.border-requires
border-requires c = λ x. sample_low (c.requires 0 x)

pub across-requires : goal.across-requires
across-requires c = line_low c.border.ensures (λ x. edge_low (sample_low (c.requires 0 x)))

pub loop-row-init : goal.loop-row-init
loop-row-init c = (search rules, search rules, lines_more _ (lines_none _ {t = replicate 8 (replicate 8 (pos 0))} refl) (search rules) (row_edge _ 0 _ c.across.ensures tt c.border.ensures))

pub between-requires : goal.between-requires
between-requires c =
    let p = c.requires in
    let k = c.loop-row.row in
    record { above = λ x. sample_low (p (k - 1) x); here = λ x. sample_low (p k x); below = λ x. sample_low (p (k + 1) x) }

pub across-requires-in-loop-row : goal.across-requires-in-loop-row
across-requires-in-loop-row c =
    let p = c.requires in
    let k = c.loop-row.row in
    line_low c.between.ensures (λ x. inside_low (sample_low (p (k - 1) x)) (sample_low (p k x)) (sample_low (p (k + 1) x)))

pub loop-row-preserved : goal.loop-row-preserved
loop-row-preserved c =
    let l = c.loop-row in (
      search rules,
      search rules,
      lines_more _ l.invariant.2 (search rules) (row_inside _ l.row _ c.across-in-loop-row.ensures (search rules) (search rules) c.between.ensures),
    )

pub border-requires-2 : goal.border-requires-2
border-requires-2 c = λ x. sample_low (c.requires 7 x)

pub across-requires-2 : goal.across-requires-2
across-requires-2 c = line_low c.border-2.ensures (λ x. edge_low (sample_low (c.requires 7 x)))

pub returns : goal.returns
returns c =
    let l = c.loop-row in
    let b = c.args.block in
    lines_last _ l.invariant.2 (omega arith) (row_edge b 7 _ c.across-2.ensures tt c.border-2.ensures)
