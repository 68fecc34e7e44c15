-- `block::coefficients` meets its contract. The loop's invariant: what is written is the coefficients before this level.
use Prim.Native.Nat.{ℕ, ◌+◌, ◌-◌}
use mathlib.Core.Path.{◌≡◌}
use native.Mathlib.Nat.{add-zero}
use native.Mathlib.Omega.{arith}
use lib.Dec.{T}
use lib.ListN.{get_or, take, drop, length-drop}
use Rattle.std.proofs.lemmas.List.{length-take}
use Rattle.bits.proofs.Codewords.{word_ready, word_wrote}
use Rattle.layout.specs.Numbers.{all, is_zero}
use Rattle.layout.proofs.Gathered.{zeros_on}
use Rattle.h261_writer.proofs.BlockTurn.{LevelAt, level_at, zeros_known, coded_begin, coded_zero, coded_sendable, coded_counts, coded_more, coded_none, end_counts, coded_end}
use Rattle.h261_writer.proofs.block.coefficients.Goals as goal
use Rattle.h261_writer.proofs.block.coefficients.Goals.{In-loop-code, After-loop-code}

-- this turn's level, and the zeros that no turn has
level : (c : In-loop-code) → LevelAt c.args.levels.now (c.args.from + c.loop-code.code-index) (get_or (take (c.zeros_from-end.result - c.args.from) (drop c.args.from c.args.levels.now)) c.loop-code.code-index 0)
level c = level_at c.args.levels.now c.args.from c.zeros_from-end.result c.loop-code.code-index (zeros_known c.requires.long c.zeros_from-end.ensures).high
    (omega (arith, c.loop-code-test.true, length-take {A = ℕ}))

zeros : (c : After-loop-code) → T (all is_zero (drop (c.args.from + c.loop-code.code-index) c.args.levels.now))
zeros c =
    let end = zeros_known c.requires.long c.zeros_from-end.ensures in
    zeros_on c.args.levels.now c.zeros_from-end.result (c.args.from + c.loop-code.code-index)
    (omega (arith, c.loop-code-test.false, c.requires.long, end.high, length-take {A = ℕ}, length-drop {A = ℕ})) end.zeros

pub slice_bounds-code-items-count : goal.slice_bounds-code-items-count
slice_bounds-code-items-count c = omega (arith, c.requires.near, (zeros_known c.requires.long c.zeros_from-end.ensures).low)

pub slice_bounds-code-items-start : goal.slice_bounds-code-items-start
slice_bounds-code-items-start c = omega (arith, c.requires.near, (zeros_known c.requires.long c.zeros_from-end.ensures).low)

pub slice_bounds-code-items-end : goal.slice_bounds-code-items-end
slice_bounds-code-items-end c = omega (arith, c.requires.long, (zeros_known c.requires.long c.zeros_from-end.ensures).high)

pub loop-code-init : goal.loop-code-init
loop-code-init c = rw (add-zero c.args.from) (coded_begin _ _ _ _ _ c.requires.near)

pub loop-code-preserved-then-code-eq0 : goal.loop-code-preserved-then-code-eq0
loop-code-preserved-then-code-eq0 c =
    let next : c.args.from + (c.loop-code.code-index + 1) ≡ c.args.from + c.loop-code.code-index + 1 = omega arith in
    rw next (coded_zero c.loop-code.invariant c.requires.long (level (goal.at.loop-code-preserved-then-code-eq0 c).In-loop-code) c.if-code-eq0.true)

pub coefficient_codeword-word-requires : goal.coefficient_codeword-word-requires
coefficient_codeword-word-requires c =
    (c.requires.tables, coded_sendable c.loop-code.invariant c.requires.long (level (goal.at.coefficient_codeword-word-requires c).In-loop-code) c.if-code-eq0.false c.requires.allowed)

pub append-place-requires : goal.append-place-requires
append-place-requires c =
    word_ready c.coefficient_codeword-word.ensures
    (coded_counts c.loop-code.invariant c.requires.long (level (goal.at.append-place-requires c).In-loop-code) c.if-code-eq0.false c.requires.counts)

pub loop-code-preserved : goal.loop-code-preserved
loop-code-preserved c =
    let next : c.args.from + (c.loop-code.code-index + 1) ≡ c.args.from + c.loop-code.code-index + 1 = omega arith in
    rw next
    (coded_more c.loop-code.invariant c.requires.long (level (goal.at.loop-code-preserved c).In-loop-code) c.if-code-eq0.false
    (word_wrote c.coefficient_codeword-word.ensures c.append-place.ensures))

pub returns-then-first : goal.returns-then-first
returns-then-first c = coded_none c.loop-code.invariant c.requires.long (zeros (goal.at.returns-then-first c).After-loop-code) c.if-first.true

pub append-requires : goal.append-requires
append-requires c =
    word_ready c.end_codeword.ensures (end_counts c.loop-code.invariant c.requires.long (zeros (goal.at.append-requires c).After-loop-code) c.if-first.false c.requires.counts)

pub returns : goal.returns
returns c =
    coded_end c.loop-code.invariant c.requires.long (zeros (goal.at.returns c).After-loop-code) c.if-first.false (word_wrote c.end_codeword.ensures c.append.ensures)
