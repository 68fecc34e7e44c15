-- `h263_render::macroblock::sent` meets its contract: each turn of its loop is one block more of the six. Assumes nothing.
use mathlib.Core.Bool.{Bool}
use mathlib.Core.List.{List}
use Prim.Native.Nat.{ℕ, ◌+◌, ◌*◌, ◌≤◌}
use Rattle.quantiser.specs.Level.{bytes_from}
use Rattle.samples.specs.Content.{Differences, difference_of, sent_values}
use Rattle.samples.specs.Wrote.{Part}
use Rattle.layout.specs.Flat.{byte_vector}
use Rattle.h263_render.specs.Sample.{predictions_from}
use Rattle.h263_render.proofs.macroblock.sent.Given as goal

abbrev added : List ℕ → ℕ → Bool → ℕ → Differences
added levels at intra quantiser b = difference_of (bytes_from levels (at + b * 64)) intra quantiser

abbrev pub invariant-loop-b : goal.invariant-loop-b
invariant-loop-b l = (l.b ≤ 6) × Part l.size l.row l.column l.b (sent_values (predictions_from l.size l.reference l.intra (byte_vector l.horizontal l.vertical)) (added l.levels l.at l.intra l.quantiser)) l.initial.store l.store
