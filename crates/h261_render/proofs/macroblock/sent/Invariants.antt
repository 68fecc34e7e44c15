-- `h261_render::macroblock::sent` meets its contract: each turn of its loop is one block more of the six. Assumes nothing.
use mathlib.Core.List.{List}
use Prim.Native.Nat.{ℕ, ◌+◌, ◌*◌, ◌≤◌}
use Rattle.quantiser.specs.Level.{bytes_from}
use Rattle.samples.specs.Content.{Differences, difference_of, sent_values}
use Rattle.samples.specs.Wrote.{Part}
use Rattle.h261_groups.specs.Format.{size_of}
use Rattle.h261_render.specs.declared.Prediction.{Prediction}
use Rattle.h261_render.specs.Sample.{predictions_from}
use Rattle.h261_render.specs.Turn.{intra_of, vector_from}
use Rattle.h261_render.proofs.macroblock.sent.Given as goal

abbrev added : List ℕ → ℕ → Prediction → ℕ → Differences
added levels at prediction quantiser b = difference_of (bytes_from levels (at + b * 64)) (intra_of prediction) quantiser

abbrev pub invariant-loop-b : goal.invariant-loop-b
invariant-loop-b l =
    (l.b ≤ 6) × Part (size_of l.format) l.row l.column l.b
    (sent_values (predictions_from l.format l.reference l.prediction (vector_from l.horizontal l.vertical)) (added l.levels l.at l.prediction l.quantiser)) l.initial.store l.store
