-- `h261_layers::block::coefficients` meets its contract: each turn of the loop reads a coefficient into the levels, or EOB, or the refusal.
use mathlib.Core.Path.{◌≡◌}
use Prim.Native.Nat.{◌-◌}
use lib.ListN.{length}
use Rattle.bits.specs.Bits.{bits_left}
use Rattle.bits.specs.Read.{loop}
use Rattle.h261_words.specs.Tables.{table_of}
use Rattle.layout.specs.Flat.{put_block}
use Rattle.fields.specs.Answer.{map_read}
use Rattle.h261_layers.specs.Grammar.{coefficients}
use Rattle.h261_layers.proofs.CoefficientsTurn.{CoefficientsSoFar}
use Rattle.h261_layers.proofs.block.coefficients.Given as goal

abbrev pub invariant-loop-run : goal.invariant-loop-run
invariant-loop-run l =
    (length l.levels ≡ length l.initial.levels)
    × CoefficientsSoFar (map_read (put_block l.initial.levels l.from) (loop (λ turns. coefficients turns (l.end - l.from) (table_of l.opening)) (bits_left l.bytes l.count l.initial.place.bit) l.initial.place)) l.bytes l.count l.end l.first l.levels l.k l.place

abbrev pub decreases-loop-run : goal.decreases-loop-run
decreases-loop-run l = l.count - l.place.bit
