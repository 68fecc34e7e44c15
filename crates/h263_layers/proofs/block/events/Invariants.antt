-- `h263_layers::block::events` meets its contract: each turn of the loop reads an event into the levels, which may be the last, or the refusal.
use mathlib.Core.Path.{◌≡◌}
use Prim.Native.Nat.{◌-◌}
use lib.ListN.{length}
use Rattle.bits.specs.Bits.{bits_left}
use Rattle.bits.specs.Read.{loop}
use Rattle.layout.specs.Flat.{put_block}
use Rattle.fields.specs.Answer.{map_read}
use Rattle.h263_layers.specs.Grammar.{events}
use Rattle.h263_layers.proofs.EventsTurn.{EventsSoFar}
use Rattle.h263_layers.proofs.block.events.Given as goal

abbrev pub invariant-loop-last : goal.invariant-loop-last
invariant-loop-last l =
    (length l.levels ≡ length l.initial.levels)
    × EventsSoFar (map_read (put_block l.initial.levels l.from) (loop (λ turns. events turns (l.end - l.from)) (bits_left l.bytes l.count l.initial.place.bit) l.initial.place)) l.bytes l.count l.end l.levels l.k l.place

abbrev pub decreases-loop-last : goal.decreases-loop-last
decreases-loop-last l = l.count - l.place.bit
