-- `vault::unused_zero` meets its contract. The loop's invariant: the bytes passed have their unused bits zero. Assumes nothing.
use mathlib.Core.Path.{◌≡◌}
use mathlib.Core.Bool.{true}
use Rattle.vault.specs.Block.{unused_clear, payload_of}
use Rattle.vault.proofs.unused_zero.Given as goal

abbrev pub invariant-loop-i : goal.invariant-loop-i
invariant-loop-i l = unused_clear l.used (payload_of l.block) l.i ≡ true
