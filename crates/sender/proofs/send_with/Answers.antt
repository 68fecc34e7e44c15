-- `sender::send_with` meets its contract: the scratch has the output's length. Assumes nothing.
use Prim.Native.Nat.{ℕ}
use mathlib.Core.Path.{sym, ◌∙◌}
use lib.ListN.{length-replicate}
use Rattle.sender.proofs.send_with.Goals as goal

pub send_in-requires : goal.send_in-requires
send_in-requires g c =
    (c.requires.passed, length-replicate {A = ℕ} _ 0 ∙ sym c.requires.long)
