-- `standing::succeed` meets its contract: field by field. Assumes nothing.
use mathlib.Core.Path.{sym, subst}
use Prim.Native.Nat.{ℕ, ◌≤◌}
use Rattle.coding.proofs.AllLawful.{coding_lawful}
use Rattle.standing.proofs.succeed.Goals as goal

pub tick_in-tick-requires : goal.tick_in-tick-requires
tick_in-tick-requires c = subst (λ (m : ℕ). 1 ≤ m) (sym c.modulus.ensures) (coding_lawful.each _).modulus_some

pub returns : goal.returns
returns c =
    rw (c.tick_in-tick.ensures, c.modulus.ensures, c.goes_into-holder.ensures, c.next_picture-progress.ensures)
