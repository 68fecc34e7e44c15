-- What a program's input gives where it is read block by block. Assumes nothing.
use Rattle.std.specs.Prelude.{ℕ, eqb}
use Rattle.laws.specs.Choice.{pick}
use Rattle.account.specs.declared.input.Next.{Next}
use Rattle.account.specs.declared.input.Next.TheVariants as N

-- by how many of a block's bytes there were
abbrev pub next_counted : ℕ → Next
next_counted count = pick (eqb count 512) N.Block (pick (eqb count 0) N.End N.Short)
