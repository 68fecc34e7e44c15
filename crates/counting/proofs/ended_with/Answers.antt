-- `counting::ended_with` meets its contract: by whether it is a last part. Assumes nothing.
use mathlib.Core.Path.{◌≡◌, sym, ap}
use mathlib.Core.Bool.{Bool, true}
use Rattle.std.specs.Prelude.{Some, None}
use Rattle.laws.specs.Choice.{pick}
use Rattle.vault.specs.declared.Header.{Header}
use Rattle.standing.specs.Receive.{count_of}
use Rattle.counting.specs.Ending.{ended_with}
use Rattle.counting.proofs.ended_with.Goals as goal

last_ends : (header : Header) → header.last ≡ true → Some (count_of header) ≡ ended_with header
last_ends header e = ap (λ (b : Bool). pick b (Some (count_of header)) None) (sym e)

pub returns-then-header : goal.returns-then-header
returns-then-header c = last_ends c.args.header c.if-header.true
