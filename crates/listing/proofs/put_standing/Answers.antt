-- `listing::put_standing` meets its contract: an arm for each standing. Assumes nothing.
use borrow.Author.Rules.{rules}
use Rattle.text.specs.Puts.{Puts}
use Rattle.text.proofs.Puts.{puts_then}
use Prim.Native.Nat.{ℕ}
use mathlib.Core.Path.{◌≡◌, sym, subst}
use mathlib.Core.List.{List}
use Rattle.standing.specs.declared.Standing.{Standing}
use Rattle.listing.specs.Lines.{standing_text}
use Rattle.listing.proofs.put_standing.Goals as goal

arm : {standing named : Standing} {at end : ℕ} {out left : List ℕ} → standing ≡ named → Puts (standing_text named) at out left end → Puts (standing_text standing) at out left end
arm {standing} {named} {at} {end} {out} {left} e p = subst (λ (s : Standing). Puts (standing_text s) at out left end) (sym e) p

pub returns-in-Lost : goal.returns-in-Lost
unfolding standing_text
returns-in-Lost c = record { upper_bound = search rules; puts = arm c.in-Lost.is c.put.ensures.puts }

pub returns-in-Catching : goal.returns-in-Catching
unfolding standing_text
returns-in-Catching c = record { upper_bound = search rules; puts = arm c.in-Catching.is c.put-in-Catching.ensures.puts }

pub returns-in-InStep : goal.returns-in-InStep
unfolding standing_text
returns-in-InStep c = record { upper_bound = search rules; puts = arm c.in-InStep.is (puts_then c.put-named.ensures.puts c.put_number.ensures.puts (search rules)) }
