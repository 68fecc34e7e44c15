-- `listing::put_tick` meets its contract: an arm for each tick. Assumes nothing.
use borrow.Author.Rules.{rules}
use Rattle.text.specs.Puts.{Puts}
use Rattle.text.proofs.Puts.{puts_then}
use Prim.Native.Nat.{ℕ}
use mathlib.Core.Path.{◌≡◌, sym, subst}
use mathlib.Core.List.{List}
use Rattle.ticks.specs.declared.Tick.{Tick}
use Rattle.listing.specs.Lines.{tick_text}
use Rattle.listing.proofs.put_tick.Goals as goal

arm : {tick named : Tick} {at end : ℕ} {out left : List ℕ} → tick ≡ named → Puts (tick_text named) at out left end → Puts (tick_text tick) at out left end
arm {tick} {named} {at} {end} {out} {left} e p = subst (λ (t : Tick). Puts (tick_text t) at out left end) (sym e) p

pub returns-in-Exact : goal.returns-in-Exact
unfolding tick_text
returns-in-Exact c = record { upper_bound = search rules; puts = arm c.in-Exact.is c.put_number.ensures.puts }

pub returns-in-Estimated : goal.returns-in-Estimated
unfolding tick_text
returns-in-Estimated c = record { upper_bound = search rules; puts = arm c.in-Estimated.is (puts_then c.put-named.ensures.puts c.put_number-in-Estimated.ensures.puts (search rules)) }
