-- `listing::put_answer` meets its contract: an arm for each answer. Assumes nothing.
use borrow.Author.Rules.{rules}
use Rattle.text.specs.Puts.{Puts}
use Prim.Native.Nat.{ℕ}
use mathlib.Core.Path.{◌≡◌, sym, subst}
use mathlib.Core.List.{List}
use Rattle.standing.specs.declared.Answer.{Answer}
use Rattle.standing.specs.Answered.{said}
use Rattle.listing.specs.Lines.{text_of}
use Rattle.listing.proofs.put_answer.Goals as goal

arm : {answer named : Answer} {at end : ℕ} {out left : List ℕ} → answer ≡ named → Puts (text_of (said named)) at out left end → Puts (text_of (said answer)) at out left end
arm {answer} {named} {at} {end} {out} {left} e p = subst (λ (a : Answer). Puts (text_of (said a)) at out left end) (sym e) p

pub returns-in-Old : goal.returns-in-Old
unfolding text_of
returns-in-Old c = record { upper_bound = search rules; puts = arm c.in-Old.is c.put_place.ensures.puts }

pub returns-in-Taken : goal.returns-in-Taken
unfolding text_of
returns-in-Taken c = record { upper_bound = search rules; puts = arm c.in-Taken.is c.put_place-in-Taken.ensures.puts }

pub returns-in-Lost : goal.returns-in-Lost
unfolding text_of
returns-in-Lost c = record { upper_bound = search rules; puts = arm c.in-Lost.is c.put.ensures.puts }

pub returns-in-Picture : goal.returns-in-Picture
unfolding text_of
returns-in-Picture c = record { upper_bound = search rules; puts = arm c.in-Picture.is c.put_picture.ensures.puts }

pub returns-in-Refused : goal.returns-in-Refused
unfolding text_of
returns-in-Refused c = record { upper_bound = search rules; puts = arm c.in-Refused.is c.put_refusal.ensures.puts }
