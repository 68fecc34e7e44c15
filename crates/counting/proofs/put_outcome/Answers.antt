-- `counting::put_outcome` meets its contract: an arm for each answer. Assumes nothing.
use borrow.Author.Rules.{rules}
use Prim.Native.Nat.{ℕ}
use mathlib.Core.Path.{◌≡◌, refl, sym, subst}
use mathlib.Core.List.{List}
use Rattle.text.specs.Puts.{Puts}
use Rattle.text.proofs.Puts.{puts_then}
use Rattle.standing.specs.declared.Answer.{Answer}
use Rattle.standing.specs.Answered.{said}
use Rattle.listing.specs.Lines.{text_of}
use Rattle.counting.specs.Lines.{outcome_text}
use Rattle.counting.proofs.put_outcome.Goals as goal

module _ {at end : ℕ} {out left : List ℕ} where
  arm : {answer named : Answer} → answer ≡ named → Puts (outcome_text (said named)) at out left end → Puts (outcome_text (said answer)) at out left end
  arm e p = subst (λ (a : Answer). Puts (outcome_text (said a)) at out left end) (sym e) p

  -- an answer that has the lister's words
  listed_arm : {answer named : Answer} → answer ≡ named → outcome_text (said named) ≡ text_of (said named) → Puts (text_of (said answer)) at out left end → Puts (outcome_text (said answer)) at out left end
  listed_arm {answer} {named} e is p = arm e (subst (λ (words : List ℕ). Puts words at out left end) (sym is) (subst (λ (a : Answer). Puts (text_of (said a)) at out left end) e p))

pub returns-in-Picture : goal.returns-in-Picture
unfolding outcome_text
returns-in-Picture c = record { upper_bound = search rules; puts = arm c.in-Picture.is (puts_then c.put-named.ensures.puts c.put_number.ensures.puts (search rules)) }

pub returns-in-Refused : goal.returns-in-Refused
unfolding outcome_text
returns-in-Refused c = record { upper_bound = search rules; puts = listed_arm c.in-Refused.is refl c.put_answer.ensures.puts }

pub returns-in-Old : goal.returns-in-Old
unfolding outcome_text
returns-in-Old c = record { upper_bound = search rules; puts = listed_arm c.in-Old.is refl c.put_answer-in-Old.ensures.puts }

pub returns-in-Taken : goal.returns-in-Taken
unfolding outcome_text
returns-in-Taken c = record { upper_bound = search rules; puts = listed_arm c.in-Taken.is refl c.put_answer-in-Taken.ensures.puts }

pub returns-in-Lost : goal.returns-in-Lost
unfolding outcome_text
returns-in-Lost c = record { upper_bound = search rules; puts = listed_arm c.in-Lost.is refl c.put_answer-in-Lost.ensures.puts }
