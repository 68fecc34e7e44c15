-- `h261_validity::all_quantisers` meets its contract: `all` over the bytes from the third on. Assumes nothing.
use Rattle.std.proofs.Common.{◌≡◌, ◌∙◌, refl, ap, Bool, true, false, ◌&&◌, List, ℕ, ◌-◌, length, take, drop, rules, tests}
use Rattle.std.proofs.lemmas.Iterator.{YieldsList-from_slice}
use Rattle.std.proofs.lemmas.Iterator.Search.{all_from_yields_List}
use Rattle.std.proofs.lemmas.List.Recursion.{same_from_clauses}
use Rattle.std.specs.List.{list_all}
use Rattle.laws.specs.Choice.{both}
use Rattle.layout.specs.Numbers.{all, is_quantiser}
use Rattle.layout.proofs.Turns.{part_rest}
use Rattle.h261_validity.proofs.all_quantisers.Goals as goal

and_both : (a b : Bool) → (a && b) ≡ both a b
and_both true b = refl
and_both false b = refl

list_all-is : (good : ℕ → Bool) (xs : List ℕ) → list_all good xs ≡ all good xs
list_all-is good xs = same_from_clauses (list_all good) (all good) (λ x b. both (good x) b) refl (λ x xs. and_both (good x) (list_all good xs)) (λ x xs. refl) xs

pub returns : goal.returns
returns c =
    let head = c.args.head.now in
    all_from_yields_List is_quantiser _ _ c.all.result c.all.ensures.ran (YieldsList-from_slice _ c.iter.ensures.rest) (λ x b q k. search (rules, tests))
    ∙ list_all-is is_quantiser (take (length head - 3) (drop 3 head))
    ∙ ap (all is_quantiser) (part_rest head 3)
