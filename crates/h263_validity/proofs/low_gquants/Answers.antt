-- `h263_validity::low_gquants` meets its contract: the library's test of all items is the test of the list. Assumes nothing.
use native.Mathlib.Omega.{arith}
use borrow.Author.Tests.{le-leb}
use mathlib.Core.Path.{◌≡◌, refl, ap, ◌∙◌}
use mathlib.Core.Bool.{Bool}
use mathlib.Core.List.{List, [], ◌∷◌}
use Prim.Native.Nat.{ℕ}
use lib.Dec.{leb}
use lib.ListN.{drop}
use Rattle.std.specs.List.{list_all}
use Rattle.std.proofs.Common.{rules, tests}
use Rattle.std.proofs.lemmas.Iterator.{YieldsList-from_slice}
use Rattle.std.proofs.lemmas.Iterator.Search.{all_from_yields_List}
use Rattle.laws.specs.Choice.{both}
use Rattle.layout.specs.Numbers.{all, within}
use Rattle.layout.proofs.Turns.{part_rest}
use Rattle.h263_validity.proofs.low_gquants.Goals as goal

-- 0 is at most any number
all_low : (xs : List ℕ) → list_all (λ x. leb x 31) xs ≡ all (within 0 31) xs
all_low [] = refl
all_low (x ∷ xs) = rw (le-leb 0 x (omega arith)) (ap (both (leb x 31)) (all_low xs))

pub returns : goal.returns
returns c =
    all_from_yields_List (λ x. leb x 31) _ _ _ c.all.ensures.ran (YieldsList-from_slice (drop 5 c.args.head.now) (c.iter.ensures.rest ∙ part_rest c.args.head.now 5)) (λ x b q k. search (rules, tests))
    ∙ all_low (drop 5 c.args.head.now)
