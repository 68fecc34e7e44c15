-- `h263_stream::ends_within` meets its contract: some number of zeros does, whichever is tried first. Assumes nothing.
use mathlib.Core.Path.{◌≡◌, refl, sym, ◌∙◌}
use mathlib.Core.Bool.{Bool, true, false}
use mathlib.Core.List.{List, [], ◌∷◌}
use Prim.Native.Nat.{ℕ}
use Rattle.std.specs.List.{list_any}
use Rattle.std.proofs.Common.{rules, tests}
use Rattle.std.proofs.lemmas.Iterator.{YieldsList-from_range}
use Rattle.std.proofs.lemmas.Iterator.Search.{any_from_yields_List}
use Rattle.laws.specs.Choice.{either}
use Rattle.h263_stream.specs.Filled.{ends_after}
use Rattle.h263_stream.proofs.ends_within.Goals as goal

-- the last one first
abbrev back : List Bool → Bool → Bool
back [] before = before
back (x ∷ xs) before = back xs (either x before)

back_any : (xs : List Bool) → list_any (λ b. b) xs ≡ back xs false
back_any xs = go xs false
  where
    go : (xs : List Bool) (before : Bool) → list_any (λ b. b) (before ∷ xs) ≡ back xs before
    go [] true = refl
    go [] false = refl
    go (x ∷ xs) before = first x before ∙ go xs (either x before)
      where
        first : (x before : Bool) → list_any (λ b. b) (before ∷ x ∷ xs) ≡ list_any (λ b. b) (either x before ∷ xs)
        first true true = refl
        first true false = refl
        first false true = refl
        first false false = refl

pub returns : goal.returns
returns c =
    let a = c.args in
    let e : ℕ → Bool = λ zeros. ends_after a.bytes.now a.all a.at zeros in
    any_from_yields_List e _ _ _ c.any.ensures.ran (YieldsList-from_range 0 8 8 refl refl) (λ x b q k. search (rules, tests))
    ∙ back_any (e 0 ∷ e 1 ∷ e 2 ∷ e 3 ∷ e 4 ∷ e 5 ∷ e 6 ∷ e 7 ∷ [])
