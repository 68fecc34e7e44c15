-- `listing::end` meets its contract: by the clip. Assumes nothing.
use borrow.Author.Rules.{rules}
use Prim.Native.Nat.{ℕ}
use mathlib.Core.Path.{◌≡◌, sym, subst}
use mathlib.Core.List.{List}
use Rattle.text.specs.Puts.{Puts}
use Rattle.text.proofs.Puts.{told}
use Rattle.listing.specs.declared.Clip.{Clip}
use Rattle.listing.specs.Listed.{end_text}
use Rattle.listing.proofs.end.Goals as goal

by_clip : {clip arm : Clip} {at end : ℕ} {out left : List ℕ} → clip ≡ arm → Puts (end_text arm) at out left end → Puts (end_text clip) at out left end
by_clip {clip} {arm} {at} {end} {out} {left} e p = subst (λ (k : Clip). Puts (end_text k) at out left end) (sym e) p

pub returns-in-Unknown : goal.returns-in-Unknown
unfolding end_text
returns-in-Unknown c = let all = told (search rules) (by_clip c.in-Unknown.is c.put.ensures.puts) in
    record { prefix_len = all.0; value = all.1.0; out_after = all.1.1 }

pub returns-in-Asked : goal.returns-in-Asked
unfolding end_text
returns-in-Asked c = let all = told (search rules) (by_clip c.in-Asked.is c.put_end.ensures.puts) in
    record { prefix_len = all.0; value = all.1.0; out_after = all.1.1 }

pub returns-in-Known : goal.returns-in-Known
unfolding end_text
returns-in-Known c = let all = told (search rules) (by_clip c.in-Known.is c.put_end-in-Known.ensures.puts) in
    record { prefix_len = all.0; value = all.1.0; out_after = all.1.1 }
