-- `h263_stream::begin` meets its contract: by three bytes. Assumes nothing.
use Prim.Native.Nat.{ℕ}
use mathlib.Core.Path.{ap, ◌∙◌}
use mathlib.Core.List.{List}
use lib.ListN.{set}
use Rattle.h263_stream.proofs.begin.Goals as goal

pub returns : goal.returns
returns c =
    let byte = c.args.byte in
    c.keep-3.ensures ∙ ap (λ (l : List ℕ). set l 2 byte) (c.keep-2.ensures ∙ ap (λ (l : List ℕ). set l 1 0) c.keep.ensures)
