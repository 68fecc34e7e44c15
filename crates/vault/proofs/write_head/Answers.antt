-- `vault::write_head` meets its contract: eight stores in a row. Assumes nothing.
use native.Mathlib.Omega.{arith}
use mathlib.Core.Path.{ap}
use Prim.Native.Nat.{ℕ, ◌/◌, ◌%◌}
use mathlib.Core.List.{List, [], ◌∷◌}
use lib.ListN.{length-set}
use lib.Seq.{sets}
use Rattle.vault.specs.declared.Header.{Header}
use Rattle.vault.proofs.write_head.Goals as goal

abbrev stores : Header → List ℕ → ℕ → List ℕ
stores h block marks =
    let low = h.picture % 65536 in
    sets block 0 (h.clip / 256 ∷ h.clip % 256 ∷ low / 256 ∷ low % 256 ∷ h.part ∷ marks ∷ h.used / 256 ∷ h.used % 256 ∷ [])

pub bounds-block-4 : goal.bounds-block-4
bounds-block-4 c = simp length-set (omega arith)

pub bounds-block-5 : goal.bounds-block-5
bounds-block-5 c = simp length-set (omega arith)

pub bounds-block-6 : goal.bounds-block-6
bounds-block-6 c = simp length-set (omega arith)

pub bounds-block-7 : goal.bounds-block-7
bounds-block-7 c = simp length-set (omega arith)

pub returns : goal.returns
returns c =
    ap (stores c.args.header c.args.block.now) c.marks-marked.ensures
