-- `vault::place` meets its contract: the part that was lent is the payload, and what lies before and after it is as it was.
-- Assumes nothing.
use Prim.Native.Nat.{ℕ, ◌+◌, ◌*◌, ◌-◌}
use native.Mathlib.Omega.{arith}
use mathlib.Core.Path.{◌≡◌, sym, ◌∙◌}
use mathlib.Core.List.{List, ◌++◌, append_assoc}
use lib.ListN.{take, drop}
use borrow.Rule.Slice.PartMut.{put_mid, Post-is}
use Rattle.vault.specs.Block.{payload_of}
use Rattle.vault.specs.Parts.{placed_payload}
use Rattle.vault.proofs.place.Goals as goal

in_place : (block collection : List ℕ) (part : ℕ) (copy : List ℕ) → copy ≡ payload_of block
    → put_mid (500 * part) (500 * part + 500 - 500 * part) collection copy ≡ placed_payload block part collection
unfolding placed_payload
in_place block collection part copy f =
    (λ i. take (500 * part) collection ++ (f i ++ Post-is (500 * part) (500 * part + 500) collection (omega arith) i))
    ∙ sym (append_assoc (take (500 * part) collection) (payload_of block) (drop (500 * part + 500) collection))

pub returns : goal.returns
returns c = in_place c.args.block.now c.args.collection.now c.args.part _ c.copy_from_slice.ensures.after
