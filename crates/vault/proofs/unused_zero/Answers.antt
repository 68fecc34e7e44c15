-- `vault::unused_zero` meets its contract. The loop's invariant: the bytes passed have their unused bits zero. Assumes nothing.
use native.Mathlib.Omega.{arith}
use mathlib.Core.Path.{◌≡◌, sym, ◌∙◌}
use Prim.Native.Nat.{ℕ, ◌+◌, ◌%◌, ◌^◌, ◌<◌}
use mathlib.Core.List.{List}
use lib.ListN.{get_or}
use lib.Seq.{get_or-take, get_or-drop}
use lib.Pow.{pow_pos}
use Rattle.vault.proofs.Clear.{clear_start, clear_less, clear_fails, clear_more}
use Rattle.vault.specs.Block.{payload_of, unused}
use Rattle.vault.proofs.unused_zero.Goals as goal

weighed : (block : List ℕ) (used i w : ℕ) → i < 500 → w ≡ 2 ^ unused used i
    → get_or (payload_of block) i 0 % 2 ^ unused used i ≡ get_or block (8 + i) 0 % w
weighed block used i w l e = rw (get_or-take, get_or-drop, e)

pub loop-i-init : goal.loop-i-init
loop-i-init c = clear_start _ _ _ (omega arith)

pub nonzero_rem-block : goal.nonzero_rem-block
nonzero_rem-block c = omega (arith, pow_pos (unused c.args.used c.loop-i.i), c.unused_weight-weight.ensures)

pub returns-then-block-i-ne0 : goal.returns-then-block-i-ne0
returns-then-block-i-ne0 c =
    sym (clear_fails _ _ c.loop-i.i 500 (omega arith)
    (λ e. c.if-block-i-ne0.true (sym (weighed c.args.block.now _ _ _ (omega arith) c.unused_weight-weight.ensures) ∙ e)))

pub loop-i-preserved : goal.loop-i-preserved
loop-i-preserved c =
    clear_more _ _ c.loop-i.i c.loop-i.invariant
    (weighed c.args.block.now _ _ _ (omega arith) c.unused_weight-weight.ensures ∙ c.if-block-i-ne0.false)

pub returns : goal.returns
returns c = sym (clear_less _ _ 500 c.loop-i.i (omega arith) c.loop-i.invariant)
