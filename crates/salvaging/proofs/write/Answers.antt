-- `salvaging::write` meets its contract: by whether the block goes on. Assumes nothing.
use Rattle.salvaging.proofs.Stores.{part_stored}
use Rattle.salvaging.specs.Going.{written_by}
use Rattle.salvaging.specs.Clip.{joined}
use Rattle.vault.proofs.Renewed.{renewed_length}
use Rattle.vault.specs.Renewed.{renewed_block}
use lib.Seq.{sets}
use lib.ListN.{length, take, drop, length-take, length-drop}
use native.Mathlib.Omega.{arith}
use Prim.Native.Nat.{ℕ, ◌+◌, ◌-◌, ◌*◌, ◌≤◌}
use mathlib.Core.List.{List, [], ◌∷◌, ◌++◌, append-nil}
use mathlib.Core.Bool.{Bool}
use mathlib.Core.Path.{◌≡◌, sym, ap, ◌∙◌}
use Rattle.salvaging.proofs.write.Goals as goal

part_long : (out : List ℕ) (at : ℕ) → at + 512 ≤ length out → length (take (at + 512 - at) (drop at out)) ≡ 512
part_long out at l = omega (arith, length-take (at + 512 - at) (drop at out), length-drop at out)

block_written : (out part : List ℕ) (written clip picture : ℕ) (block : List ℕ) → length block ≡ 512 → 512 * (written + 1) ≤ length out → part ≡ renewed_block clip picture block
    → take (512 * written) out ++ (part ++ drop (512 * written + 512 - 512 * written) (drop (512 * written) out)) ≡ sets out (512 * written) (joined (renewed_block clip picture block ∷ []))
unfolding joined
block_written out part written clip picture block e l f =
    let long : length part ≡ 512 = ap length f ∙ renewed_length clip picture block e in
    part_stored out part (512 * written) (512 * written + 512 - 512 * written) (omega (arith, long)) (omega arith)
    ∙ ap (sets out (512 * written)) (f ∙ sym (append-nil (renewed_block clip picture block)))

pub overflow_cast-picture : goal.overflow_cast-picture
overflow_cast-picture c = omega (arith, c.requires.numbered c.if-goes.true)

pub renew-requires : goal.renew-requires
renew-requires c =
    record {
      block_long = c.requires.block_long;
      out_long = part_long c.args.out.now (512 * c.args.written) (omega (arith, c.requires.room));
      numbered = c.requires.numbered c.if-goes.true;
    }

pub returns-then-goes : goal.returns-then-goes
returns-then-goes c =
    let a = c.args in
    let goes = c.if-goes.true in record {
      value = omega (arith, ap (λ (b : Bool). length (written_by b a.clip a.picture a.block.now)) goes);
      out_after = block_written a.out.now _ a.written a.clip a.picture a.block.now c.requires.block_long c.requires.room c.renew.ensures
          ∙ sym (ap (λ (b : Bool). sets a.out.now (512 * a.written) (joined (written_by b a.clip a.picture a.block.now))) goes);
    }

pub returns : goal.returns
unfolding joined
returns c =
    let a = c.args in
    let stays = c.if-goes.false in record { value = omega (arith, ap (λ (b : Bool). length (written_by b a.clip a.picture a.block.now)) stays); out_after = sym (ap (λ (b : Bool). sets a.out.now (512 * a.written) (joined (written_by b a.clip a.picture a.block.now))) stays) }
