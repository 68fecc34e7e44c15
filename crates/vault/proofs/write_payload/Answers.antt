-- `vault::write_payload` meets its contract. The loop's invariant: the first j bytes of the payload stand in their places.
-- Assumes nothing.
use native.Mathlib.Omega.{arith}
use mathlib.Core.Path.{◌≡◌, sym, ap, ◌∙◌}
use Prim.Native.Nat.{ℕ, ◌+◌, ◌≤◌}
use mathlib.Core.List.{List}
use lib.ListN.{length}
use lib.Seq.{paste, length-paste}
use Rattle.vault.specs.Parts.{payload_at}
use Rattle.vault.proofs.KeptLaws.{payload_length, payload_byte}
use Rattle.vault.proofs.PayloadStored.{Stored, one_more, full}
use Rattle.vault.proofs.write_payload.Goals as goal

stored : {block₀ payload block : List ℕ} {n m : ℕ} → length block₀ ≡ 512 → length payload ≡ 500 → n ≡ m → m ≤ 500 → block ≡ paste block₀ 8 payload m → Stored block₀ payload block n
stored {block₀} {payload} {n = n} e p w l h =
    let is = h ∙ ap (paste block₀ 8 payload) (sym w) in
    let room : 8 + n ≤ length block₀ = omega arith in
    let reach : n ≤ length payload = omega arith in
    record { room = e; is = is; long = ap length is ∙ length-paste block₀ 8 payload n room reach ∙ e; within = omega arith }

pub loop-j-init : goal.loop-j-init
loop-j-init c =
    stored c.requires.block_long (payload_length _ _ _) c.copy_whole-whole.ensures.value (omega arith) c.copy_whole-whole.ensures.block_after

pub bounds-block-j : goal.bounds-block-j
bounds-block-j c = omega (arith, c.loop-j.invariant.long)

pub loop-j-preserved : goal.loop-j-preserved
loop-j-preserved c =
    one_more _ (payload_length _ _ _) c.loop-j.invariant (omega arith) (c.kept.ensures ∙ sym (payload_byte _ _ c.args.part _ (omega arith)))

pub returns : goal.returns
returns c =
    let s = c.loop-j.invariant in
    s.is ∙ ap (paste c.args.block.now 8 (payload_at c.args.bytes.now c.args.count c.args.part)) (full _ s (omega (arith, c.copy_whole-whole.ensures.value)))
