-- `bits::window` meets its contract: of the 32 bits from a byte on, the 24 from the place on.
use mathlib.Core.Path.{ap, ◌∙◌}
use Prim.Native.Nat.{ℕ, ◌*◌, ◌/◌, ◌%◌, ◌^◌}
use Rattle.bits.proofs.Value.{window_is}
use Rattle.bits.proofs.window.Goals as goal

pub returns : goal.returns
returns c =
    let at = c.args.at in
    ap (λ (w : ℕ). (w * 2 ^ (at % 8)) % 2 ^ 32 / 2 ^ 8) c.four-whole.ensures ∙ window_is c.args.bytes.now at
