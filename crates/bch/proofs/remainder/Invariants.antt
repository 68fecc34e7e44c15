-- `bch::remainder` meets its contract. The loop's invariant: the bytes that are left, fed to the register, give the remainder.
use mathlib.Core.Path.{◌≡◌}
use Prim.Native.Nat.{◌+◌, ◌-◌, ◌*◌, ◌<◌}
use Rattle.bits.specs.Bits.{bits_from}
use Rattle.bch.specs.Division.{fed}
use Rattle.bch.specs.Code.{generator, remainder}
use Rattle.bch.specs.Frame.{word}
use Rattle.bch.proofs.remainder.Given as goal

abbrev pub invariant-loop-byte : goal.invariant-loop-byte
invariant-loop-byte l =
    (l.register < 262144) × (fed generator (bits_from l.frame ((l.byte-index + 1) * 8) (512 - (l.byte-index + 1) * 8)) l.register ≡ remainder (word l.frame))
