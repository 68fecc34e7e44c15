-- `bch::part` meets its contract. The loop's invariant: the bits that are left, fed to the register, give the part.
use mathlib.Core.Path.{◌≡◌}
use Prim.Native.Nat.{◌-◌, ◌<◌}
use Rattle.bits.specs.Bits.{bits_of}
use Rattle.bch.specs.Division.{fed}
use Rattle.bch.specs.Locate.{part}
use Rattle.bch.specs.Frame.{factor}
use Rattle.bch.proofs.part.Given as goal

abbrev pub invariant-loop-k : goal.invariant-loop-k
invariant-loop-k l = (l.register < 512) × (fed (factor l.rest) (bits_of (9 - l.k) l.r) l.register ≡ part (factor l.rest) l.r)
