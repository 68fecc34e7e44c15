-- `bits::put` meets its contract: the bytes that the bits start are stored one after another, each the right part of one number.
use mathlib.Core.Path.{◌≡◌}
use Prim.Native.Nat.{◌+◌, ◌-◌}
use lib.ListN.{length}
use lib.Seq.{sets}
use Rattle.bits.specs.Bits.{bits_of}
use Rattle.bits.specs.Write.{bytes_with}
use Rattle.bits.proofs.Stores.{bytes_in}
use Rattle.bits.proofs.put.Given as goal

abbrev pub invariant-loop-i : goal.invariant-loop-i
invariant-loop-i l = (length l.out ≡ length l.initial.out) × (sets l.out (l.from + l.i) (bytes_in (l.many - l.i) l.number) ≡ bytes_with l.initial.out l.at (bits_of l.width l.value))
