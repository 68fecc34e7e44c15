-- `bch::remainder` meets its contract. The loop's invariant: the bytes that are left, fed to the register, give the remainder.
use mathlib.Core.Path.{◌≡◌, sym, ap, ◌∙◌}
use Prim.Native.Nat.{ℕ, ◌+◌, ◌-◌, ◌*◌, ◌%◌}
use native.Mathlib.Omega.{arith}
use lib.ListN.{get_or, take, drop}
use Rattle.std.proofs.lemmas.List.{get_or-take}
use Rattle.std.proofs.lemmas.Grind.{get_or_after_one}
use Rattle.bits.specs.Bits.{bits_from, bits_of}
use Rattle.bch.specs.Division.{fed}
use Rattle.bch.specs.Code.{generator}
use Rattle.bch.proofs.Register.{byte_next, none-fed, first_fed}
use Rattle.bch.proofs.remainder.Goals as goal

pub loop-byte-init : goal.loop-byte-init
loop-byte-init c =
    let s = c.args.frame.now in
    (omega arith, ap (λ (b : ℕ). fed generator (bits_from s 8 504) (b % 128)) c.from-register.ensures ∙ first_fed s)

pub loop-byte-preserved : goal.loop-byte-preserved
loop-byte-preserved c =
    let s = c.args.frame.now in
    let l = c.loop-byte in
    let i = l.byte-index + 1 in
    let place : 1 + l.byte-index ≡ i = omega arith in
    let byte : get_or (take 63 (drop 1 s)) l.byte-index 0 ≡ get_or s i 0 =
    get_or-take 63 (drop 1 s) l.byte-index 0 (omega arith) ∙ get_or_after_one s l.byte-index 0 ∙ ap (λ (n : ℕ). get_or s n 0) place in (
      c.fed-register.ensures.1,
      ap (fed generator (bits_from s ((i + 1) * 8) (512 - (i + 1) * 8))) (c.fed-register.ensures.0 ∙ ap (λ (b : ℕ). fed generator (bits_of 8 b) l.register) byte)
          ∙ sym (byte_next s i l.register (omega arith)) ∙ l.invariant.1,
    )

pub returns : goal.returns
returns c =
    let l = c.loop-byte in
    let s = c.args.frame.now in
    (sym (none-fed s (l.byte-index + 1) l.register (omega arith)) ∙ l.invariant.1, l.invariant.0)
