-- `bch::part` meets its contract. The loop's invariant: the bits that are left, fed to the register, give the part.
use mathlib.Core.Path.{◌≡◌, refl, sym, ap, ◌∙◌}
use Prim.Native.Nat.{ℕ, ◌+◌, ◌-◌, ◌/◌, ◌%◌, ◌^◌}
use native.Mathlib.Nat.{mod-lt}
use native.Mathlib.Omega.{arith}
use lib.Dec.{lit<}
use Rattle.laws.specs.Xor.{◌⊕◌}
use Rattle.bits.specs.Bits.{bits_of}
use Rattle.bch.specs.Division.{fed, up}
use Rattle.bch.specs.Locate.{part}
use Rattle.bch.specs.Frame.{factor}
use Rattle.bch.proofs.Register.{part_next, short_lt}
use Rattle.bch.proofs.part.Goals as goal

pub loop-k-init : goal.loop-k-init
unfolding part
loop-k-init c = (omega arith, refl)

pub fed_short-register-requires : goal.fed_short-register-requires
fed_short-register-requires c = (c.requires.0, mod-lt _ (lit< tt))

pub loop-k-preserved : goal.loop-k-preserved
loop-k-preserved c =
    let l = c.loop-k in
    let d = factor c.args.rest in
    let r = c.args.r in
    let left : 9 - (l.k + 1) ≡ 9 - l.k - 1 = omega arith in
    let place : 8 - l.k ≡ 9 - l.k - 1 = omega arith in
    let fed_on : c.fed_short-register.result ≡ up d l.register ⊕ (r / 2 ^ (9 - l.k - 1) % 2) = c.fed_short-register.ensures ∙ ap (λ (e : ℕ). up d l.register ⊕ (r / 2 ^ e % 2)) place in (
      short_lt c.args.rest l.register _ c.fed_short-register.result c.requires.0 (mod-lt _ (lit< tt)) c.fed_short-register.ensures,
      (λ i. fed d (bits_of (left i) r) (fed_on i)) ∙ sym (part_next d r (9 - l.k) l.register (omega arith)) ∙ l.invariant.1,
    )

pub returns : goal.returns
unfolding fed
returns c =
    let l = c.loop-k in
    let none : 9 - l.k ≡ 0 = omega arith in
    (sym (ap (λ (n : ℕ). fed (factor c.args.rest) (bits_of n c.args.r) l.register) none) ∙ l.invariant.1, l.invariant.0)
