-- `bch::fed` meets its contract: the eight high bits are looked up, the ten low ones move up, and the byte follows.
use mathlib.Core.Path.{sym, ap, subst, ◌∙◌}
use Prim.Native.Nat.{ℕ, ◌*◌, ◌/◌, ◌%◌, ◌<◌}
use borrow.Author.Rules.{rules}
use lib.ListN.{get_or}
use Rattle.laws.specs.Xor.{◌⊕◌}
use Rattle.bch.proofs.Register.{byte_fed, byte_fed_lt}
use Rattle.bch.proofs.fed.Goals as goal

pub returns : goal.returns
returns c =
    let a = c.args in
    let e = ap (λ (b : ℕ). get_or a.steps.now (a.register / 1024) 0 ⊕ (a.register % 1024 * 256) ⊕ b) c.from.ensures ∙ byte_fed a.steps.now c.requires.0 a.register a.byte c.requires.1 (search rules) in
    (e, subst (λ (n : ℕ). n < 262144) (sym e) (byte_fed_lt a.register a.byte c.requires.1))
