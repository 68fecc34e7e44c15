-- `stream::after_last` meets its contract: by the zeros after the last one. Assumes nothing.
use mathlib.Core.Path.{sym, ap, ◌∙◌}
use Prim.Native.Nat.{ℕ}
use native.Mathlib.Omega.{arith}
use Rattle.stream.specs.Bytes.{bits_of_number, last_after}
use Rattle.stream.proofs.Ones.{last_none, few_less, few_within, few_last}
use Rattle.stream.proofs.after_last.Goals as goal

pub returns-then-number-eq0 : goal.returns-then-number-eq0
returns-then-number-eq0 c =
    let a = c.args in
    sym (ap (λ (n : ℕ). last_after a.place a.otherwise (bits_of_number a.width n)) c.if-number-eq0.true ∙ last_none a.place a.otherwise a.width)

pub overflow_cast-result : goal.overflow_cast-result
overflow_cast-result c = omega (arith, few_less c.requires c.if-number-eq0.false)

pub overflow_sub-result : goal.overflow_sub-result
overflow_sub-result c = few_within c.requires c.if-number-eq0.false

pub returns : goal.returns
returns c = few_last c.requires c.if-number-eq0.false c.args.otherwise
