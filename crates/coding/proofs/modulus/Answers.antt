-- `coding::modulus` meets its contract: 32 or 256. Assumes nothing.
use mathlib.Core.Path.{sym, ap}
use Rattle.coding.specs.declared.Kind.{Kind}
use Rattle.coding.specs.Kind.{coding_of}
use Rattle.coding.proofs.modulus.Goals as goal

pub returns-in-H261 : goal.returns-in-H261
unfolding coding_of
returns-in-H261 c = sym (ap (λ (k : Kind). (coding_of k).modulus) c.in-H261.is)

pub returns-in-H263 : goal.returns-in-H263
unfolding coding_of
returns-in-H263 c = sym (ap (λ (k : Kind). (coding_of k).modulus) c.in-H263.is)
