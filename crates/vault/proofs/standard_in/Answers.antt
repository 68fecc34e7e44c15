-- `vault::standard_in` meets its contract: by the one test. Assumes nothing.
use borrow.Author.Tests.{eq-eqb, ne_eqb}
use Rattle.vault.proofs.standard_in.Goals as goal

pub returns-then-marks-eq1 : goal.returns-then-marks-eq1
returns-then-marks-eq1 c = rw (eq-eqb _ _ c.if-marks-eq1.true)

pub returns : goal.returns
returns c = rw (ne_eqb _ _ c.if-marks-eq1.false)
