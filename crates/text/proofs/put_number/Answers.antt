-- The fewest digits that hold the number are its digits. Assumes nothing.
use Rattle.text.proofs.Puts.{puts_as}
use Rattle.text.proofs.Digits.{spelled}
use Rattle.text.proofs.put_number.Goals as goal

pub returns-clause-puts : goal.returns-clause-puts
returns-clause-puts c = puts_as (spelled _ c.ranges.n.fits c.decimal-count.ensures.len c.decimal-count.ensures.digits) c.put.ensures.puts
