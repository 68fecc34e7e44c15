-- Its words one after another. Assumes nothing.
use Rattle.std.proofs.Common.{rules}
use Rattle.text.proofs.Puts.{puts_then, told}
use Rattle.account.proofs.remarks.one_number.Goals as goal

pub returns-clause-value : goal.returns-clause-value
returns-clause-value c = (told (search rules) (puts_then (puts_then c.put-named.ensures.puts c.put_number-begun.ensures.puts (search rules)) c.put.ensures.puts (search rules))).1.0

pub returns-clause-out_after : goal.returns-clause-out_after
returns-clause-out_after c = (told (search rules) (puts_then (puts_then c.put-named.ensures.puts c.put_number-begun.ensures.puts (search rules)) c.put.ensures.puts (search rules))).1.1
