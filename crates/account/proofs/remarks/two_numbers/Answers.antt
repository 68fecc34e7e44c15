-- Its words one after another. Assumes nothing.
use Rattle.std.proofs.Common.{rules}
use Rattle.text.proofs.Puts.{told_five}
use Rattle.account.proofs.remarks.two_numbers.Goals as goal

pub returns-clause-value : goal.returns-clause-value
returns-clause-value c = (told_five (search rules) c.put-named.ensures.puts c.put_number-begun.ensures.puts c.put-joined.ensures.puts c.put_number-ended.ensures.puts c.put.ensures.puts (search rules) (search rules) (search rules) (search rules)).1.0

pub returns-clause-out_after : goal.returns-clause-out_after
returns-clause-out_after c = (told_five (search rules) c.put-named.ensures.puts c.put_number-begun.ensures.puts c.put-joined.ensures.puts c.put_number-ended.ensures.puts c.put.ensures.puts (search rules) (search rules) (search rules) (search rules)).1.1
