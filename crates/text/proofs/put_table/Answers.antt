-- " table " and the number, or nothing. Assumes nothing.
use Rattle.std.proofs.Common.{rules}
use Rattle.text.proofs.Puts.{puts_then}
use Rattle.text.proofs.Refused.{no_table, with_table}
use Rattle.text.proofs.put_table.Goals as goal

pub returns-then-numbered-ne8-clause-puts : goal.returns-then-numbered-ne8-clause-puts
returns-then-numbered-ne8-clause-puts c = no_table c.args.numbered c.args.table (search rules) c.if-numbered-ne8.true

pub returns-clause-puts : goal.returns-clause-puts
returns-clause-puts c =
    with_table c.args.numbered c.args.table c.if-numbered-ne8.false (puts_then c.put-named.ensures.puts c.put_number.ensures.puts (search rules))
