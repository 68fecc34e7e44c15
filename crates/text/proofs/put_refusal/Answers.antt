-- The words of a refusal, one after another. Assumes nothing.
use Rattle.std.proofs.Common.{rules}
use Rattle.refusals.specs.Told.{numbers_of}
use Rattle.text.proofs.Refused.{below_three, past_fourteen, refused_plain, refused_at}
use Rattle.text.proofs.put_refusal.Goals as goal

pub returns-then-numbered-lt3-clause-puts : goal.returns-then-numbered-lt3-clause-puts
returns-then-numbered-lt3-clause-puts c =
    refused_plain (numbers_of c.args.why) c.number_of-numbered.ensures (below_three (numbers_of c.args.why) c.number_of-numbered.ensures c.if-numbered-lt3.true) (search rules) c.put-named.ensures.puts c.put_number-told.ensures.puts

pub returns-then-numbered-gt14-clause-puts : goal.returns-then-numbered-gt14-clause-puts
returns-then-numbered-gt14-clause-puts c =
    refused_plain (numbers_of c.args.why) c.number_of-numbered.ensures (past_fourteen (numbers_of c.args.why) c.number_of-numbered.ensures c.if-numbered-gt14.true) (search rules) c.put-named.ensures.puts c.put_number-told.ensures.puts

pub returns-clause-puts : goal.returns-clause-puts
returns-clause-puts c =
    refused_at (numbers_of c.args.why) c.number_of-numbered.ensures c.table_of-table.ensures c.if-numbered-lt3.false c.if-numbered-gt14.false (search rules)
    c.put-named.ensures.puts c.put_number-told.ensures.puts c.put-placing.ensures.puts c.put_number-placed.ensures.puts c.put_table.ensures.puts
