-- Its words one after another. Assumes nothing.
use Rattle.std.proofs.Common.{rules}
use Rattle.text.proofs.Puts.{told_five}
use Rattle.text.specs.Remarks.{refused_text}
use Rattle.text.proofs.remarks.refused.Goals as goal

pub returns-clause-value : goal.returns-clause-value
unfolding refused_text
returns-clause-value c = (told_five (search rules) c.put-named.ensures.puts c.put_number-numbered.ensures.puts c.put-parted.ensures.puts c.put_refusal-told.ensures.puts c.put.ensures.puts (search rules) (search rules) (search rules) (search rules)).1.0

pub returns-clause-out_after : goal.returns-clause-out_after
unfolding refused_text
returns-clause-out_after c = (told_five (search rules) c.put-named.ensures.puts c.put_number-numbered.ensures.puts c.put-parted.ensures.puts c.put_refusal-told.ensures.puts c.put.ensures.puts (search rules) (search rules) (search rules) (search rules)).1.1
