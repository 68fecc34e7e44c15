-- Its words one after another. Assumes nothing.
use Rattle.std.proofs.Common.{rules}
use Rattle.text.proofs.Puts.{puts_then, told}
use Rattle.text.specs.Remarks.{count_text}
use Rattle.text.proofs.remarks.pictures.Goals as goal

pub returns-clause-value : goal.returns-clause-value
unfolding count_text
returns-clause-value c = (told (search rules) (puts_then c.put_number-counted.ensures.puts c.put.ensures.puts (search rules))).1.0

pub returns-clause-out_after : goal.returns-clause-out_after
unfolding count_text
returns-clause-out_after c = (told (search rules) (puts_then c.put_number-counted.ensures.puts c.put.ensures.puts (search rules))).1.1
