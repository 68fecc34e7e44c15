-- Its words one after another. Assumes nothing.
use Rattle.std.proofs.Common.{rules}
use Rattle.text.proofs.Puts.{puts_then, told}
use Rattle.text.specs.Remarks.{progress_text}
use Rattle.text.proofs.remarks.progress.Goals as goal

pub returns-clause-value : goal.returns-clause-value
unfolding progress_text
returns-clause-value c =
    let two = puts_then c.put-cleared.ensures.puts c.put_number-counted.ensures.puts (search rules) in
    (told (search rules) (puts_then (puts_then two c.put-named.ensures.puts (search rules)) c.put_number.ensures.puts (search rules))).1.0

pub returns-clause-out_after : goal.returns-clause-out_after
unfolding progress_text
returns-clause-out_after c =
    let two = puts_then c.put-cleared.ensures.puts c.put_number-counted.ensures.puts (search rules) in
    (told (search rules) (puts_then (puts_then two c.put-named.ensures.puts (search rules)) c.put_number.ensures.puts (search rules))).1.1
