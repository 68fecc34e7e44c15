-- `counting::put_counts` meets its contract: its words one after another. Assumes nothing.
use borrow.Author.Rules.{rules}
use Rattle.text.proofs.Puts.{puts_then}
use Rattle.counting.specs.Lines.{counts_text}
use Rattle.counting.proofs.put_counts.Goals as goal

pub returns : goal.returns
unfolding counts_text
returns c =
    let sized = puts_then c.put-named.ensures.puts c.put_number-sized.ensures.puts (search rules) in
    record { upper_bound = search rules; puts = puts_then (puts_then sized c.put-parted.ensures.puts (search rules)) c.put_number.ensures.puts (search rules) }
