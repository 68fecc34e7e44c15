-- `counting::line` meets its contract: its words one after another. Assumes nothing.
use borrow.Author.Rules.{rules}
use Rattle.text.proofs.Puts.{puts_then, told}
use Rattle.counting.specs.Lines.{reads_text}
use Rattle.counting.proofs.line.Goals as goal

pub returns : goal.returns
unfolding reads_text
returns c =
    let outcome = puts_then c.put_number-numbered.ensures.puts c.put_outcome-answered.ensures.puts (search rules) in
    let all = told (search rules) (puts_then (puts_then outcome c.put_counts-counted.ensures.puts (search rules)) c.put.ensures.puts (search rules)) in
    record { prefix_len = all.0; value = all.1.0; out_after = all.1.1 }
