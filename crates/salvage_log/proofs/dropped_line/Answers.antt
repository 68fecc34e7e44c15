-- `salvage_log::dropped_line` meets its contract: its words one after another. Assumes nothing.
use borrow.Author.Rules.{rules}
use Rattle.text.proofs.Puts.{puts_then, told}
use Rattle.salvage_log.specs.Lines.{dropped_text}
use Rattle.salvage_log.proofs.dropped_line.Goals as goal

pub returns : goal.returns
unfolding dropped_text
returns c =
    let named = puts_then c.put_number-numbered.ensures.puts c.put-named.ensures.puts (search rules) in
    let answered = puts_then named c.put_answer-answered.ensures.puts (search rules) in
    let all = told (search rules) (puts_then answered c.put.ensures.puts (search rules)) in
    record { prefix_len = all.0; value = all.1.0; out_after = all.1.1 }
