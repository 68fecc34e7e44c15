-- `salvage_log::skipped_line` meets its contract: its words one after another. Assumes nothing.
use borrow.Author.Rules.{rules}
use Rattle.text.proofs.Puts.{puts_then, told}
use Rattle.salvage_log.specs.Lines.{skipped_text}
use Rattle.salvage_log.proofs.skipped_line.Goals as goal

pub returns : goal.returns
unfolding skipped_text
returns c =
    let named = puts_then c.put_number-numbered.ensures.puts c.put-named.ensures.puts (search rules) in
    let from = puts_then named c.put_number-from.ensures.puts (search rules) in
    let parted = puts_then from c.put-parted.ensures.puts (search rules) in
    let to = puts_then parted c.put_number-to.ensures.puts (search rules) in
    let all = told (search rules) (puts_then to c.put.ensures.puts (search rules)) in
    record { prefix_len = all.0; value = all.1.0; out_after = all.1.1 }
