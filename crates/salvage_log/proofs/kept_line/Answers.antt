-- `salvage_log::kept_line` meets its contract: its words one after another. Assumes nothing.
use borrow.Author.Rules.{rules}
use Rattle.text.proofs.Puts.{puts_then, told}
use Rattle.salvage_log.specs.Lines.{kept_text}
use Rattle.salvage_log.proofs.kept_line.Goals as goal

pub returns : goal.returns
unfolding kept_text
returns c =
    let named = puts_then c.put_number-numbered.ensures.puts c.put-named.ensures.puts (search rules) in
    let before = puts_then named c.put_number-before.ensures.puts (search rules) in
    let parted = puts_then before c.put-parted.ensures.puts (search rules) in
    let after = puts_then parted c.put_number-after.ensures.puts (search rules) in
    let all = told (search rules) (puts_then after c.put.ensures.puts (search rules)) in
    record { prefix_len = all.0; value = all.1.0; out_after = all.1.1 }
