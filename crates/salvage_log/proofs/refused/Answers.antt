-- `salvage_log::refused` meets its contract: its words one after another. Assumes nothing.
use borrow.Author.Rules.{rules}
use mathlib.Core.Path.{ap}
use Rattle.text.specs.Text.{decimal}
use Rattle.text.proofs.Puts.{puts_then, puts_as, told}
use Rattle.salvage_log.specs.Lines.{refused_text}
use Rattle.salvage_log.proofs.refused.Goals as goal

pub returns : goal.returns
unfolding refused_text
returns c =
    let numbered = puts_as (ap decimal c.number_of.ensures) c.put_number-numbered.ensures.puts in
    let all = told (search rules) (puts_then (puts_then c.put-named.ensures.puts numbered (search rules)) c.put.ensures.puts (search rules)) in
    record { prefix_len = all.0; value = all.1.0; out_after = all.1.1 }
