-- `listing::short` meets its contract: its words one after another. Assumes nothing.
use borrow.Author.Rules.{rules}
use Rattle.text.proofs.Puts.{puts_then, told}
use Rattle.listing.specs.Lines.{short_text}
use Rattle.listing.proofs.short.Goals as goal

pub returns : goal.returns
unfolding short_text
returns c = let all = told (search rules) (puts_then c.put_number-numbered.ensures.puts c.put.ensures.puts (search rules)) in
    record { prefix_len = all.0; value = all.1.0; out_after = all.1.1 }
