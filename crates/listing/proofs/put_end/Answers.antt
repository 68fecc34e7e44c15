-- `listing::put_end` meets its contract: its words one after another. Assumes nothing.
use borrow.Author.Rules.{rules}
use Rattle.text.proofs.Puts.{puts_then}
use Rattle.listing.specs.Listed.{end_of}
use Rattle.listing.proofs.put_end.Goals as goal

pub returns : goal.returns
unfolding end_of
returns c =
    let clipped = puts_then c.put-named.ensures.puts c.put_number-clipped.ensures.puts (search rules) in
    record { upper_bound = search rules; puts = puts_then (puts_then clipped c.put_standing-stood.ensures.puts (search rules)) c.put.ensures.puts (search rules) }
