-- `listing::put_place` meets its contract: its words one after another. Assumes nothing.
use borrow.Author.Rules.{rules}
use Rattle.text.proofs.Puts.{puts_then}
use Rattle.listing.specs.Lines.{place_text}
use Rattle.listing.proofs.put_place.Goals as goal

pub returns : goal.returns
unfolding place_text
returns c =
    let named = puts_then c.put-named.ensures.puts c.put_number-pictured.ensures.puts (search rules) in
    let dotted = puts_then named c.put-dotted.ensures.puts (search rules) in
    record { upper_bound = search rules; puts = puts_then dotted c.put_number.ensures.puts (search rules) }
