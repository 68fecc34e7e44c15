-- `listing::put_picture` meets its contract: its words one after another. Assumes nothing.
use borrow.Author.Rules.{rules}
use Rattle.text.proofs.Puts.{puts_then}
use Rattle.listing.specs.Lines.{picture_text}
use Rattle.listing.proofs.put_picture.Goals as goal

pub returns : goal.returns
unfolding picture_text
returns c =
    record {
      upper_bound = search rules;
      puts = puts_then
          (puts_then (puts_then c.put-named.ensures.puts c.put_number-pictured.ensures.puts (search rules)) c.put-ticking.ensures.puts (search rules))
          c.put_tick.ensures.puts (search rules);
    }
