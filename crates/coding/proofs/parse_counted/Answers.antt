-- `coding::parse_counted` meets its contract: what the reader of its standard says, leaves and counts. Assumes nothing.
use mathlib.Core.Path.{sym}
use Rattle.coding.proofs.ByKind.{coded_h261, coded_h263, zeros_as, reads_h261, reads_h263, says_verdict, says_buffers}
use Rattle.coding.proofs.parse_counted.Goals as goal

pub parse_counted-requires : goal.parse_counted-requires
parse_counted-requires c = zeros_as c.in-H261.is c.requires

pub parse_counted-requires-in-H263 : goal.parse_counted-requires-in-H263
parse_counted-requires-in-H263 c = zeros_as c.in-H263.is c.requires

pub returns-in-H261 : goal.returns-in-H261
returns-in-H261 c =
    let blank = zeros_as c.in-H261.is c.requires in
    let bytes = c.args.bytes.now in
    let given = c.parse_counted.ensures in record { verdict = says_verdict (coded_h261 c.in-H261.is) bytes c.args.count given.verdict; buffers = says_buffers (coded_h261 c.in-H261.is) bytes c.args.count (sym blank) given.buffers; reads = reads_h261 c.in-H261.is bytes c.args.count given.reads }

pub returns-in-H263 : goal.returns-in-H263
returns-in-H263 c =
    let blank = zeros_as c.in-H263.is c.requires in
    let bytes = c.args.bytes.now in
    let given = c.parse_counted-in-H263.ensures in record { verdict = says_verdict (coded_h263 c.in-H263.is) bytes c.args.count given.verdict; buffers = says_buffers (coded_h263 c.in-H263.is) bytes c.args.count (sym blank) given.buffers; reads = reads_h263 c.in-H263.is bytes c.args.count given.reads }
