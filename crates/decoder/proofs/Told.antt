-- What came of a drawing is one that is told as it is: nothing of it is lost. Assumes nothing.
use mathlib.Core.Path.{sym, ap}
use Rattle.std.specs.Prelude.{Ok, Err}
use Rattle.refusals.proofs.Told.{accepted_once, refused_once, told_apart}
use Rattle.decoder.specs.Decoded.{DrawnToldOnce}

pub drawn_told_once : DrawnToldOnce
drawn_told_once (Ok a) (Ok b) e = ap Ok (accepted_once e)
drawn_told_once (Err a) (Err b) e = ap Err (refused_once a b e)
drawn_told_once (Ok a) (Err b) e = absurd (told_apart e)
drawn_told_once (Err a) (Ok b) e = absurd (told_apart (sym e))
