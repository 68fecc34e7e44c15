-- What a writer answers is the one answer that is told so. Assumes nothing.
use Rattle.std.specs.Prelude.{Ok, Err}
use mathlib.Core.Path.{sym, ap}
use Rattle.refusals.specs.Writing.{WrittenToldOnce}
use Rattle.refusals.proofs.Told.{accepted_once, refused_once, told_apart}

pub written_told_once : WrittenToldOnce
written_told_once (Ok m) (Ok n) e = ap Ok (accepted_once e)
written_told_once (Err a) (Err b) e = ap Err (refused_once a b e)
written_told_once (Ok m) (Err b) e = absurd (told_apart e)
written_told_once (Err a) (Ok n) e = absurd (told_apart (sym e))
