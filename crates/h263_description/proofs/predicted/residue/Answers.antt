-- `predicted::residue` meets its contract: tried at every byte.
use mathlib.Core.Path.{sym}
use native.Mathlib.Omega.{arith}
use Rattle.h263_description.proofs.Landing.{residue_byte}
use Rattle.h263_description.proofs.predicted.residue.Goals as goal

pub returns : goal.returns
returns c = sym (residue_byte c.args.byte (omega (arith, c.ranges.byte.fits)) c.requires)
