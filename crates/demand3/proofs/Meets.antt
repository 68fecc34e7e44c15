-- Each kind's coding obeys the laws, so demand 3 holds. Assumes nothing.
use Rattle.layout.specs.Flat.{Flat}
use Rattle.coding.specs.Kind.{coding_of}
use Rattle.coding.proofs.AllLawful.{coding_lawful}
use Rattle.demand3.specs.Theorems.{CodingsMeet}
use Rattle.demand3.proofs.InStep.{in_step}
use Rattle.demand3.proofs.CatchingUp.{catches_up}

pub codings_meet : CodingsMeet
codings_meet = record { in_step = in_step Flat coding_of coding_lawful; catches_up = catches_up Flat coding_of coding_lawful }
