-- What each kind's pictures are coded by obeys the laws of a coding. Assumes nothing.
use Rattle.coding.specs.declared.Kind.{Kind}
use Rattle.coding.specs.declared.Kind.TheVariants.{H261, H263}
use Rattle.coding.specs.Lawful.{Lawful}
use Rattle.coding.specs.Kind.{kind_size, coding_of, CodingLawful}
use Rattle.coding.proofs.H261.{h261_lawful}
use Rattle.coding.proofs.H263.{h263_lawful}

kind_lawful : (k : Kind) → Lawful (kind_size k) (coding_of k)
unfolding coding_of
kind_lawful (H261 f) = h261_lawful f
kind_lawful (H263 size) = h263_lawful size

pub coding_lawful : CodingLawful
coding_lawful = record { each = kind_lawful }
