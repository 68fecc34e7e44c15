-- `predicted::vector_at` meets its contract: component by component.
use Rattle.h263_description.proofs.predicted.vector_at.Goals as goal

pub returns : goal.returns
returns c = λ i. record { horizontal = c.residue.ensures i; vertical = c.residue-2.ensures i }
