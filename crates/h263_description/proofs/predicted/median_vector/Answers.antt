-- `predicted::median_vector` meets its contract: component by component.
use Rattle.h263_description.proofs.predicted.median_vector.Goals as goal

pub returns : goal.returns
returns c = λ i. record { horizontal = c.median.ensures i; vertical = c.median-2.ensures i }
