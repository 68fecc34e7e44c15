-- What is read is cut to what the transform takes. Assumes nothing.
use Rattle.test_leaves.proofs.CoefficientLaws.{coefficients_small}
use Rattle.test_leaves.proofs.blocks.one.Goals as goal

pub inverse-requires : goal.inverse-requires
inverse-requires g c = coefficients_small _ c.block-coefficients.ensures
