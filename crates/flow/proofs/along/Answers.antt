-- `along` gives the coordinate so many cells along the flow: its signed product and sum fit.
use Rattle.flow.proofs.Signed.{sum_along}
use Rattle.flow.proofs.along.Goals as goal

pub returns : goal.returns
returns c = sum_along _ _ _ c.sign_of.ensures c.requires.1 _ c.requires.0 _ c.coordinate_of.ensures
