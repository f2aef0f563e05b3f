-- `coordinate_of` gives a signed sum as a coordinate: its sign is tested before it is cast.
use Rattle.flow.proofs.Signed.{tested_below, tested_at}
use Rattle.flow.proofs.coordinate_of.Goals as goal

pub returns-then-sum-lt0 : goal.returns-then-sum-lt0
returns-then-sum-lt0 c = tested_below _ c.ranges.sum c.if-sum-lt0.true

pub returns-else-sum-lt0 : goal.returns-else-sum-lt0
returns-else-sum-lt0 c = tested_at _ c.ranges.sum c.if-sum-lt0.false
