-- `scalar_good` tells whether a number is a Unicode scalar value.
use mathlib.Core.Path.{refl}
use Rattle.records.proofs.scalar_good.Goals as goal

pub returns : goal.returns
returns c = refl
