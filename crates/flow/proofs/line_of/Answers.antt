-- `line_of` makes a line of its fields.
use mathlib.Core.Path.{refl}
use Rattle.flow.specs.Flow.{line_of}
use Rattle.flow.proofs.line_of.Goals as goal

pub returns : goal.returns
unfolding line_of
returns c = refl
