-- `arrow_shape` gives the arrow of a direction.
use Rattle.shapes.specs.Shapes.{marker_shape}
use Rattle.shapes.proofs.arrow_shape.Goals as goal

pub returns-in-Up : goal.returns-in-Up
unfolding marker_shape
returns-in-Up c = rw c.in-Up.is

pub returns-in-Down : goal.returns-in-Down
unfolding marker_shape
returns-in-Down c = rw c.in-Down.is

pub returns-in-Left : goal.returns-in-Left
unfolding marker_shape
returns-in-Left c = rw c.in-Left.is

pub returns-in-Right : goal.returns-in-Right
unfolding marker_shape
returns-in-Right c = rw c.in-Right.is
