-- `marker_shape` gives the character of a marker.
use Rattle.shapes.specs.Shapes.{marker_shape}
use Rattle.shapes.proofs.marker_shape.Goals as goal

pub returns-in-Arrow : goal.returns-in-Arrow
returns-in-Arrow c = rw c.in-Arrow.is c.arrow_shape.ensures

pub returns-in-SelfLoop : goal.returns-in-SelfLoop
unfolding marker_shape
returns-in-SelfLoop c = rw c.in-SelfLoop.is

pub returns-in-Dummy : goal.returns-in-Dummy
unfolding marker_shape
returns-in-Dummy c = rw c.in-Dummy.is
