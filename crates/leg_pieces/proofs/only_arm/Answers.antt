-- `only_arm` gives one arm in a direction.
use Rattle.leg_pieces.proofs.only_arm.Goals as goal

pub returns-in-Up : goal.returns-in-Up
returns-in-Up c = rw c.in-Up.is

pub returns-in-Down : goal.returns-in-Down
returns-in-Down c = rw c.in-Down.is

pub returns-in-Left : goal.returns-in-Left
returns-in-Left c = rw c.in-Left.is

pub returns-in-Right : goal.returns-in-Right
returns-in-Right c = rw c.in-Right.is
