-- `Arms::stem` gives a Light stem in a direction.
use Rattle.cell.proofs.Arms.stem.Goals as goal

pub returns-in-Up : goal.returns-in-Up
returns-in-Up c = rw c.in-Up.is

pub returns-in-Down : goal.returns-in-Down
returns-in-Down c = rw c.in-Down.is

pub returns-in-Left : goal.returns-in-Left
returns-in-Left c = rw c.in-Left.is

pub returns-in-Right : goal.returns-in-Right
returns-in-Right c = rw c.in-Right.is
