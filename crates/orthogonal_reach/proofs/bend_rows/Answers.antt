-- `bend_rows` gives the row of the bend at a leg's start, and none at the source.
use Rattle.orthogonal_reach.specs.Passing.{bend_rows}
use Rattle.orthogonal_reach.proofs.bend_rows.Goals as goal

pub returns-then-first : goal.returns-then-first
unfolding bend_rows
returns-then-first c = rw c.if-first.true

pub returns-else-first : goal.returns-else-first
unfolding bend_rows
returns-else-first c = rw c.if-first.false c.clip.ensures
