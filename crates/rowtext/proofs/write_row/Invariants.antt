-- `write_row` writes the cells from the first to the last, and the end of the row. The invariant: what is left to write.
use lib.ListN.{drop}
use Rattle.utf8.proofs.Written.{LeftOf}
use Rattle.rowtext.specs.Coloured.{coloured_from, coloured_row}
use Rattle.rowtext.proofs.write_row.Given as goal

abbrev pub invariant-loop-x : goal.invariant-loop-x
invariant-loop-x l =
    LeftOf l.at (coloured_row l.row l.colours) l.initial.out l.pen.at (coloured_from l.pen.colour (drop l.x l.row) (drop l.x l.colours)) l.out
