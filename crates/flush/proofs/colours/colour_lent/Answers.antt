-- `colour_lent` colours the rows where colours are lent; where they are not, there is nothing to colour.
use borrow.Author.Rules.{rules}
use Rattle.flush.proofs.Windows.{not_lent, all_lent, lent_room}
use Rattle.flush.proofs.colours.colour_lent.Goals as goal

pub colour_rows-requires-clause-width_bound : goal.colour_rows-requires-clause-width_bound
colour_rows-requires-clause-width_bound c =
    let room = lent_room _ _ _ _ c.in-All.is c.requires.width_bound.4 in
    (search rules, search rules, search rules, search rules, room.0, room.1)

pub returns-in-Cells : goal.returns-in-Cells
returns-in-Cells c = not_lent _ _ _ _ _ _ _ c.in-Cells.is

pub returns-in-All : goal.returns-in-All
returns-in-All c = all_lent _ _ _ _ _ _ _ _ c.in-All.is c.colour_rows.ensures
