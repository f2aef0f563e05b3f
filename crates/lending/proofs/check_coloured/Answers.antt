-- `check_coloured` finds the first rule of codes 11 and 12 that a coloured band breaks.
use borrow.Author.Rules.{rules}
use Rattle.lending.proofs.Laws.{band_outside, coloured_inside}
use Rattle.lending.proofs.check_coloured.Goals as goal

pub returns-then-is_outside : goal.returns-then-is_outside
returns-then-is_outside c = search (band_outside, rules)

pub room-requires : goal.room-requires
room-requires c = c.is_outside.ensures.1 c.if-is_outside.false

pub returns : goal.returns
returns c = search (coloured_inside, rules)
