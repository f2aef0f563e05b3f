-- `vertical_rows` gives the rows strictly between two.
use borrow.Author.Rules.{rules}
use Rattle.flow.proofs.Reached.{vertical_short, vertical_long}
use Rattle.touch.proofs.vertical_rows.Goals as goal

pub returns-then-high-low-lt2 : goal.returns-then-high-low-lt2
returns-then-high-low-lt2 c = vertical_short _ _ _ (search rules)

pub returns : goal.returns
returns c = search (vertical_long, rules)
