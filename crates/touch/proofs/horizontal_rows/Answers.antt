-- `horizontal_rows` gives a row, if a column lies strictly between two.
use borrow.Author.Rules.{rules}
use Rattle.flow.proofs.Reached.{horizontal_short, horizontal_long}
use Rattle.touch.proofs.horizontal_rows.Goals as goal

pub returns-then-high-low-lt2 : goal.returns-then-high-low-lt2
returns-then-high-low-lt2 c = horizontal_short _ _ _ _ (search rules)

pub returns : goal.returns
returns c = horizontal_long _ _ _ _ _ (search rules) c.clip.ensures
