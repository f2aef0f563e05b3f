-- `as_width` keeps the widths 0 and 2 and makes every other word a 1.
use borrow.Author.Rules.{rules}
use Rattle.glyph.proofs.as_width.Goals as goal

pub returns-in-0 : goal.returns-in-0
returns-in-0 c = (rw c.in-0.is, search rules)

pub returns-in-2 : goal.returns-in-2
returns-in-2 c = (rw c.in-2.is, search rules)
