-- `draw_line` draws a line, and nothing else.
use borrow.Author.Rules.{rules}
use Rattle.draw.proofs.Laws.{inked_vertical, inked_horizontal, no_line}
use Rattle.draw.proofs.draw_line.Goals as goal

pub returns-in-Vertical : goal.returns-in-Vertical
returns-in-Vertical c = search (inked_vertical, rules)

pub returns-in-Horizontal : goal.returns-in-Horizontal
returns-in-Horizontal c = search (inked_horizontal, rules)

pub returns-in_default : goal.returns-in_default
returns-in_default c = no_line _ _ _ _ c.in_default.not-Vertical c.in_default.not-Horizontal c.requires.0
