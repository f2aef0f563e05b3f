-- `draw_cell` draws one stroke or one arrow, and nothing else.
use borrow.Author.Rules.{rules}
use Rattle.draw.proofs.Laws.{inked_stroke, inked_mark, no_cell}
use Rattle.draw.proofs.draw_cell.Goals as goal

pub returns-in-Stroke : goal.returns-in-Stroke
returns-in-Stroke c = search (inked_stroke, rules)

pub returns-in-Mark : goal.returns-in-Mark
returns-in-Mark c = search (inked_mark, rules)

pub returns-in_default : goal.returns-in_default
returns-in_default c = no_cell _ _ _ _ c.in_default.not-Stroke c.in_default.not-Mark c.requires.0
