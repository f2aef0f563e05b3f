-- `text` puts a glyph with the width that the ranges give it.
use borrow.Author.Rules.{rules}
use Rattle.canvas.proofs.Laws.{text_none, text_wide, text_letter}
use Rattle.canvas.proofs.row.text.Goals as goal

pub returns-in-0 : goal.returns-in-0
returns-in-0 c = text_none _ _ _ _ (search rules)

pub returns-in-2 : goal.returns-in-2
returns-in-2 c = text_wide _ _ _ _ _ (search rules) (search rules)

pub returns-in_default : goal.returns-in_default
returns-in_default c = text_letter _ _ _ _ _ (λ e. search rules) (λ e. search rules) (search rules)
