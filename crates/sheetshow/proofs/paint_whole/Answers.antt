-- `paint_whole` answers with what is known of the image then.
use borrow.Author.Rules.{rules}
use Rattle.sheetshow.proofs.Laws.{plain_answered, coloured_answered}
use Rattle.sheetshow.proofs.paint_whole.Goals as goal

pub returns-in-Coloured : goal.returns-in-Coloured
returns-in-Coloured c = search (coloured_answered, rules)

pub returns-in-Plain : goal.returns-in-Plain
returns-in-Plain c = search (plain_answered, rules)
