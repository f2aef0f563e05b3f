-- `is_wide_lead` says whether a word is text of width 2.
use Rattle.canvas.specs.Row.{is_wide_lead}
use Rattle.canvas.proofs.Laws.{no_lead}
use Rattle.canvas.proofs.row.is_wide_lead.Goals as goal

pub returns : goal.returns
unfolding is_wide_lead
returns c = rw (← c.read.ensures, c.in-Text.is, c.char_width-width.ensures.0)

pub returns-in_default : goal.returns-in_default
returns-in_default c = no_lead _ _ _ c.read.ensures c.in_default.not-Text
