-- `head_here` says whether an arrow stands at a place.
use borrow.Author.Rules.{rules}
use Rattle.lines.specs.Computed.{head_here}
use Rattle.lines.proofs.Laws.{here_at}
use Rattle.lines.proofs.cells.head_here.Goals as goal

pub returns-in-None : goal.returns-in-None
unfolding head_here
returns-in-None c = search rules

pub returns-in-Some : goal.returns-in-Some
returns-in-Some c = search (here_at, rules)
