-- `free_of` says whether no arrow stands at a place from low to below high.
use borrow.Author.Rules.{rules}
use Rattle.lines.specs.Computed.{free_of}
use Rattle.lines.proofs.Laws.{free_before, free_after}
use Rattle.lines.proofs.cells.free_of.Goals as goal

pub returns-in-None : goal.returns-in-None
unfolding free_of
returns-in-None c = search rules

pub returns-then-h-low : goal.returns-then-h-low
returns-then-h-low c = search (free_before, rules)

pub returns-else-h-low : goal.returns-else-h-low
returns-else-h-low c = search (free_after, rules)
