-- `row_line` is the interior of a leg along a row, the target's arrow before the source's.
use borrow.Author.Rules.{rules}
use Rattle.leg_pieces.proofs.Laws.{along_row}
use Rattle.leg_pieces.proofs.row_line.Goals as goal

pub returns : goal.returns
returns c = search (along_row, rules)
