-- `column_line` is the interior of a leg along a column, the target's arrow before the source's.
use borrow.Author.Rules.{rules}
use Rattle.leg_pieces.proofs.Laws.{along_column}
use Rattle.leg_pieces.proofs.column_line.Goals as goal

pub returns : goal.returns
returns c = search (along_column, rules)
