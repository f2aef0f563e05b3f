-- `direct` gives the line of a Direct edge, whose end arrow beats its start arrow.
use borrow.Author.Rules.{rules}
use mathlib.Core.Path.{ap}
use Rattle.flow.specs.declared.Piece.TheVariants.{Vertical}
use Rattle.flow.proofs.Laws.{line_same, start_same, end_same}
use Rattle.y_flow.specs.YFlow.{with_y, against_y, direct_y}
use Rattle.y_flow.proofs.direct.Goals as goal

pub returns : goal.returns
unfolding direct_y
returns c = ap Vertical (search (line_same, start_same against_y, end_same with_y, rules))
