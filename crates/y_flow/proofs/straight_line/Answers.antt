-- `straight_line` gives the line of a straight leg, whose start arrow beats its end arrow.
use borrow.Author.Rules.{rules}
use mathlib.Core.Path.{ap}
use Rattle.flow.specs.declared.Piece.TheVariants.{Vertical}
use Rattle.flow.proofs.Laws.{line_same, start_same, end_same, and_same}
use Rattle.y_flow.specs.YFlow.{with_y, against_y, straight_line_y}
use Rattle.y_flow.proofs.straight_line.Goals as goal

pub returns : goal.returns
unfolding straight_line_y
returns c = ap Vertical (search (line_same, start_same against_y, end_same with_y, and_same, rules))
