-- `straight_line` gives the line of a straight leg, whose start arrow beats its end arrow.
use borrow.Author.Rules.{rules}
use mathlib.Core.Path.{ap}
use Rattle.flow.specs.declared.Piece.TheVariants.{Horizontal}
use Rattle.flow.proofs.Laws.{line_same, start_same, end_same, and_same}
use Rattle.x_flow.specs.XFlow.{with_x, against_x, straight_line_x}
use Rattle.x_flow.proofs.straight_line.Goals as goal

pub returns : goal.returns
unfolding straight_line_x
returns c = ap Horizontal (search (line_same, start_same against_x, end_same with_x, and_same, rules))
