-- `direct` gives the line of a Direct edge, whose end arrow beats its start arrow.
use borrow.Author.Rules.{rules}
use mathlib.Core.Path.{ap}
use Rattle.flow.specs.declared.Piece.TheVariants.{Horizontal}
use Rattle.flow.proofs.Laws.{line_same, start_same, end_same}
use Rattle.x_flow.specs.XFlow.{with_x, against_x, direct_x}
use Rattle.x_flow.proofs.direct.Goals as goal

pub returns : goal.returns
unfolding direct_x
returns c = ap Horizontal (search (line_same, start_same against_x, end_same with_x, rules))
