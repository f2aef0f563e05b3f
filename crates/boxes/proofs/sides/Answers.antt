-- `sides` is the strokes between the corners.
use borrow.Author.Rules.{rules}
use Rattle.window.proofs.Theorems.{ready_after}
use Rattle.boxes.proofs.Laws.{sides_done}
use Rattle.boxes.proofs.sides.Goals as goal

pub returns : goal.returns
returns c = sides_done _ _ c.args.tint c.args.w c.args.left c.args.right c.args.top c.args.bottom _ _ _ c.across_both.ensures c.down_both.ensures

pub down_both-requires : goal.down_both-requires
down_both-requires c = ready_after _ _ _ _ _ _ _ _ _ _ c.across_both.ensures (search rules)
