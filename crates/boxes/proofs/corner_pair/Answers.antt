-- `corner_pair` is the two corners on a row.
use borrow.Author.Rules.{rules}
use Rattle.window.proofs.Theorems.{ready_after}
use Rattle.boxes.proofs.Laws.{pair_done}
use Rattle.boxes.proofs.corner_pair.Goals as goal

pub returns : goal.returns
returns c = pair_done _ _ c.args.tint c.args.w c.args.left c.args.right c.args.y c.args.down _ _ _ _ _ c.corner-one.ensures c.corner-two.ensures c.stroke_at.ensures c.stroke_at-2.ensures

pub stroke_at-requires-2 : goal.stroke_at-requires-2
stroke_at-requires-2 c = ready_after _ _ _ _ _ _ _ _ _ _ c.stroke_at.ensures (search rules)
