-- `stroke_shape` finds a stroke's character in the table.
use borrow.Author.Rules.{rules}
use Rattle.shapes.proofs.Laws.{stroke_found}
use Rattle.shapes.proofs.stroke_shape.Goals as goal

pub returns : goal.returns
returns c =
    stroke_found _ c.args.strokes.now _ _ _ (search rules)
    c.arms_number.ensures.0 c.number-place.ensures.0 c.code_point.ensures
