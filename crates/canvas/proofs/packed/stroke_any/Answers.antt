-- `stroke_any` of packed words comes to a stroke at the column: on an empty cell, on a stroke, and by the general way on any other.
use borrow.Author.Rules.{rules}
use mathlib.Core.Path.{refl, sym}
use Rattle.canvas.proofs.Theorems.{stroke_off}
use Rattle.canvas.proofs.PackedStroke.{four_arms, on_empty, on_stroke, same_stroke}
use Rattle.canvas.proofs.packed.stroke_any.Goals as goal

pub returns-then-old-eq0 : goal.returns-then-old-eq0
returns-then-old-eq0 c = on_empty _ _ (search rules) _ _ _ c.if-old-eq0.true

pub returns-then-old-eq2 : goal.returns-then-old-eq2
returns-then-old-eq2 c = on_stroke _ _ (search rules) _ _ _ _ _ refl c.if-old-eq2.true c.merged.ensures

pub merged-requires : goal.merged-requires
merged-requires c = search (four_arms, rules)

pub returns-else-old-eq2 : goal.returns-else-old-eq2
returns-else-old-eq2 c = same_stroke _ _ _ _ _ _ c.read.ensures c.stroke.ensures

pub returns-else-x-row : goal.returns-else-x-row
returns-else-x-row c = sym (stroke_off _ _ _ _ c.if-x-row.false)
