-- `arm` takes the greater of two arms.
use borrow.Author.Rules.{rules}
use Rattle.canvas.proofs.PackedStroke.{arm_new, arm_old, arm_none}
use Rattle.canvas.proofs.packed.arm.Goals as goal

pub returns-then-old-new : goal.returns-then-old-new
returns-then-old-new c = arm_new c.args.old _ (search rules) (search rules)

pub returns-then-old-le3 : goal.returns-then-old-le3
returns-then-old-le3 c = arm_old _ _ (search rules) (search rules)

pub returns-else-old-le3 : goal.returns-else-old-le3
returns-else-old-le3 c = arm_none c.args.old _ (search rules) (search rules)
