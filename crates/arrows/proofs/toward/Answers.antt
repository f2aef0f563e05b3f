-- `toward` compares x first.
use borrow.Author.Rules.{rules}
use Rattle.orthogonal.proofs.Laws.{toward_left, toward_right, toward_up, toward_down}
use Rattle.arrows.proofs.toward.Goals as goal

pub returns-then-t-a : goal.returns-then-t-a
returns-then-t-a c = toward_left _ _ (search rules)

pub returns-then-a-t : goal.returns-then-a-t
returns-then-a-t c = toward_right _ _ (search rules)

pub returns-then-t-a-2 : goal.returns-then-t-a-2
returns-then-t-a-2 c = toward_up _ _ (search rules) (search rules)

pub returns-else-t-a-2 : goal.returns-else-t-a-2
returns-else-t-a-2 c = toward_down _ _ (search rules) (search rules)
