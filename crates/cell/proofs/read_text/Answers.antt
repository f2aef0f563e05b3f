-- `read_text` reads a code point or a continuation from any word.
use borrow.Author.Tests.{eq-eqb, ne_eqb}
use Rattle.cell.specs.OneCell.{read_text}
use Rattle.cell.proofs.read_text.Goals as goal

pub returns-then-second-eq1 : goal.returns-then-second-eq1
unfolding read_text
returns-then-second-eq1 c = simp (eq-eqb _ _ c.if-second-eq1.true)

pub returns-else-second-eq1 : goal.returns-else-second-eq1
unfolding read_text
returns-else-second-eq1 c = simp (ne_eqb _ _ c.if-second-eq1.false)
