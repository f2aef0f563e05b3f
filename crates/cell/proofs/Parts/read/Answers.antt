-- `Parts::read` reads the parts of any word, by its tag.
use Rattle.std.proofs.Common.{arith}
use Rattle.std.proofs.lemmas.Grind.{common_steps}
use Rattle.cell.specs.OneCell.{read}
use Rattle.cell.proofs.Parts.read.Goals as goal

pub returns-in-0 : goal.returns-in-0
unfolding read
returns-in-0 c = rw c.in-0.is

pub returns-in-1 : goal.returns-in-1
unfolding read
returns-in-1 c = rw c.in-1.is c.read_text.ensures

pub returns-in-2 : goal.returns-in-2
unfolding read
returns-in-2 c = rw (c.in-2.is, c.read.ensures)

pub returns-in_default : goal.returns-in_default
unfolding read
returns-in_default c = grind (arith, common_steps)
