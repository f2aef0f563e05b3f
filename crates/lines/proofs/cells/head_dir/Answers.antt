-- `head_dir` says where an arrow points.
use borrow.Author.Rules.{rules}
use Rattle.lines.specs.Computed.{head_dir}
use Rattle.lines.proofs.cells.head_dir.Goals as goal

pub returns-in-None : goal.returns-in-None
unfolding head_dir
returns-in-None c = search rules

pub returns-in-Some : goal.returns-in-Some
unfolding head_dir
returns-in-Some c = search rules
