-- `crossing_reach` joins what a crossing reaches.
use borrow.Author.Rules.{rules}
use native.Mathlib.Omega.{arith}
use Rattle.y_reach.proofs.Reached.{crossing_joined}
use Rattle.y_reach.proofs.crossing_reach.Goals as goal

pub returns : goal.returns
returns c = (search (crossing_joined, rules), omega arith)
