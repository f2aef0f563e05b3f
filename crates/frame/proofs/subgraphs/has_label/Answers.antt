-- `has_label` says whether a subgraph has a label.
use borrow.Author.Tests.{lt-ltb, le-ltb}
use Rattle.frame.specs.Subgraphs.{has_label}
use Rattle.frame.proofs.subgraphs.has_label.Goals as goal

pub returns-then-label-gt0 : goal.returns-then-label-gt0
unfolding has_label
returns-then-label-gt0 c = rw (lt-ltb _ _ c.if-label-gt0.true) c.at_least.ensures

pub returns-else-label-gt0 : goal.returns-else-label-gt0
unfolding has_label
returns-else-label-gt0 c = rw (le-ltb _ _ c.if-label-gt0.false)
