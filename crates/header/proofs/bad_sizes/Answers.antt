-- `bad_sizes` finds the first of width, height, run capacity and flags that breaks its rule.
use Rattle.header.specs.InTurn.{or_words}
use Rattle.header.specs.Header.{size_rules}
use Rattle.header.proofs.bad_sizes.Goals as goal

pub returns : goal.returns
unfolding size_rules or_words
returns c = rw (c.clear.ensures, c.at_most-runs.ensures, c.at_most-height.ensures, c.at_most-width.ensures)
