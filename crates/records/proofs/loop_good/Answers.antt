-- `loop_good` tells whether a loop coordinate keeps its rule.
use Rattle.records.proofs.loop_good.Goals as goal

pub returns-then-flag : goal.returns-then-flag
returns-then-flag c = rw (← c.flag.ensures, c.if-flag.true)

pub returns-else-flag : goal.returns-else-flag
returns-else-flag c = rw (← c.flag.ensures, c.if-flag.false)
