-- `loop_rule` is the rule of a loop coordinate, by the self-loop bit.
use Rattle.word_rules.proofs.loop_rule.Goals as goal

pub returns-then-flag : goal.returns-then-flag
returns-then-flag c = rw (← c.flag.ensures, c.if-flag.true)

pub returns-else-flag : goal.returns-else-flag
returns-else-flag c = rw (← c.flag.ensures, c.if-flag.false)
