-- `policy_of` gives the policy that the header's flags say.
use Rattle.image.proofs.policy_of.Goals as goal

pub returns-then-flag : goal.returns-then-flag
returns-then-flag c = rw (← c.flag.ensures, c.if-flag.true)

pub returns-else-flag : goal.returns-else-flag
returns-else-flag c = rw (← c.flag.ensures, c.if-flag.false)
