-- `passed_at` finds a group free, or passes over the one thing.
use borrow.Author.Rules.{rules}
use Rattle.stage.proofs.Laws.{unmarked_one, unmarked_group}
use Rattle.stage.proofs.passed_at.Goals as goal

pub returns-then-is_free : goal.returns-then-is_free
returns-then-is_free c = (search rules, search rules, unmarked_group _ _ _ _ (search rules) (c.is_free.ensures (search rules)))

pub returns-else-is_free : goal.returns-else-is_free
returns-else-is_free c = (search rules, search rules, search (unmarked_one, rules))

pub returns-else-slot-marks : goal.returns-else-slot-marks
returns-else-slot-marks c = (search rules, search rules, search (unmarked_one, rules))
