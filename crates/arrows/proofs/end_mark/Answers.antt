-- `end_mark` puts the marker of one end where the rule says.
use borrow.Author.Rules.{rules}
use Rattle.orthogonal.proofs.Laws.{end_unwanted, end_slanted, end_inside, end_only, end_bend}
use Rattle.arrows.proofs.end_mark.Goals as goal

pub returns-then-not-wanted : goal.returns-then-not-wanted
returns-then-not-wanted c = search (end_unwanted, rules)

pub returns-then-not-is_straight : goal.returns-then-not-is_straight
returns-then-not-is_straight c = search (end_slanted, rules)

pub returns-then-is_long : goal.returns-then-is_long
returns-then-is_long c = search (end_inside, rules)

pub returns-then-only : goal.returns-then-only
returns-then-only c = search (end_only, rules)

pub returns-else-only : goal.returns-else-only
returns-else-only c = search (end_bend, rules)
