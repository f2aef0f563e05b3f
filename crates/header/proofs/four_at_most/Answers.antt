-- `four_at_most` finds the first of four numbers that is over their limit.
use borrow.Author.Rules.{rules}
use Rattle.header.proofs.InTurn.{over_first, over_second, over_third, over_last, over_none}
use Rattle.header.proofs.four_at_most.Goals as goal

pub returns-then-limit-word_inside : goal.returns-then-limit-word_inside
returns-then-limit-word_inside c = search (over_first, rules)

pub returns-then-limit-word_inside-2 : goal.returns-then-limit-word_inside-2
returns-then-limit-word_inside-2 c = search (over_second, rules)

pub returns-then-limit-word_inside-3 : goal.returns-then-limit-word_inside-3
returns-then-limit-word_inside-3 c = search (over_third, rules)

pub returns-then-limit-word_inside-4 : goal.returns-then-limit-word_inside-4
returns-then-limit-word_inside-4 c = search (over_last, rules)

pub returns : goal.returns
returns c = search (over_none, rules)
