-- `digit` is the digit of a number below 16.
use borrow.Author.Rules.{rules}
use Rattle.hexrow.proofs.Laws.{low_digit, high_digit}
use Rattle.hexrow.proofs.digit.Goals as goal

pub returns-then-n-lt10 : goal.returns-then-n-lt10
returns-then-n-lt10 c = search (low_digit, rules)

pub returns-else-n-lt10 : goal.returns-else-n-lt10
returns-else-n-lt10 c = search (high_digit, rules)
