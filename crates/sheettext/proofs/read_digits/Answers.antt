-- `read_digits` makes the value of its digits. The invariant: the digits that are left, after the value so far, make what all of them make after 0.
use borrow.Author.Rules.{rules}
use Rattle.sheettext.proofs.Numbers.{one_digit, no_digit, last_digit}
use Rattle.sheettext.proofs.read_digits.Goals as goal

pub returns-then-base-digit : goal.returns-then-base-digit
returns-then-base-digit c = search (no_digit, rules)

pub loop-byte-preserved : goal.loop-byte-preserved
loop-byte-preserved c = search (one_digit, rules)

pub returns : goal.returns
returns c = search (last_digit, rules)
