-- `put_decimal` stores the digits of a number, by how many it has.
use borrow.Author.Rules.{rules}
use Rattle.sequence.proofs.Laws.{one_digit, two_digits, three_digits}
use Rattle.sequence.proofs.put_decimal.Goals as goal

pub put_bytes-requires : goal.put_bytes-requires
put_bytes-requires c = (search rules, rw (one_digit _ c.if-n-lt10.true) at c.requires.1)

pub put_bytes-requires-then-n-lt100 : goal.put_bytes-requires-then-n-lt100
put_bytes-requires-then-n-lt100 c = (search rules, rw (two_digits _ c.if-n-lt10.false c.if-n-lt100.true) at c.requires.1)

pub put_bytes-requires-2 : goal.put_bytes-requires-2
put_bytes-requires-2 c = (search rules, rw (three_digits _ c.if-n-lt100.false) at c.requires.1)

pub returns-then-n-lt10 : goal.returns-then-n-lt10
returns-then-n-lt10 c = rw (one_digit _ c.if-n-lt10.true, ← c.digit.ensures) c.put_bytes.ensures

pub returns-then-n-lt100 : goal.returns-then-n-lt100
returns-then-n-lt100 c =
    rw (two_digits _ c.if-n-lt10.false c.if-n-lt100.true, ← c.digit-then-n-lt100.ensures, ← c.digit-then-n-lt100-2.ensures)
    c.put_bytes-then-n-lt100.ensures

pub returns : goal.returns
returns c =
    rw (three_digits _ c.if-n-lt100.false, ← c.digit-2.ensures, ← c.digit-3.ensures, ← c.digit-4.ensures)
    c.put_bytes-2.ensures
