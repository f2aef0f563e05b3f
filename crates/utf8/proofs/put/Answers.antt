-- `put` stores the bytes of a character, by how many it takes.
use borrow.Author.Rules.{rules}
use Rattle.utf8.proofs.Laws.{one_byte, two_bytes, three_bytes, four_bytes}
use Rattle.utf8.proofs.put.Goals as goal

pub put_bytes-requires : goal.put_bytes-requires
put_bytes-requires c = (search rules, rw (one_byte _ c.if-ch-lt-TWO_BYTES.true) at c.requires.1)

pub put_bytes-requires-then-ch-lt-THREE_BYTES : goal.put_bytes-requires-then-ch-lt-THREE_BYTES
put_bytes-requires-then-ch-lt-THREE_BYTES c = (search rules, rw (two_bytes _ c.if-ch-lt-TWO_BYTES.false c.if-ch-lt-THREE_BYTES.true) at c.requires.1)

pub put_bytes-requires-then-ch-lt-FOUR_BYTES : goal.put_bytes-requires-then-ch-lt-FOUR_BYTES
put_bytes-requires-then-ch-lt-FOUR_BYTES c = (search rules, rw (three_bytes _ c.if-ch-lt-THREE_BYTES.false c.if-ch-lt-FOUR_BYTES.true) at c.requires.1)

pub put_bytes-requires-2 : goal.put_bytes-requires-2
put_bytes-requires-2 c = (search rules, rw (four_bytes _ c.if-ch-lt-FOUR_BYTES.false) at c.requires.1)

pub returns-then-ch-lt-TWO_BYTES : goal.returns-then-ch-lt-TWO_BYTES
returns-then-ch-lt-TWO_BYTES c =
    rw (one_byte _ c.if-ch-lt-TWO_BYTES.true, ← c.byte.ensures) c.put_bytes.ensures

pub returns-then-ch-lt-THREE_BYTES : goal.returns-then-ch-lt-THREE_BYTES
returns-then-ch-lt-THREE_BYTES c =
    rw (two_bytes _ c.if-ch-lt-TWO_BYTES.false c.if-ch-lt-THREE_BYTES.true, ← c.byte-then-ch-lt-THREE_BYTES.ensures, ← c.tail.ensures)
    c.put_bytes-then-ch-lt-THREE_BYTES.ensures

pub returns-then-ch-lt-FOUR_BYTES : goal.returns-then-ch-lt-FOUR_BYTES
returns-then-ch-lt-FOUR_BYTES c =
    rw (three_bytes _ c.if-ch-lt-THREE_BYTES.false c.if-ch-lt-FOUR_BYTES.true, ← c.byte-then-ch-lt-FOUR_BYTES.ensures, ← c.tail-then-ch-lt-FOUR_BYTES.ensures, ← c.tail-then-ch-lt-FOUR_BYTES-2.ensures)
    c.put_bytes-then-ch-lt-FOUR_BYTES.ensures

pub returns : goal.returns
returns c =
    rw (four_bytes _ c.if-ch-lt-FOUR_BYTES.false, ← c.byte-2.ensures, ← c.tail-2.ensures, ← c.tail-3.ensures, ← c.tail-4.ensures)
    c.put_bytes-2.ensures
