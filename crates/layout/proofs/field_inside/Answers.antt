-- `field_inside` reads the word at a field's place, which is there.
use borrow.Author.Rules.{rules}
use Rattle.layout.proofs.Inside.{place_inside}
use Rattle.layout.proofs.field_inside.Goals as goal

pub returns : goal.returns
returns c = rw (c.word_inside.ensures, c.place_of.ensures)

pub word_inside-requires : goal.word_inside-requires
word_inside-requires c = search (place_inside, rules)
