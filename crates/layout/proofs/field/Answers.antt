-- `field` reads the word at a field's place.
use Rattle.layout.proofs.field.Goals as goal

pub returns : goal.returns
returns c = rw (c.word.ensures, c.place_of.ensures)
