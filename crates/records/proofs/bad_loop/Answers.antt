-- `bad_loop` finds the first of loop x and loop y that breaks its rule.
use Rattle.header.specs.InTurn.{or_words}
use Rattle.records.proofs.bad_loop.Goals as goal

pub returns : goal.returns
unfolding or_words
returns c = rw (c.bad_loop_word.ensures, c.bad_loop_word-x.ensures, c.word_inside-flags.ensures)
