-- `bad_loop_word` finds a loop coordinate that breaks its rule.
use Rattle.records.proofs.bad_loop_word.Goals as goal

pub returns : goal.returns
returns c = rw (c.or_unless.ensures, c.loop_good.ensures, c.word_inside.ensures)
