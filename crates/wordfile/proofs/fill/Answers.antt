-- `fill` reads the bytes' words into the lent ones. The invariant: what is left to read makes of the words now what was to be made of them at first.
use borrow.Author.Rules.{rules}
use Rattle.wordfile.proofs.Laws.{all_left, one_less, none_left}
use Rattle.wordfile.proofs.fill.Goals as goal

pub loop-k-init : goal.loop-k-init
loop-k-init c = (search rules, search rules, all_left _ _ _)

pub loop-k-preserved : goal.loop-k-preserved
loop-k-preserved c = (search rules, search rules, one_less _ _ _ _ _ _ (search rules) c.loop-k.invariant.2 c.word_at.ensures)

pub returns-clause-words_after : goal.returns-clause-words_after
returns-clause-words_after c = rw (← c.min-count.ensures) (none_left _ _ _ _ _ (search rules) c.loop-k.invariant.2)
