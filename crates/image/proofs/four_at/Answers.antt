-- `four_at` reads four words that follow one another.
use borrow.Author.Rules.{rules}
use Rattle.image.proofs.Laws.{four_of, four_there}
use Rattle.image.proofs.four_at.Goals as goal

pub returns-then-at-image : goal.returns-then-at-image
returns-then-at-image c = search (four_there, rules)

pub returns : goal.returns
returns c = four_of _ _ _ _ _ _ _ _ (search rules) (search rules) (search rules) (search rules)
