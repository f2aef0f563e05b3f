-- `is_short` tells whether a lent buffer has fewer words than are wanted.
use borrow.Author.Rules.{rules}
use Rattle.lending.proofs.Laws.{short_of}
use Rattle.lending.proofs.is_short.Goals as goal

pub returns : goal.returns
returns c = search (short_of, rules)
