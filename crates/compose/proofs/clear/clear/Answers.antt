-- `clear` fills all words with 0.
use borrow.Author.Rules.{rules}
use Rattle.compose.proofs.Cleared.{cleared}
use Rattle.compose.proofs.clear.clear.Goals as goal

pub returns : goal.returns
returns c = search (cleared, rules)
