-- `word` reads the word at a place, and 0 past the end.
use borrow.Author.Rules.{rules}
use mathlib.Core.Path.{sym}
use lib.ListN.{get_or-eq_default}
use Rattle.layout.proofs.word.Goals as goal

pub returns-else-place-image : goal.returns-else-place-image
returns-else-place-image c = sym (get_or-eq_default c.args.image.now 0 {n = c.args.place} (search rules))
