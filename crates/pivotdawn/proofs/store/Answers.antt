-- `store` stores a number, or leaves words that have no such place.
use mathlib.Core.Path.{sym}
use lib.Seq.{set_out}
use borrow.Author.Rules.{rules}
use Rattle.pivotdawn.proofs.store.Goals as goal

pub returns-else-place-words : goal.returns-else-place-words
returns-else-place-words c = sym (set_out _ _ _ (search rules))
