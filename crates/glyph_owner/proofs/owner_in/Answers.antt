-- `owner_in` finds the first thing of a kind whose label holds a glyph. The invariant: what is found among the things left is what is found among all.
use borrow.Author.Rules.{rules}
use Rattle.glyph_owner.proofs.Laws.{look_whole, look_hit, look_on, look_done}
use Rattle.glyph_owner.proofs.owner_in.Goals as goal

pub loop-k-init : goal.loop-k-init
loop-k-init c = look_whole _ _ _ _

pub returns-then-holds_glyph : goal.returns-then-holds_glyph
returns-then-holds_glyph c = search (look_hit, rules)

pub loop-k-preserved : goal.loop-k-preserved
loop-k-preserved c = search (look_on, rules)

pub returns : goal.returns
returns c = search (look_done, rules)
