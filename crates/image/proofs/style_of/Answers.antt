-- `style_of` is what an edge's flags say.
use borrow.Author.Rules.{rules}
use Rattle.image.proofs.Laws.{style_is}
use Rattle.image.proofs.style_of.Goals as goal

pub returns : goal.returns
returns c = style_is _ _ _ _ _ _ _ c.bits.ensures (search rules) (search rules) (search rules) (search rules) (search rules)
