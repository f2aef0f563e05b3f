-- `text_until` writes the glyphs before the closing column.
use borrow.Author.Rules.{rules}
use mathlib.Core.Path.{sym}
use lib.Seq.{length-take-le}
use Rattle.text.proofs.Laws.{part_few, until_inked}
use Rattle.text.proofs.text_until.Goals as goal

pub slice_bounds-text_at-end : goal.slice_bounds-text_at-end
slice_bounds-text_at-end c = sym (length-take-le _ _ (search rules))

pub text_at-requires : goal.text_at-requires
text_at-requires c = (search rules, (search rules, search (part_few, rules)))

pub returns : goal.returns
returns c = until_inked _ _ _ _ _ _ _ _ _ _ c.count_until-count.ensures.1 c.text_at.ensures.stamps_after
