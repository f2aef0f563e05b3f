-- `char_width` is the width of a value. The invariant: what is left to bisect finds that width. The measure: how many ranges are left.
use borrow.Author.Rules.{rules}
use Rattle.glyph.proofs.Laws.{all_ranges, searched, left_half, right_half, found}
use Rattle.glyph.proofs.char_width.Goals as goal

pub loop-low-init : goal.loop-low-init
loop-low-init c = (search rules, all_ranges _ _)

pub loop-low-preserved-then-value-range : goal.loop-low-preserved-then-value-range
loop-low-preserved-then-value-range c = (search rules, left_half _ _ _ _ _ (search rules) (search rules) (search rules))

pub loop-low-preserved : goal.loop-low-preserved
loop-low-preserved c = (search rules, right_half _ _ _ _ _ (search rules) (search rules) (search rules) (search rules))

pub returns-else-range-value : goal.returns-else-range-value
returns-else-range-value c = (found _ _ _ _ _ c.loop-low.invariant.1 (search rules) _ (search rules) (search rules) (search rules), search rules)

pub returns : goal.returns
returns c = (searched _ _ _ _ _ c.loop-low.invariant.1 (search rules), search rules)
