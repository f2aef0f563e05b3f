-- `stroke_at` is the write of a stroke.
use borrow.Author.Rules.{rules}
use mathlib.Core.Path.{refl, sym, ◌∙◌}
use Rattle.window.specs.Writes.{columns_of}
use Rattle.window.proofs.Laws.{ink_inside, ink_outside}
use Rattle.window.proofs.stroke_at.Goals as goal

pub returns-then-has : goal.returns-then-has
unfolding columns_of
returns-then-has c = ink_inside _ _ _ _ _ _ _ _ _ _ _ _ _ _ _ _ c.has.ensures c.if-has.true c.row_at-start.ensures.0 refl c.stroke_part.ensures (c.tint_part.ensures.colours_after, c.tint_part.ensures.stamps_after)

pub returns-else-has : goal.returns-else-has
returns-else-has c = ink_outside _ _ _ _ _ _ _ _ _ _ _ c.has.ensures c.if-has.false

pub row_at-start-requires : goal.row_at-start-requires
row_at-start-requires c = (sym c.has.ensures ∙ c.if-has.true, search rules)
