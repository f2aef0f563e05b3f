-- `glyph_at` is the write of a glyph, and answers its width.
use borrow.Author.Rules.{rules}
use native.Mathlib.Omega.{arith}
use mathlib.Core.Path.{sym, ◌∙◌}
use Rattle.window.specs.Writes.{columns_of}
use Rattle.window.proofs.Laws.{ink_inside, ink_outside}
use Rattle.window.proofs.glyph_at.Goals as goal

pub returns-then-has-clause-value : goal.returns-then-has-clause-value
unfolding columns_of
returns-then-has-clause-value c =
    let columns = c.number-columns.ensures.0 ∙ c.char_width.ensures.0 in
    (columns, omega (arith, c.number-columns.ensures.0, c.char_width.ensures.1))

pub returns-then-has-clause-stamps_after : goal.returns-then-has-clause-stamps_after
unfolding columns_of
returns-then-has-clause-stamps_after c =
    let columns = c.number-columns.ensures.0 ∙ c.char_width.ensures.0 in
    ink_inside _ _ _ _ _ _ _ _ _ _ _ _ _ _ _ _ c.has.ensures c.if-has.true c.row_at-start.ensures.0 columns c.glyph_part.ensures (c.tint_part.ensures.colours_after, c.tint_part.ensures.stamps_after)

pub returns-else-has-clause-value : goal.returns-else-has-clause-value
returns-else-has-clause-value c = (c.number-columns.ensures.0 ∙ c.char_width.ensures.0, omega (arith, c.number-columns.ensures.0, c.char_width.ensures.1))

pub returns-else-has-clause-stamps_after : goal.returns-else-has-clause-stamps_after
returns-else-has-clause-stamps_after c = ink_outside _ _ _ _ _ _ _ _ _ _ _ c.has.ensures c.if-has.false

pub row_at-start-requires : goal.row_at-start-requires
row_at-start-requires c = (sym c.has.ensures ∙ c.if-has.true, search rules)
