-- `text_at` writes glyphs side by side into a row of the window, and nothing into any other row.
use borrow.Author.Rules.{rules}
use mathlib.Core.Path.{refl, sym, ◌∙◌}
use Rattle.rows.proofs.Windows.{clash}
use Rattle.text.proofs.Laws.{text_inside, text_outside}
use Rattle.text.proofs.text_at.Goals as goal

pub returns-then-has-clause-value : goal.returns-then-has-clause-value
returns-then-has-clause-value c = (λ h. c.glyphs_part-end.ensures.value)

pub returns-then-has-clause-stamps_after : goal.returns-then-has-clause-stamps_after
returns-then-has-clause-stamps_after c =
    text_inside _ _ _ _ _ _ _ _ _ _ _ _ _ _ _ _ _ c.has.ensures c.if-has.true c.row_at-start.ensures.0 c.glyphs_part-end.ensures.value refl c.glyphs_part-end.ensures.cells_after
    (c.tint_part.ensures.colours_after, c.tint_part.ensures.stamps_after)

pub returns-clause-value : goal.returns-clause-value
returns-clause-value c = (λ h. clash h (sym c.has.ensures ∙ c.if-has.false))

pub returns-clause-stamps_after : goal.returns-clause-stamps_after
returns-clause-stamps_after c = text_outside _ _ _ _ _ _ _ _ _ _ _ c.has.ensures c.if-has.false

pub row_at-start-requires : goal.row_at-start-requires
row_at-start-requires c = (sym c.has.ensures ∙ c.if-has.true, search rules)
