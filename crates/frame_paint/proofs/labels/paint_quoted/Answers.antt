-- `paint_quoted` paints a label between quotes where the row is the window's, and nothing where it is not.
use borrow.Author.Rules.{rules}
use mathlib.Core.Path.{sym, ◌∙◌}
use Rattle.window.proofs.Theorems.{ready_after}
use Rattle.text.proofs.Laws.{text_outside}
use Rattle.frame_paint.proofs.Laws.{quoted_inked}
use Rattle.frame_paint.proofs.labels.paint_quoted.Goals as goal

pub text_at-end-requires : goal.text_at-end-requires
text_at-end-requires c = (ready_after _ _ _ _ _ _ _ _ _ _ c.glyph_at-columns.ensures.stamps_after c.requires.0, (search rules, search rules))

pub glyph_at-requires : goal.glyph_at-requires
glyph_at-requires c =
    ready_after _ _ _ _ _ _ _ _ _ _ c.text_at-end.ensures.stamps_after
    (ready_after _ _ _ _ _ _ _ _ _ _ c.glyph_at-columns.ensures.stamps_after c.requires.0)

pub returns-then-has : goal.returns-then-has
returns-then-has c =
    let inside = sym c.has.ensures ∙ c.if-has.true in
    quoted_inked _ _ _ _ _ _ _ _ _ _ _ _ c.glyph_at-columns.ensures.value.0 (c.text_at-end.ensures.value inside) c.glyph_at-columns.ensures.stamps_after c.text_at-end.ensures.stamps_after c.glyph_at.ensures.stamps_after

pub returns-else-has : goal.returns-else-has
returns-else-has c = text_outside _ _ _ _ _ _ _ _ _ _ _ c.has.ensures c.if-has.false
