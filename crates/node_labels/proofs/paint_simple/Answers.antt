-- `paint_simple` paints a label between brackets.
use borrow.Author.Rules.{rules}
use Rattle.window.proofs.Theorems.{ready_after}
use Rattle.node_labels.proofs.Laws.{simple_closed, simple_open}
use Rattle.node_labels.proofs.paint_simple.Goals as goal

pub text_until-requires : goal.text_until-requires
text_until-requires c = (ready_after _ _ _ _ _ _ _ _ _ _ c.glyph_at.ensures.stamps_after c.requires.0, (search rules, search rules))

pub glyph_at-requires-then-n-ge2 : goal.glyph_at-requires-then-n-ge2
glyph_at-requires-then-n-ge2 c =
    ready_after _ _ _ _ _ _ _ _ _ _ c.text_until.ensures
    (ready_after _ _ _ _ _ _ _ _ _ _ c.glyph_at.ensures.stamps_after c.requires.0)

pub returns-then-n-ge2 : goal.returns-then-n-ge2
returns-then-n-ge2 c =
    simple_closed _ _ _ c.args.n _ _ _ _ _ _ _ _ c.number-x.ensures.0 c.number-y.ensures.0 c.closing-close.ensures c.if-n-ge2.true c.glyph_at.ensures.stamps_after
    c.text_until.ensures c.glyph_at-then-n-ge2.ensures.stamps_after

pub returns-else-n-ge2 : goal.returns-else-n-ge2
returns-else-n-ge2 c = search (simple_open, rules)
