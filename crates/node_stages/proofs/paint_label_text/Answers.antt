-- `paint_label_text` paints a placed label whose edge has a label that the policy lets be painted, and nothing otherwise.
use borrow.Author.Rules.{rules}
use Rattle.stage.proofs.Laws.{label_short}
use Rattle.node_stages.proofs.Laws.{label_absent, label_left_out, label_painted}
use Rattle.node_stages.proofs.paint_label_text.Goals as goal

pub returns-in_default : goal.returns-in_default
returns-in_default c = search (label_absent, rules)

pub span_words-glyphs-requires : goal.span_words-glyphs-requires
span_words-glyphs-requires c = c.requires.0.small.glyphs

pub paint_quoted-requires : goal.paint_quoted-requires
paint_quoted-requires c =
    (c.requires.1, label_short _ _ _ _ _ _ _ c.requires.0 c.span_words-glyphs.ensures (search rules), c.number-x.ensures.1)

pub returns-then-paints_under : goal.returns-then-paints_under
returns-then-paints_under c =
    label_painted _ _ _ _ _ c.requires.0 _ _ _ _ _ c.placed_label_at-placed.ensures c.number.ensures.0 c.edge_at-edge.ensures _ _ _ c.header_of-header.ensures c.in-Some.is c.paints_under.ensures
    _ _ _ _ c.if-paints_under.true c.number-x.ensures.0 c.number-y.ensures.0 c.span_words-glyphs.ensures c.paint_quoted.ensures

pub returns-else-paints_under : goal.returns-else-paints_under
returns-else-paints_under c = search (label_left_out, rules)
