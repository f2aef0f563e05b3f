-- `tables_of` gives the eight tables, each where the one before it ends, and each small.
use mathlib.Core.Path.{refl}
use Rattle.layout.proofs.Laws.{tables_follow}
use Rattle.layout.proofs.tables_of.Goals as goal

pub returns-clause-value : goal.returns-clause-value
returns-clause-value c =
    (tables_follow c.args.image.now
    c.table_after-nodes.result
    c.table_after-edges.result
    c.table_after-subgraphs.result
    c.table_after-labels.result
    c.table_after-elements.result
    c.table_after-points.result
    c.table_after-glyphs.result
    c.table_after-ranges.result
    c.table_after-nodes.ensures
    c.table_after-edges.ensures
    c.table_after-subgraphs.ensures
    c.table_after-labels.ensures
    c.table_after-elements.ensures
    c.table_after-points.ensures
    c.table_after-glyphs.ensures
    c.table_after-ranges.ensures
    _ refl).0
