-- `label_rows` gives the row of a subgraph's label, where it makes ink.
use Rattle.frame.proofs.subgraphs.label_rows.Goals as goal

pub returns-then-label_inks : goal.returns-then-label_inks
returns-then-label_inks c =
    rw (
      ← c.label_inks.ensures,
      c.if-label_inks.true,
      c.clip.ensures,
      c.label_row-row.ensures,
    )

pub returns-else-label_inks : goal.returns-else-label_inks
returns-else-label_inks c = rw (← c.label_inks.ensures, c.if-label_inks.false)
