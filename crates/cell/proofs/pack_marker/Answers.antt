-- `pack_marker` gives the packing of a marker, which is below 128.
use borrow.Author.Rules.{rules}
use Rattle.cell.specs.OneCell.{pack_marker}
use Rattle.cell.proofs.pack_marker.Goals as goal

pub returns-then-dashed : goal.returns-then-dashed
unfolding pack_marker
returns-then-dashed c = simp c.if-dashed.true (search rules)

pub returns-else-dashed : goal.returns-else-dashed
unfolding pack_marker
returns-else-dashed c = simp c.if-dashed.false (search rules)
