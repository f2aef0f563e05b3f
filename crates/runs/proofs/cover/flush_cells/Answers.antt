-- `flush_cells` inks a row by its cover.
use borrow.Author.Rules.{rules}
use mathlib.Core.Path.{refl}
use Rattle.runs.proofs.Steps.{blank}
use Rattle.runs.proofs.Covering.{no_cover, inked}
use Rattle.runs.proofs.cover.flush_cells.Goals as goal

pub cover_row-inked-requires-clause-n_in_bounds : goal.cover_row-inked-requires-clause-n_in_bounds
cover_row-inked-requires-clause-n_in_bounds c = (search rules, search rules)

pub cover_row-inked-requires-clause-head_value : goal.cover_row-inked-requires-clause-head_value
cover_row-inked-requires-clause-head_value c = (search rules, search rules, no_cover 1024 _ _, blank 1024 _ _)

pub returns : goal.returns
returns c = inked _ _ _ _ _ _ _ _ _ refl c.cover_row-inked.ensures.blank.1 c.cover_row-inked.ensures.covered c.cover_row-inked.ensures.blank.0 c.ink_columns.ensures
