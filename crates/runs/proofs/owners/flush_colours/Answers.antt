-- `flush_colours` colours a row by its owners.
use borrow.Author.Rules.{rules}
use mathlib.Core.Path.{refl}
use Rattle.runs.proofs.Steps.{blank}
use Rattle.runs.proofs.Owning.{no_owners, coloured}
use Rattle.runs.proofs.owners.flush_colours.Goals as goal

pub claim_row-owned-requires-clause-n_in_bounds : goal.claim_row-owned-requires-clause-n_in_bounds
claim_row-owned-requires-clause-n_in_bounds c = (search rules, search rules, search rules)

pub claim_row-owned-requires-clause-head_value : goal.claim_row-owned-requires-clause-head_value
claim_row-owned-requires-clause-head_value c = (search rules, search rules, no_owners 1024 _ _, blank 1024 _ _)

pub returns : goal.returns
returns c = coloured _ _ _ _ _ _ _ _ _ refl c.claim_row-owned.ensures.blank.1 c.claim_row-owned.ensures.owned c.claim_row-owned.ensures.blank.0 c.colour_columns.ensures
