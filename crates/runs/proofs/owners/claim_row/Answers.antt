-- `claim_row` claims columns for the runs of a row. The invariant: the owners are those of the runs from the link on, nobody but from low to high. The
-- measure: the link, for links fall.
use borrow.Author.Rules.{rules}
use Rattle.runs.specs.Kept.{claim_column}
use Rattle.runs.proofs.Steps.{blank_run}
use Rattle.runs.proofs.Owning.{number_other, claim_again}
use Rattle.runs.proofs.Threads.{walk_begin, walk_less, walk_done}
use Rattle.runs.proofs.owners.claim_row.Goals as goal

pub loop-link-init : goal.loop-link-init
loop-link-init c = (search rules, search rules, search rules, walk_begin _ _ _ _ _ _ _ _ _ (search rules) (search rules), search rules)

pub loop-link-smaller : goal.loop-link-smaller
loop-link-smaller c = walk_less _ _ _ _ _ _ _ _ _ _ _ (search rules) (search rules) c.loop-link.invariant.3 c.link_at-link.ensures.0

pub loop-link-preserved : goal.loop-link-preserved
loop-link-preserved c = (
  search rules,
  search rules,
  search rules,
  claim_again _ _ _ _ _ _ _ _ _ (search rules) (search rules) (search rules) (search rules) c.loop-link.invariant.3 c.link_at-link.ensures.0 c.claim_run-run.ensures.colours_after,
  blank_run (λ o. o.numbers) (claim_column _ _) (number_other _ _) _ _ _ _ _ _ _ _ _ _
      c.claim_run-run.ensures.low_value.0 c.claim_run-run.ensures.low_value.1 c.min-low.ensures c.max-high.ensures c.claim_run-run.ensures.colours_after c.loop-link.invariant.4,
)

pub returns-clause-owned : goal.returns-clause-owned
returns-clause-owned c = walk_done _ _ _ _ _ _ _ _ _ (search rules) c.loop-link.invariant.3

pub returns-clause-blank : goal.returns-clause-blank
returns-clause-blank c = (c.loop-link.invariant.4, c.loop-link.invariant.2)
