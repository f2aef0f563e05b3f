-- `cover_row` raises the cover by the runs of a row. The invariant: the cover is that of the runs from the link on, with no weight but from low to high. The
-- measure: the link, for links fall.
use borrow.Author.Rules.{rules}
use Rattle.runs.specs.Kept.{raise_column}
use Rattle.runs.proofs.Steps.{blank_run}
use Rattle.runs.proofs.Covering.{raise_other, cover_again}
use Rattle.runs.proofs.Threads.{walk_begin, walk_less, walk_done}
use Rattle.runs.proofs.cover.cover_row.Goals as goal

pub loop-link-init : goal.loop-link-init
loop-link-init c = (search rules, search rules, walk_begin _ _ _ _ _ _ _ _ _ (search rules) (search rules), search rules)

pub loop-link-smaller : goal.loop-link-smaller
loop-link-smaller c = walk_less _ _ _ _ _ _ _ _ _ _ _ (search rules) (search rules) c.loop-link.invariant.2 c.link_at-link.ensures.0

pub loop-link-preserved : goal.loop-link-preserved
loop-link-preserved c = (
  search rules,
  search rules,
  cover_again _ _ _ _ _ _ _ _ _ (search rules) (search rules) (search rules) c.loop-link.invariant.2 c.link_at-link.ensures.0 c.cover_run-run.ensures.cover_after,
  blank_run (λ cover. cover) (raise_column _) (raise_other _) _ _ _ _ _ _ _ _ _ _
      c.cover_run-run.ensures.low_value.0 c.cover_run-run.ensures.low_value.1 c.min-low.ensures c.max-high.ensures c.cover_run-run.ensures.cover_after c.loop-link.invariant.3,
)

pub returns-clause-covered : goal.returns-clause-covered
returns-clause-covered c = walk_done _ _ _ _ _ _ _ _ _ (search rules) c.loop-link.invariant.2

pub returns-clause-blank : goal.returns-clause-blank
returns-clause-blank c = (c.loop-link.invariant.3, c.loop-link.invariant.1)
