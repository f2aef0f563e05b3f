-- `thread_run` links a run to the head of its row, and is the head then.
use borrow.Author.Rules.{rules}
use mathlib.Core.Path.{refl}
use Rattle.flush.proofs.Linking.{thread_on, thread_below, thread_above}
use Rattle.flush.proofs.link.thread_run.Goals as goal

pub returns-then-i-lt-BLOCK : goal.returns-then-i-lt-BLOCK
returns-then-i-lt-BLOCK c =
    λ before t. thread_on _ _ _ _ _ _ t c.row_at-row.ensures.0 _ _ _
    (search rules) (search rules) (search rules) (search rules) refl c.set_link.ensures refl

pub returns-else-i-lt-BLOCK : goal.returns-else-i-lt-BLOCK
returns-else-i-lt-BLOCK c = λ before t. thread_below _ _ _ _ _ _ t c.row_at-row.ensures.0 (search rules) (search rules)

pub returns-else-base-row : goal.returns-else-base-row
returns-else-base-row c = λ before t. thread_above _ _ _ _ _ _ t c.row_at-row.ensures.0 (search rules)
