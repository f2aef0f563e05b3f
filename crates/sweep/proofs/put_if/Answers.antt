-- `put_if` puts a word, or nothing.
use Rattle.sweep.proofs.put_if.Goals as goal

pub returns-then-wanted-clause-value : goal.returns-then-wanted-clause-value
returns-then-wanted-clause-value c = rw c.if-wanted.true

pub returns-then-wanted-clause-list_after : goal.returns-then-wanted-clause-list_after
returns-then-wanted-clause-list_after c = rw c.if-wanted.true
