-- `claim_column` gives a column to a run with the higher number.
use Rattle.runs.proofs.Owning.{chosen_run, chosen_kept, claimed}
use Rattle.runs.proofs.owners.claim_column.Goals as goal
use Rattle.runs.proofs.owners.claim_column.Goals.{then-old-number, else-old-number, then-old-number-2, else-old-number-2}

pub returns : goal.returns
returns c =
    claimed _ _ _ _ _ _ _
    (elim c.if-old-number.branch [ then-old-number w ↦ chosen_run _ _ _ _ _ w.if-old-number.true w.numbers-is | else-old-number w ↦ chosen_kept _ _ _ _ _ w.if-old-number.false w.numbers-is ])
    (elim c.if-old-number-2.branch [ then-old-number-2 w ↦ chosen_run _ _ _ _ _ w.if-old-number-2.true w.colours-is | else-old-number-2 w ↦ chosen_kept _ _ _ _ _ w.if-old-number-2.false w.colours-is ])
