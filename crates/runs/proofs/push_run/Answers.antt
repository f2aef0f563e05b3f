-- `push_run` writes the six words of a run at its record.
use borrow.Author.Rules.{rules}
use mathlib.Core.Path.{refl}
use lib.ListN.{length-set}
use Rattle.runs.specs.Kept.{keep}
use Rattle.runs.proofs.push_run.Goals as goal

pub returns : goal.returns
unfolding keep
returns c = refl

pub bounds-scratch-at-2 : goal.bounds-scratch-at-2
bounds-scratch-at-2 c = simp length-set (search rules)

pub bounds-scratch-at-3 : goal.bounds-scratch-at-3
bounds-scratch-at-3 c = simp length-set (search rules)

pub bounds-scratch-at-4 : goal.bounds-scratch-at-4
bounds-scratch-at-4 c = simp length-set (search rules)

pub bounds-scratch-at-5 : goal.bounds-scratch-at-5
bounds-scratch-at-5 c = simp length-set (search rules)

pub bounds-scratch-at-6 : goal.bounds-scratch-at-6
bounds-scratch-at-6 c = simp length-set (search rules)
