-- `pass` lets go: what is left is the record of the row below the band.
use mathlib.Core.Path.{refl}
use Rattle.sweep.proofs.Laws.{shown_few, passed}
use Rattle.sweep.proofs.pass.Goals as goal

pub let_go-kept-requires : goal.let_go-kept-requires
let_go-kept-requires c = (c.requires.0, shown_few _ _ _ _ _ c.requires.2 c.requires.3)

pub returns-clause-swept : goal.returns-clause-swept
returns-clause-swept c = (passed _ _ _ _ _ c.requires.2 c.requires.3 _ _ c.let_go-kept.ensures.value c.let_go-kept.ensures.list_after, refl)

pub returns-clause-marks_after : goal.returns-clause-marks_after
returns-clause-marks_after c = c.let_go-kept.ensures.marks_after
