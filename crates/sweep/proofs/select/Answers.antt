-- `select` takes on and marks: what a fresh selection marks.
use mathlib.Core.Path.{refl}
use Rattle.sweep.proofs.Laws.{active_few, shown_fits, selected, marked_fresh}
use Rattle.sweep.proofs.select.Goals as goal

pub take_on-taken-requires : goal.take_on-taken-requires
take_on-taken-requires c = (c.requires.0, active_few _ _ _ _ c.requires.1 c.requires.3 c.requires.4, c.requires.4.begun.there, c.requires.3, c.requires.1.few)

pub mark_active-requires : goal.mark_active-requires
mark_active-requires c = (c.requires.0, shown_fits _ _ _ _ c.requires.1 c.requires.3 c.requires.4 _ _ _ _ c.take_on-taken.ensures.taken_on c.take_on-taken.ensures.active_value c.take_on-taken.ensures.list_after)

pub returns-clause-swept : goal.returns-clause-swept
returns-clause-swept c = (selected _ _ _ _ c.requires.1 c.requires.3 c.requires.4 _ _ _ _ c.take_on-taken.ensures.taken_on c.take_on-taken.ensures.active_value c.take_on-taken.ensures.list_after, refl)

pub returns-clause-marks_after : goal.returns-clause-marks_after
returns-clause-marks_after c = marked_fresh _ _ _ _ c.requires.1 c.requires.3 c.requires.4 _ _ _ _ c.take_on-taken.ensures.taken_on c.take_on-taken.ensures.active_value c.take_on-taken.ensures.list_after _ _ c.mark_active.ensures

pub returns-clause-marks_after_2 : goal.returns-clause-marks_after_2
returns-clause-marks_after_2 c = c.mark_active.ensures
