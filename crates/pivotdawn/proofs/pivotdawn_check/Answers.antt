-- `pivotdawn_check` answers the check's code, and stores its place and its run count.
use Rattle.pivotdawn.proofs.Told.{image_code, image_words}
use Rattle.pivotdawn.proofs.pivotdawn_check.Goals as goal

pub returns-clause-value : goal.returns-clause-value
returns-clause-value c = image_code _ _ c.check-found.ensures

pub returns-clause-answer_after : goal.returns-clause-answer_after
returns-clause-answer_after c = image_words _ _ c.check-found.ensures c.args.answer.now c.store.new.words _ c.store.ensures c.store-2.ensures
