-- `is_free` adds up the marks of a group.
use mathlib.Core.Path.{refl}
use Rattle.stage.proofs.Laws.{group_free}
use Rattle.stage.proofs.is_free.Goals as goal

pub returns : goal.returns
returns c t =
    group_free c.args.marks.now _ _ _ _ _ _ _
    c.four_marks.ensures.value
    c.four_marks-2.ensures.value
    c.four_marks-3.ensures.value
    c.four_marks-4.ensures.value
    refl
    refl
    t
