-- `paint_sheet` answers as the first broken rule refuses, and leaves all as it was; or paints the sheet.
use Rattle.paintsheet.proofs.Laws.{plain_ready, plain_refused, plain_painted}
use Rattle.paintsheet.proofs.paint_sheet.Goals as goal

pub returns-in_default : goal.returns-in_default
returns-in_default c = plain_refused _ _ _ _ _ c.sheet_verdict-verdict.ensures _ c.outcome_of.ensures c.in_default.field-0.code c.in_default.field-0.place c.in_default.is

pub paint_accepted-requires : goal.paint_accepted-requires
paint_accepted-requires c = plain_ready _ _ _ _ _ c.sheet_verdict-verdict.ensures c.in-Ok.is

pub returns : goal.returns
returns c = plain_painted _ _ _ _ _ c.sheet_verdict-verdict.ensures _ c.outcome_of-2.ensures _ _ c.in-Ok.is c.paint_accepted.ensures.cells_after c.paint_accepted.ensures.scratch_after
