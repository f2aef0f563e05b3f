-- `paint_sheet_coloured` answers as the first broken rule refuses, and leaves all as it was; or paints the sheet and its colours.
use Rattle.paintsheet.proofs.Laws.{coloured_ready, coloured_refused, coloured_painted}
use Rattle.paintsheet.proofs.paint_sheet_coloured.Goals as goal

pub returns-in_default : goal.returns-in_default
returns-in_default c = coloured_refused _ _ _ _ _ _ _ c.sheet_coloured_verdict-verdict.ensures _ c.outcome_of.ensures c.in_default.field-0.code c.in_default.field-0.place c.in_default.is

pub paint_accepted_coloured-requires : goal.paint_accepted_coloured-requires
paint_accepted_coloured-requires c = coloured_ready _ _ _ _ _ _ _ c.sheet_coloured_verdict-verdict.ensures c.in-Ok.is

pub returns : goal.returns
returns c = coloured_painted _ _ _ _ _ _ _ c.sheet_coloured_verdict-verdict.ensures _ c.outcome_of-2.ensures _ _ _ _ c.in-Ok.is c.paint_accepted_coloured.ensures.cells_after c.paint_accepted_coloured.ensures.colours_after c.paint_accepted_coloured.ensures.stamps_after c.paint_accepted_coloured.ensures.scratch_after
