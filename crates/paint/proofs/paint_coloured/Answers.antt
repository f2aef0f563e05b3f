-- `paint_coloured` answers as the first broken rule refuses, and leaves all as it was; or paints the band and its colours.
use Rattle.paint.proofs.Room.{coloured_ready}
use Rattle.paint.proofs.Laws.{coloured_refused, coloured_painted}
use Rattle.paint.proofs.paint_coloured.Goals as goal

pub paint_planes-requires : goal.paint_planes-requires
paint_planes-requires c = coloured_ready _ _ _ _ _ _ _ _ c.coloured_verdict-verdict.ensures c.in-Ok.is

pub returns-in_default : goal.returns-in_default
returns-in_default c =
    let p = coloured_refused c.args.image.now c.args.first c.args.rows c.args.cells.now c.args.colours.now c.args.stamps.now c.args.scratch.now c.coloured_verdict-verdict.result c.coloured_verdict-verdict.ensures
    c.outcome_of.result c.outcome_of.ensures c.in_default.field-0.code c.in_default.field-0.place c.in_default.is in
    record { value = p.0; cells_after = p.1.0; colours_after = p.1.1.0; stamps_after = p.1.1.1.0; scratch_after = p.1.1.1.1 }

pub returns : goal.returns
returns c =
    let p = coloured_painted c.args.image.now c.args.first c.args.rows c.args.cells.now c.args.colours.now c.args.stamps.now c.args.scratch.now c.coloured_verdict-verdict.result c.coloured_verdict-verdict.ensures
    c.outcome_of-2.result c.outcome_of-2.ensures c.paint_planes.new.cells c.paint_planes.new.colours c.paint_planes.new.stamps c.paint_planes.new.scratch c.in-Ok.is
    c.paint_planes.ensures.cells_after c.paint_planes.ensures.colours_after c.paint_planes.ensures.stamps_after c.paint_planes.ensures.scratch_after in
    record { value = p.0; cells_after = p.1.0; colours_after = p.1.1.0; stamps_after = p.1.1.1.0; scratch_after = p.1.1.1.1 }
