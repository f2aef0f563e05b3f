-- `paint` answers as the first broken rule refuses, and leaves all as it was; or paints the band.
use Rattle.paint.proofs.Room.{plain_ready}
use Rattle.paint.proofs.Laws.{plain_refused, plain_painted}
use Rattle.paint.proofs.paint.Goals as goal

pub paint_plain-requires : goal.paint_plain-requires
paint_plain-requires c = plain_ready _ _ _ _ _ _ c.plain_verdict-verdict.ensures c.in-Ok.is

pub returns-in_default : goal.returns-in_default
returns-in_default c =
    let p = plain_refused c.args.image.now c.args.first c.args.rows c.args.cells.now c.args.scratch.now c.plain_verdict-verdict.result c.plain_verdict-verdict.ensures
    c.outcome_of.result c.outcome_of.ensures c.in_default.field-0.code c.in_default.field-0.place c.in_default.is in
    record { value = p.0; cells_after = p.1.0; scratch_after = p.1.1 }

pub returns : goal.returns
returns c =
    let p = plain_painted c.args.image.now c.args.first c.args.rows c.args.cells.now c.args.scratch.now c.plain_verdict-verdict.result c.plain_verdict-verdict.ensures
    c.outcome_of-2.result c.outcome_of-2.ensures c.paint_plain.new.cells c.paint_plain.new.scratch c.in-Ok.is
    c.paint_plain.ensures.cells_after c.paint_plain.ensures.scratch_after in
    record { value = p.0; cells_after = p.1.0; scratch_after = p.1.1 }
