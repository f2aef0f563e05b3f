-- `write_band` writes row after row. The invariant: what is left to write.
use borrow.Author.Rules.{rules}
use lib.ListN.{length}
use Rattle.rowtext.proofs.Laws.{row_fits, row_less, band_put, no_row_yet, row_inside}
use Rattle.rowtext.proofs.write_band.Goals as goal

pub loop-r-init : goal.loop-r-init
loop-r-init c = no_row_yet c.args.width c.args.rows c.args.cells.now c.args.colours.now c.args.out.now

pub overflow_mul-start : goal.overflow_mul-start
overflow_mul-start c =
    let inside = row_inside c.args.width c.args.rows c.loop-r.r (length c.args.cells.now) (search rules) c.requires.0 in
    search rules

pub write_part-at-requires : goal.write_part-at-requires
write_part-at-requires c = (
  search rules,
  row_inside c.args.width c.args.rows c.loop-r.r (length c.args.cells.now) c.loop-r-test.true c.requires.0,
  row_fits c.args.width c.args.rows c.args.cells.now c.args.colours.now c.args.out.now c.requires.1 c.loop-r.r c.loop-r.at c.loop-r.out c.loop-r.auto.out c.loop-r.invariant c.loop-r-test.true,
)

pub loop-r-preserved : goal.loop-r-preserved
loop-r-preserved c =
    row_less c.args.width c.args.rows c.args.cells.now c.args.colours.now c.args.out.now c.requires.1 c.loop-r.r c.loop-r.at c.loop-r.out c.loop-r.auto.out c.loop-r.invariant _ _ c.loop-r-test.true
    (c.write_part-at.ensures.value, c.write_part-at.ensures.out_after)

pub returns : goal.returns
returns c =
    let p = band_put c.args.width c.args.rows c.args.cells.now c.args.colours.now c.args.out.now c.requires.1 c.loop-r.r c.loop-r.at c.loop-r.out c.loop-r.auto.out c.loop-r.invariant c.loop-r-test.false in
    record { value = p.0; out_after = p.1 }
