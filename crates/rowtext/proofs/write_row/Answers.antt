-- `write_row` writes the cells from the first to the last, and the end of the row. The invariant: what is left to write.
use borrow.Author.Rules.{rules}
use Rattle.rowtext.proofs.Laws.{cell_fits, cell_less, end_fits, row_put}
use Rattle.rowtext.proofs.write_row.Goals as goal

pub write_cell-pen-requires : goal.write_cell-pen-requires
write_cell-pen-requires c =
    (search rules, cell_fits _ c.args.row.now c.args.colours.now c.args.out.now c.requires.1 c.loop-x.pen.colour c.loop-x.x _ c.loop-x.out c.loop-x.auto.out c.loop-x.invariant _ c.word.ensures c.loop-x-test.true)

pub loop-x-preserved : goal.loop-x-preserved
loop-x-preserved c =
    cell_less c.args.at c.args.row.now c.args.colours.now c.args.out.now c.requires.1 c.loop-x.pen.colour c.loop-x.x c.loop-x.pen.at c.loop-x.out c.loop-x.auto.out c.loop-x.invariant _ _ _ _ c.word.ensures c.loop-x-test.true
    (c.write_cell-pen.ensures.at_value.0, c.write_cell-pen.ensures.out_after) c.write_cell-pen.ensures.at_value.1

pub end_row-requires : goal.end_row-requires
end_row-requires c = end_fits c.args.at c.args.row.now c.args.colours.now c.args.out.now c.requires.1 c.loop-x.pen.colour c.loop-x.x _ c.loop-x.out c.loop-x.auto.out c.loop-x.invariant c.loop-x-test.false

pub returns : goal.returns
returns c =
    let p = row_put c.args.at c.args.row.now c.args.colours.now c.args.out.now c.requires.1 c.loop-x.pen.colour c.loop-x.x c.loop-x.pen.at c.loop-x.out c.loop-x.auto.out c.loop-x.invariant _ _ c.loop-x-test.false (c.end_row.ensures.value, c.end_row.ensures.out_after) in
    record { value = p.0; out_after = p.1 }
