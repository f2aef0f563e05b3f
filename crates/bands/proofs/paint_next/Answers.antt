-- `paint_next` selects by the sweep, paints the band, and passes it.
use borrow.Author.Rules.{rules}
use native.Mathlib.Omega.{arith}
use mathlib.Core.Path.{sym}
use Rattle.compose.proofs.Known.{walkable, marked_of}
use Rattle.bands.proofs.Next.{end_is, rows_inside, list_room, list_swept, back_room, back_cut, back_front, list_again, room_again, stepped, swept_again, marks_long}
use Rattle.bands.proofs.paint_next.Goals as goal

pub slice_bounds-select-end : goal.slice_bounds-select-end
slice_bounds-select-end c =
    let whole = end_is _ _ _ _ _ _ _ _ _ _ c.requires c.tables_of-ts.ensures.value c.scratch_room-needed.ensures in
    search rules

pub select-shown-requires : goal.select-shown-requires
select-shown-requires c =
    let inside = rows_inside c.args.image.now c.args.band c.args.sweep.next _ c.requires.inside c.rows_from-rows.ensures in (
      c.tables_of-ts.ensures.all_small,
      walkable _ _ c.requires.keeps c.tables_of-ts.ensures.value c.tables_of-ts.ensures.all_small,
      omega (arith, inside, c.requires.keeps.header.height),
      list_room _ _ _ _ _ _ _ _ _ _ c.requires c.tables_of-ts.ensures.value c.scratch_room-needed.ensures,
      list_swept _ _ _ _ _ _ _ _ _ _ c.requires c.tables_of-ts.ensures.value c.scratch_room-needed.ensures,
    )

pub slice_bounds-paint_rows-end : goal.slice_bounds-paint_rows-end
slice_bounds-paint_rows-end c = back_room _ _ _ _ _ _ _ _ _ _ c.requires c.tables_of-ts.ensures.value c.scratch_room-needed.ensures c.select-shown.new.list

pub slice_bounds-paint_rows-end-2 : goal.slice_bounds-paint_rows-end-2
slice_bounds-paint_rows-end-2 c = sym (back_cut _ _ _ _ _ _ _ _ _ _ c.requires c.tables_of-ts.ensures.value c.scratch_room-needed.ensures c.select-shown.new.list)

pub paint_rows-requires-clause-keeps : goal.paint_rows-requires-clause-keeps
paint_rows-requires-clause-keeps c =
    let inside = rows_inside c.args.image.now c.args.band c.args.sweep.next _ c.requires.inside c.rows_from-rows.ensures in (
      c.requires.keeps,
      c.tables_of-ts.ensures.value,
      c.tables_of-ts.ensures.all_small,
      inside,
      marked_of _ _ _ _ _ _ (walkable _ _ c.requires.keeps c.tables_of-ts.ensures.value c.tables_of-ts.ensures.all_small) (marks_long _ c.requires.unmarked) c.select-shown.ensures.marks_after,
    )

pub paint_rows-requires-clause-cells_len : goal.paint_rows-requires-clause-cells_len
paint_rows-requires-clause-cells_len c = (c.requires.lends.lent_cells, c.requires.lends.planes, back_front _ _ _ _ _ _ _ _ _ _ c.requires c.tables_of-ts.ensures.value c.scratch_room-needed.ensures c.select-shown.new.list)

pub pass-requires : goal.pass-requires
pass-requires c =
    let inside = rows_inside c.args.image.now c.args.band c.args.sweep.next _ c.requires.inside c.rows_from-rows.ensures in (
      c.tables_of-ts.ensures.all_small,
      omega (arith, inside, c.select-shown.ensures.swept.1, c.requires.keeps.header.height),
      room_again _ _ _ _ _ _ _ _ _ _ c.requires c.tables_of-ts.ensures.value c.scratch_room-needed.ensures c.select-shown.new.list c.paint_rows.new.scratch c.scratch-1.given.0 c.paint_rows.ensures.scratch_len_unchanged,
      swept_again _ _ _ _ _ _ (list_again _ _ _ _ _ _ _ _ _ _ c.requires c.tables_of-ts.ensures.value c.scratch_room-needed.ensures c.select-shown.new.list c.paint_rows.new.scratch c.scratch-1.given.0 c.paint_rows.ensures.scratch_len_unchanged) c.select-shown.ensures.swept.0,
    )

pub returns : goal.returns
returns c =
    stepped _ _ _ _ _ _ _ _ _ _ c.requires c.tables_of-ts.ensures.value c.scratch_room-needed.ensures c.select-shown.new.list c.paint_rows.new.scratch c.scratch-1.given.0 c.paint_rows.ensures.scratch_len_unchanged
    c.args.band _ c.rows_from-rows.ensures c.select-shown.result c.pass.result c.paint_rows.new.cells c.paint_rows.new.colours c.paint_rows.new.stamps
    c.pass.new.list _ _ c.select-shown.ensures.swept.1 c.select-shown.ensures.marks_after_2 c.paint_rows.ensures.with_band c.scratch-3-1.given.0 c.pass.ensures.swept c.pass.ensures.marks_after
